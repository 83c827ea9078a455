-- Laws of Create Group, by what was found.
use Rattle.words.specs.Basics.{◌≡◌, refl, sym, ap, ◌∙◌, Bool, true, false, cond, List, [], ◌∷◌, ℕ, ◌<◌, ◌≤◌, arith, leb, length, leb-true, le-leb, lt-leb}
use Rattle.words.specs.Names.{ok, not_enough_resources}
use Rattle.rules.specs.Types.{GroupAddress, Code, Groups}
use Rattle.rules.specs.Lists.{ask}
use Rattle.rules.specs.Octets.{octet, octets, over}
use Rattle.rules.specs.Tables.{Rec, some_free, store}
use Rattle.rules.specs.Layout.{size, longest_name, group_record}
use Rattle.rules.specs.Frame.{table}
use Rattle.rules.specs.Commands.{creation, new_group, on_ok}
use Rattle.changing.specs.Changing.{Coded, coded, coding}
use Rattle.changing.proofs.Changed.{changes, stays}
use Rattle.creating.specs.Creating.{made, making}

pub name_too_long : (p : List ℕ) (t : List Rec) → longest_name < octet 0 p → not_enough_resources ≡ creation p t
unfolding creation ask
name_too_long p t h = rw (lt-leb _ _ h)

pub no_group-room : (p : List ℕ) (t : List Rec) → octet 0 p ≤ longest_name → some_free t ≡ false → not_enough_resources ≡ creation p t
unfolding creation ask
no_group-room p t h g = rw (le-leb _ _ h, g)

pub creatable : (p : List ℕ) (t : List Rec) → octet 0 p ≤ longest_name → some_free t ≡ true → ok ≡ creation p t
unfolding creation ask
creatable p t h g = rw (le-leb _ _ h, g)

-- .. and of 0x00 the name fits
pub name-fits : (p : List ℕ) (t : List Rec) {c : Code} → c ≡ creation p t → c.0 ≡ ok.0 → octet 0 p ≤ longest_name
unfolding creation ask
name-fits p t {c} e z = step (leb (octet 0 p) longest_name) refl (sym (ap (λ (d : Code). d.0) e) ∙ z)
  where
    step : (b : Bool) → leb (octet 0 p) longest_name ≡ b → (cond b (cond (some_free t) ok not_enough_resources) not_enough_resources).0 ≡ ok.0
        → octet 0 p ≤ longest_name
    step true h w = leb-true (octet 0 p) longest_name h
    step false h w = absurd (omega arith)

-- what `create_group` stands on: the record fits, and is stored where the code is 0x00, and only there
pub ruleset storing = (name-fits, changes, stays)

-- Create Group whole
pub makes : {g : GroupAddress} {n : ℕ} (gs p out : List ℕ) {c : Code} {gs' out' : List ℕ} → g ≡ new_group (table Groups gs)
    → coded c gs' ≡ coding (size Groups) (creation p (table Groups gs)) (store (group_record g p)) gs
    → (n ≡ length (c.0 ∷ on_ok c (octets g.0) [])) × (out' ≡ over (c.0 ∷ on_ok c (octets g.0) []) out) → made n gs' out' ≡ making gs p out
unfolding making coding
makes {g} {n} gs p out {c} {gs'} {out'} e d w = rw (← e, w.0, w.1, ap (λ (y : Coded). y.code) d, ap (λ (y : Coded). y.table) d)
