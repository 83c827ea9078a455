-- Laws of a change of one table: a code of 0x00 comes with the change, any other with the table as it was.
use Rattle.words.specs.Basics.{◌≡◌, sym, ap, ◌∙◌, Bool, true, false, not, List, ℕ, arith, eq-eqb, ne_eqb}
use Rattle.words.specs.Names.{ok, invalid_argument, not_enough_resources}
use Rattle.rules.specs.Types.{Code}
use Rattle.rules.specs.Lists.{any, ask}
use Rattle.rules.specs.Tables.{Rec, used, some_free, matches, Change, written}
use Rattle.rules.specs.Commands.{on_ok, addition, removal}
use Rattle.changing.specs.Changing.{coded, coding}

pub changes : (k : ℕ) {c d : Code} (x : Change) (t : List ℕ) {t' : List ℕ} → c ≡ d → c.0 ≡ ok.0 → t' ≡ written k x t → coded c t' ≡ coding k d x t
unfolding coding on_ok
changes k {c} {d} x t {t'} e z w = rw (← e, eq-eqb c.0 ok.0 z, w)

pub stays : (k : ℕ) {c d : Code} (x : Change) {t : List ℕ} → c ≡ d → (c.0 ≡ ok.0 → ⊥) → coded c t ≡ coding k d x t
unfolding coding on_ok
stays k {c} {d} x {t} e z = rw (← e, ne_eqb c.0 ok.0 z)

-- 0x02 is no 0x00
pub refuses : (k : ℕ) {c d : Code} (x : Change) {t : List ℕ} → c ≡ invalid_argument → d ≡ invalid_argument → coded c t ≡ coding k d x t
refuses k x e g = stays k x (e ∙ sym g) (λ z. omega (arith, ap (λ (y : Code). y.0) e, z))

-- an addition, by what was found
pub found : (r : Rec) (t : List Rec) {there room : Bool} {c : Code} → there ≡ any (matches 0 r) (used t) → room ≡ some_free t
    → c ≡ ask (not there) invalid_argument (ask room not_enough_resources ok) → c ≡ addition r t
unfolding addition
found r t h g e = rw (← h, ← g) e

-- a removal, by what was found

pub absent : (q : Rec → Bool) (t : List Rec) → any q (used t) ≡ false → removal q t ≡ invalid_argument
unfolding removal ask
absent q t h = rw h

pub present : (q : Rec → Bool) (t : List Rec) → any q (used t) ≡ true → ok ≡ removal q t
unfolding removal ask
present q t h = rw h
