-- The group that a search found, and what is answered of it.
use Rattle.std.specs.Prelude.{Option, None, Some}
use Rattle.words.specs.Basics.{◌≡◌, sym, ap, ◌∙◌, true, false, List, [], ◌∷◌, ℕ, ◌+◌, ◌≤◌, length, take, drop}
use Rattle.words.specs.Names.{ok, invalid_argument}
use Rattle.rules.specs.Types.{GroupAddress, Groups}
use Rattle.rules.specs.Lists.{all, first_of, ask}
use Rattle.rules.specs.Octets.{octets}
use Rattle.rules.specs.Units.{ordered}
use Rattle.rules.specs.Tables.{Rec, used, matches, addressed}
use Rattle.rules.specs.Layout.{size, longest_name, name_length}
use Rattle.rules.specs.Frame.{table}
use Rattle.rules.specs.Exists.{group_exists}
use Rattle.rules.specs.Sound.{group_fits}
use Rattle.rules.specs.Recipients.{members_of}
use Rattle.rules.specs.Commands.{naming, info, group_info, on_ok}
use Rattle.rules.proofs.Lists.{first_passes}
use Rattle.rules.proofs.Counts.{name-fits}
use Rattle.records.specs.Search.{found_at}
use Rattle.records.proofs.Search.{is_found, found_any, found_first}
use Rattle.group_info.specs.Informing.{informing}

-- its place in the table, that it exists, and its record
pub record GroupAt (g : GroupAddress) (t : List ℕ) (at : ℕ) : Type 0 where
  pub within : at + size Groups ≤ length t
  pub exists : group_exists (table Groups t) g ≡ true
  pub is : first_of [] (addressed g.0) (used (table Groups t)) ≡ take (size Groups) (drop at t)

-- what the search for the octets of its address told
module _ (g : GroupAddress) (t : List ℕ) {w : List ℕ} {r : Option ℕ} (e : w ≡ octets g.0) (h : r ≡ found_at 0 (size Groups) (matches 0 w) (table Groups t)) where
  searched : found_at 0 (size Groups) (matches 0 (octets g.0)) (table Groups t) ≡ r
  searched = sym (rw e at h)

  pub group_at : {at : ℕ} → r ≡ Some at → GroupAt g t at
  unfolding group_exists addressed
  group_at k =
      let f = found_first (size Groups) (matches 0 (octets g.0)) t (searched ∙ k) in
      record { within = f.0; exists = found_any 0 (size Groups) (matches 0 (octets g.0)) (table Groups t) ∙ ap is_found (searched ∙ k); is = f.1 }

  pub group-absent : r ≡ None → group_exists (table Groups t) g ≡ false
  unfolding group_exists addressed
  group-absent k = found_any 0 (size Groups) (matches 0 (octets g.0)) (table Groups t) ∙ ap is_found (searched ∙ k)

-- its name fits
pub named : (g : GroupAddress) (t : List ℕ) {at : ℕ} → GroupAt g t at → all group_fits (used (table Groups t)) ≡ true
    → name_length (take (size Groups) (drop at t)) ≤ longest_name
unfolding group_exists
named g t {at} f h =
    let p : group_fits (first_of [] (addressed g.0) (used (table Groups t))) ≡ true =
    first_passes [] (addressed g.0) group_fits (used (table Groups t)) f.exists h in
    name-fits (take (size Groups) (drop at t)) (rw f.is at p)

-- the answer, by what was found

pub informs : (g : GroupAddress) (t : List ℕ) {at : ℕ} (ms : List Rec) → GroupAt g t at
    → ok.0 ∷ info (take (size Groups) (drop at t)) (ordered (members_of ms g)) ≡ informing (table Groups t) ms g
unfolding informing naming ask on_ok group_info
informs g t ms f = rw (f.exists, f.is)

pub informs_not : (g : GroupAddress) (t : List ℕ) (ms : List Rec) → group_exists (table Groups t) g ≡ false
    → invalid_argument.0 ∷ [] ≡ informing (table Groups t) ms g
unfolding informing naming ask on_ok
informs_not g t ms h = rw h
