-- What a handler may count on, from soundness: whole records, tables within their limits, and groups whose fields are in range.
use Rattle.words.specs.Basics.{◌≡◌, ap, ◌∙◌, true, List, ℕ, ◌+◌, ◌%◌, ◌≤◌, arith, length, leb-true}
use Rattle.words.specs.Names.{header_length, longest}
use Rattle.rules.specs.Types.{Command, Kind, Binds, Groups, Members, Sessions}
use Rattle.rules.specs.Lists.{all}
use Rattle.rules.specs.Tables.{used, records}
use Rattle.rules.specs.Layout.{size, full}
use Rattle.rules.specs.Frame.{Lent, lent, lent_of, tables}
use Rattle.rules.specs.Sound.{sound, whole_records, sound_table, fits, group_fits}
use Rattle.rules.specs.Commands.{row}
use Rattle.rules.proofs.Lists.{split}
use Rattle.rules.proofs.Kept.{sound-at, whole-at, whole_length}
use Rattle.acting.specs.Acting.{Workable}

pub record Sizes (L : Lent) : Type 0 where
  pub whole : (k : Kind) → length (lent_of k L) % size k ≡ 0
  pub within : (k : Kind) → length (lent_of k L) ≤ full k
  pub named : all group_fits (used (tables L Groups)) ≡ true

pub sizes : (L : Lent) → sound L ≡ true → Sizes L
unfolding sound_table fits whole_records
sizes L h =
    record {
      whole = λ k. whole_length k (lent_of k L) (whole-at L h k);
      within = λ k. leb-true (length (lent_of k L)) (full k) (split (whole-at L h k)).1;
      named = (split (split (sound-at L h Groups)).0).1;
    }

-- What an arm's handler asks, from what all arms have

-- the payload's length, by the command
pub asked-length : (j k : Command) (p : List ℕ) (n : ℕ) → j ≡ k → length p ≡ (row j).length p → (row k).length p ≡ n → length p ≡ n
asked-length j k p n a l e = l ∙ ap (λ (i : Command). (row i).length p) a ∙ e

module _ (ds bs gs ms ss : List ℕ) (w : Workable (lent ds bs gs ms ss)) where
  pub whole-binds : length bs % size Binds ≡ 0
  whole-binds = (sizes _ w).whole Binds

  pub whole-groups : length gs % size Groups ≡ 0
  whole-groups = (sizes _ w).whole Groups

  pub whole-members : length ms % size Members ≡ 0
  whole-members = (sizes _ w).whole Members

  pub whole-sessions : length ss % size Sessions ≡ 0
  whole-sessions = (sizes _ w).whole Sessions

  pub within-binds : length bs ≤ full Binds
  within-binds = (sizes _ w).within Binds

  pub within-groups : length gs ≤ full Groups
  within-groups = (sizes _ w).within Groups

  pub within-members : length ms ≤ full Members
  within-members = (sizes _ w).within Members

  pub named-groups : all group_fits (used (records (size Groups) gs)) ≡ true
  named-groups = (sizes _ w).named

-- the reply has room for a code and an address
pub some-room : (n : ℕ) → longest ≤ header_length + n → 3 ≤ n
some-room n h = omega arith
