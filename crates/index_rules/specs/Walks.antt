-- What the code does with an index, entry by entry: cited by contracts inside, and by no public call, so that a reader need not believe it.
use Rattle.std.specs.Prelude.{◌≡◌, Bool, true, false, cond, ◌&&◌, List, [], ◌∷◌, ◌++◌, map, ℕ, suc, ◌-◌, ◌*◌, ◌^◌, ◌≤◌, eqb, leb, ltb, length, take, drop}
use Rattle.words.specs.Names.{any_device}
use Rattle.rules.specs.Types.{Fields}
use Rattle.rules.specs.Lists.{count, all, keep, ◌&◌}
use Rattle.rules.specs.Units.{rising}
use Rattle.rules.specs.Tables.{Rec, is_free}
use Rattle.index_rules.specs.Index.{position, filled, right_index, entry, entry_used, entry_rank}

-- The check

-- entries of used records by rising rank, from rank `low` on
unfoldable pub rising_from : List Rec → ℕ → List ℕ → Bool
rising_from bs low [] = true
rising_from bs low (p ∷ ps) = (entry_used bs p & leb low (entry_rank bs p)) && rising_from bs (suc (entry_rank bs p)) ps

-- The search

-- is this an entry whose rank is below w? 0xFF is none.
unfoldable pub below : List Rec → ℕ → ℕ → Bool
below bs w p = ltb p (length bs) & ltb (entry_rank bs p) w

-- how many entries are
unfoldable pub ranked : List Rec → ℕ → List ℕ → ℕ
ranked bs w ix = count (below bs w) ix

-- where the ranks of a source device begin
unfoldable pub device_rank : ℕ → ℕ
device_rank d = d * 2 ^ 32

-- the entries of a source device, where they are in order: from its first rank on, up to the first of the next
unfoldable pub run_of : List Rec → ℕ → List ℕ → List ℕ
run_of bs d ix = take (ranked bs (device_rank (suc d)) ix - ranked bs (device_rank d) ix) (drop (ranked bs (device_rank d) ix) ix)

-- what delivery to the bind address looks at: the entries of the sender's device, and those of any device
unfoldable pub near : List Rec → Fields → List ℕ → List ℕ
near bs f ix = run_of bs f.source.0 ix ++ run_of bs any_device.0 ix

-- is this the rank of the record at its position?
unfoldable pub placed : List Rec → ℕ → Bool
placed bs w = entry_used bs (position w) & eqb (entry_rank bs (position w)) w

-- an index in order: positions of used records by rising rank, then 0xFF. It need not have all of them.
pub record Listed (bs : List Rec) (ix : List ℕ) : Type 0 where
  pub few : length bs ≤ 255
  pub ranks : List ℕ
  pub rises : rising ranks ≡ true
  pub placed : all (placed bs) ranks ≡ true
  pub octets : ix ≡ filled (length ix) (map position ranks)

-- Keeping it right

-- v put in at place `at`, those behind it moved up by one, the last one lost
unfoldable pub insert_at : ℕ → ℕ → List ℕ → List ℕ
insert_at at v s = take (length s) (take at s ++ v ∷ drop at s)

-- the entries of used records alone
unfoldable pub used_only : List Rec → List ℕ → List ℕ
used_only bs ix = filled (length ix) (keep (entry_used bs) ix)

-- the position p put in where its rank belongs
unfoldable pub put_in : List Rec → ℕ → List ℕ → List ℕ
put_in bs p ix = insert_at (ranked bs (entry_rank bs p) ix) p ix

-- .. where its record is in use
unfoldable pub put_in_used : List Rec → ℕ → List ℕ → List ℕ
put_in_used bs p ix = cond (entry_used bs p) (put_in bs p ix) ix

-- the position of the first free record, which an addition takes; where there is none, the number of records
unfoldable pub first_free : List Rec → ℕ
first_free [] = 0
first_free (b ∷ bs) = cond (is_free b) 0 (suc (first_free bs))

-- from one table to another: the record at p was free, and each other is what it was, or free now
pub record Kept (p : ℕ) (bs bs' : List Rec) : Type 0 where
  pub long : length bs' ≡ length bs
  pub was_free : entry_used bs p ≡ false
  pub others : (j : ℕ) → (j ≡ p → ⊥) → entry_used bs' j ≡ true → entry bs' j ≡ entry bs j

-- an index that was right before such a change to the records bs'
pub record Stale (p : ℕ) (bs' : List Rec) (ix : List ℕ) : Type 0 where
  pub few : length bs' ≤ 255
  pub before : List Rec
  pub right : ix ≡ right_index before
  pub kept : Kept p before bs'
