-- What is near a message: two runs of the index, taken one after the other.
use mathlib.Core.List.{map-append}
use Rattle.words.specs.Basics.{◌≡◌, refl, List, [], ◌++◌, map, append-nil, ℕ, ◌<◌, length, get_or}
use Rattle.words.specs.Names.{any_device}
use Rattle.rules.specs.Types.{Fields}
use Rattle.rules.specs.Tables.{Rec}
use Rattle.index_rules.specs.Index.{entry}
use Rattle.index_rules.specs.Walks.{run_of, near}
use Rattle.units.specs.Listing.{Taken, Enough}
use Rattle.collecting.proofs.Collecting.{Additive}
use Rattle.collecting.proofs.Gathering.{Gathering, gathering_start, gathering_enough, gathering_more, gathering_end}
use Rattle.nearby.specs.Running.{named, Standing}

-- the entries of the sender's device from i up to j, those of any device from i' up to j'
module _ (F : List Rec → List ℕ) (a : Additive F) (f : Fields) where
  module _ {bs : List Rec} {ix : List ℕ} {i j i' j' : ℕ} (own : Standing bs ix f.source.0 i j) (any : Standing bs ix any_device.0 i' j') where
    both_runs : map (entry bs) (near bs f ix) ≡ named bs ix i j ++ (named bs ix i' j' ++ [])
    unfolding near run_of named
    both_runs =
        rw (append-nil, own.begins, own.ends, any.begins, any.ends)
        (map-append (entry bs) (run_of bs f.source.0 ix) (run_of bs any_device.0 ix))

    module _ {n : ℕ} {l : List ℕ} (z : n ≡ 0) (o : (i : ℕ) → get_or l i 0 < 256) (r : Enough (F (map (entry bs) (near bs f ix))) 0 l) where
      both_left : Gathering F (map (entry bs) (near bs f ix)) 0 l (named bs ix i j ++ (named bs ix i' j' ++ [])) n l
      both_left = rw (z, ← both_runs) (gathering_start o r)

      -- the list has enough octets for the first run
      pub own_enough : Enough (F (named bs ix i j)) n l
      own_enough = gathering_enough (named bs ix i j) (named bs ix i' j' ++ []) a both_left r

      module _ {n₁ : ℕ} {l₁ : List ℕ} (s : length l₁ ≡ length l) (t : Taken (F (named bs ix i j)) n l n₁ l₁) where
        any_left : Gathering F (map (entry bs) (near bs f ix)) 0 l (named bs ix i' j' ++ []) n₁ l₁
        any_left = gathering_more (named bs ix i j) (named bs ix i' j' ++ []) a both_left s t

        -- .. and, once that has been taken, for the second
        pub any_enough : Enough (F (named bs ix i' j')) n₁ l₁
        any_enough = gathering_enough (named bs ix i' j') [] a any_left r

        pub both_taken : F [] ≡ [] → {n₂ : ℕ} {l₂ : List ℕ} → length l₂ ≡ length l₁ → Taken (F (named bs ix i' j')) n₁ l₁ n₂ l₂
            → Taken (F (map (entry bs) (near bs f ix))) 0 l n₂ l₂
        both_taken e s' t' = gathering_end (gathering_more (named bs ix i' j') [] a any_left s' t') e refl
