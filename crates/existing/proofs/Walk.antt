-- A chain over a table's records: a used record passes iff one of all is in use and passes.
use Rattle.std.specs.List.{list_any, range_with_len}
use Rattle.words.specs.Basics.{◌≡◌, refl, sym, ◌∙◌, Bool, true, false, ◌||◌, List, [], ◌∷◌, ℕ, zero, suc, ◌+◌, ◌*◌, ◌/◌, arith, length, take, drop, drop-drop}
use Rattle.rules.specs.Lists.{any, keep}
use Rattle.rules.specs.Tables.{Rec, cut, records, used}
use Rattle.rules.specs.Types.{Devices}
use Rattle.rules.specs.Layout.{size}
use Rattle.records.specs.Search.{passes}
use Rattle.records.proofs.Search.{any_hit, any_miss}

pub list_any-used : (q : Rec → Bool) (t : List Rec) → list_any (passes q) t ≡ any q (used t)
unfolding any used keep
list_any-used q [] = refl
list_any-used q (r ∷ t) = step (passes q r) refl (list_any-used q t)
  where
    step : (b : Bool) → passes q r ≡ b → list_any (passes q) t ≡ any q (used t) → (b || list_any (passes q) t) ≡ any q (used (r ∷ t))
    step true e ih = sym (any_hit q r t e)
    step false e ih = ih ∙ sym (any_miss q r t e)

-- the records of the device table, asked place by place
places_from : (q : Rec → Bool) (n a : ℕ) (t : List ℕ) → list_any (λ i. q (take (size Devices) (drop (i * size Devices) t))) (range_with_len a n) ≡ list_any q (cut n (size Devices) (drop (a * size Devices) t))
places_from q zero a t = refl
places_from q (suc n) a t =
    let m : (a + 1) * size Devices ≡ a * size Devices + size Devices = omega arith in
    rw (drop-drop, ← m, places_from q n (a + 1) t)

pub list_any-places : (q : Rec → Bool) (t : List ℕ) → list_any (λ i. q (take (size Devices) (drop (i * size Devices) t))) (range_with_len 0 (length t / size Devices)) ≡ list_any q (records (size Devices) t)
unfolding records
list_any-places q t = places_from q (length t / size Devices) 0 t
