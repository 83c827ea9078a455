-- Laws of a run of an index, entry by entry.
use native.Mathlib.Numerals.{add-one}
use Rattle.std.specs.List.{between}
use Rattle.std.proofs.lemmas.List.Edits.{get_or-between}
use Rattle.words.specs.Basics.{◌++◌, ◌≡◌, refl, sym, ◌∙◌, Bool, true, false, false≢true, List, [], ◌∷◌, ℕ, suc, ◌+◌, ◌-◌, ◌*◌, ◌/◌, ◌<◌, ◌≤◌, arith, length}
use Rattle.words.specs.Basics.{take, drop, get_or, drop-cons, ltb-true, lt-ltb}
use Rattle.rules.specs.Types.{Binds}
use Rattle.rules.specs.Tables.{Rec}
use Rattle.rules.specs.Layout.{size}
use Rattle.rules.specs.Frame.{table}
use Rattle.rules.proofs.Lists.{split, join, count-length, count-two}
use Rattle.rules.proofs.Records.{length-records}
use Rattle.index_rules.specs.Index.{entry, entry_rank}
use Rattle.index_rules.specs.Walks.{below, ranked, device_rank, Listed}
use Rattle.index_rules.proofs.Entries.{halving_fail}
use Rattle.indexing.proofs.Positions.{entry_at}
use Rattle.nearby.specs.Running.{named, Standing, Naming}

module _ (bs : List Rec) (ix : List ℕ) where
  -- the bind at the place i, and those after it
  pub named-at : (i to : ℕ) → to ≤ length ix → i < to → named bs ix i to ≡ entry bs (get_or ix i 0) ∷ named bs ix (i + 1) to
  unfolding named
  named-at i to h l =
      let m : to - i ≡ suc (to - (i + 1)) = omega arith in
      let q : i < length ix = omega arith in
      rw (m, add-one i, drop-cons ix i 0 q)

  -- none is left
  pub named_end : (i to : ℕ) → to ≤ i → named bs ix i to ≡ []
  unfolding named
  named_end i to h =
      let m : to - i ≡ 0 = omega arith in
      rw m

-- the bind that the entry at place i of a run names, in the octets of the table
module _ (t ix : List ℕ) (i : ℕ) {from to w : ℕ} (N : Naming (table Binds t) ix from to) (l : from + i < to) (e : w ≡ get_or (between from to ix) i 0) where
  same_entry : w ≡ get_or ix (from + i) 0
  same_entry = e ∙ get_or-between ix from to i 0 l

  pub named_inside : w < length t / size Binds
  named_inside = rw (same_entry, ← length-records (size Binds) t) (N.there (from + i) l)

  pub named_next : {r : Rec} → r ≡ take (size Binds) (drop (w * size Binds) t)
      → named (table Binds t) ix (from + i) to ≡ (r ∷ []) ++ named (table Binds t) ix (from + (i + 1)) to
  named_next q =
      let s : from + (i + 1) ≡ from + i + 1 = omega arith in
      rw (s, named-at (table Binds t) ix (from + i) to N.within l, ← same_entry, entry_at w t named_inside, q)

-- no fewer entries are below the first rank past a device than below its own first
pub device-rises : (bs : List Rec) (ix : List ℕ) (d : ℕ) → ranked bs (device_rank d) ix ≤ ranked bs (device_rank (suc d)) ix
unfolding ranked below device_rank
device-rises bs ix d =
    let c =
    count-two (below bs (device_rank d)) (λ p. false) (below bs (device_rank (suc d))) rises (λ p e. absurd (false≢true e)) (λ p f e. false≢true e) ix in
    omega arith
  where
    rises : (p : ℕ) → below bs (device_rank d) p ≡ true → below bs (device_rank (suc d)) p ≡ true
    rises p e =
        let a = split e in
        let l = ltb-true (entry_rank bs p) (device_rank d) a.1 in
        join a.0 (lt-ltb (entry_rank bs p) (device_rank (suc d)) (omega arith))

-- the entries of a device name records
module _ {bs : List Rec} {ix : List ℕ} {d i j : ℕ} (I : Listed bs ix) (s : Standing bs ix d i j) where
  few : j ≤ length ix
  unfolding ranked
  few = rw s.ends (count-length (below bs (device_rank (suc d))) ix)

  inside : (k : ℕ) → k < j → get_or ix k 0 < length bs
  unfolding below
  inside k h = step (below bs (device_rank (suc d)) (get_or ix k 0)) refl
    where
      step : (b : Bool) → below bs (device_rank (suc d)) (get_or ix k 0) ≡ b → get_or ix k 0 < length bs
      step true e = ltb-true (get_or ix k 0) (length bs) (split e).0
      step false e = absurd (omega (arith, s.ends, halving_fail I (device_rank (suc d)) {m = k} (omega (arith, few)) (sym e) refl))

  pub standing-named : Naming bs ix i j
  standing-named = record { rises = rw (s.begins, s.ends) (device-rises bs ix d); within = few; there = inside }
