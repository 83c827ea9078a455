-- The binds that a read gives, one after the other, as the code takes and writes them.
use native.Mathlib.Nat.{zero-mul, mul-le-mul_right}
use denote.Ref.{Bor}
use Rattle.std.specs.Prelude.{Option, None, Some}
use Rattle.std.specs.Iterator.{AlwaysYields}
use Rattle.std.specs.List.{filter}
use Rattle.std.proofs.lemmas.Iterator.{YieldsList}
use Rattle.words.specs.Basics.{◌≡◌, refl, ◌∙◌, Bool, not, List, [], ◌∷◌, ℕ, zero, suc, ◌+◌, ◌*◌, ◌<◌, ◌≤◌, arith}
use Rattle.words.specs.Basics.{length, take, drop, get_or, sets, length-sets}
use Rattle.rules.specs.Lists.{keep}
use Rattle.rules.specs.Octets.{over}
use Rattle.rules.specs.Tables.{Rec, records, bytes, is_free, used}
use Rattle.rules.specs.Sessions.{chosen}
use Rattle.rules.proofs.Records.{Each, each-records, length-bytes}
use Rattle.rules.proofs.Entries.{within-each, within-drop, within-keep, within_all, chosen-within, chosen-few}
use Rattle.octets.proofs.Runs.{sets_behind, sets_over}

-- what std keeps, the rules keep
pub filter-keep : {A : Type 0} (p : A → Bool) (l : List A) → filter p l ≡ keep p l
unfolding keep
filter-keep p [] = refl
filter-keep p (x ∷ l) = rw (filter-keep p l)

-- .. and what it chooses, they choose
pub chosen_is : (i n : ℕ) (q : Rec → Bool) (t : List Rec) → take n (filter q (drop i (filter (λ r. not (is_free r)) t))) ≡ chosen i n q t
unfolding chosen used
chosen_is i n q t = rw (filter-keep (λ r. not (is_free r)) t, filter-keep q (drop i (keep (λ r. not (is_free r)) t)))

each-at : (k i : ℕ) (rs : List Rec) (r : Rec) → Each k rs → i < length rs → r ≡ get_or rs i r → length r ≡ k
each-at k i [] r e l h = absurd (omega arith)
each-at k zero (x ∷ rs) r e l h = rw h e.0
each-at k (suc i) (x ∷ rs) r e l h = each-at k i rs r e.1 (omega arith) h

module _ (k i : ℕ) (t : List ℕ) where
  -- a bind that is looked at is whole
  pub used-whole : {j : ℕ} (r : Rec) → j < length (drop i (filter (λ r. not (is_free r)) (records k t)))
      → r ≡ get_or (drop i (filter (λ r. not (is_free r)) (records k t))) j r → length r ≡ k
  used-whole {j} r =
      each-at k j (drop i (filter (λ r. not (is_free r)) (records k t))) r
      (rw filter-keep (within-each k (within-drop i (within-keep (λ r. not (is_free r)) (within_all (records k t)))) (each-records k t)))

  -- so are those that are chosen, and there are no more than asked
  module _ (n : ℕ) (q : Rec → Bool) where
    pub chosen-each : Each k (chosen i n q (records k t))
    chosen-each = within-each k (chosen-within i n q (records k t)) (each-records k t)

    pub chosen-short : length (bytes (chosen i n q (records k t))) ≤ n * k
    chosen-short = rw (length-bytes k (chosen i n q (records k t)) chosen-each) (mul-le-mul_right k (chosen-few i n q (records k t)))

-- n of the records es are written, and the iterator s has the others: with them all are
pub record Entering {S : Type 0} (steps : S → Option (Bor Rec) → S → Type 0) (k : ℕ) (es : List Rec) (out₀ out : List ℕ) (n : ℕ) (s : S) : Type 0 where
  pub left : List Rec
  pub comes : AlwaysYields steps (λ r. r.now) s left
  pub each : Each k left
  pub counts : n + length left ≡ length es
  pub same : length out ≡ length out₀
  pub rest : sets out (n * k) (bytes left) ≡ sets out₀ 0 (bytes es)

module _ {S : Type 0} {steps : S → Option (Bor Rec) → S → Type 0} {k : ℕ} {es : List Rec} {out₀ : List ℕ} where
  pub entering_start : {left : List Rec} {s : S} → YieldsList steps (λ r. r.now) s left → left ≡ es → Each k es → Entering steps k es out₀ out₀ 0 s
  entering_start y g e = record { left = es; comes = rw g at y.runs; each = e; counts = omega arith; same = refl; rest = rw zero-mul }

  module _ {out : List ℕ} {n : ℕ} {s : S} (c : Entering steps k es out₀ out n s) where
    -- a record that comes is whole, and is written next
    pub entering_more : (t : S) {r : Bor Rec} → steps s (Some r) t
        → (length r.now ≡ k) × (n < length es) × Entering steps k es out₀ (sets out (n * k) r.now) (n + 1) t
    entering_more t {r} h = step c.left c.comes c.each c.counts c.rest
      where
        step : (left : List Rec) → AlwaysYields steps (λ r. r.now) s left → Each k left → n + length left ≡ length es
            → sets out (n * k) (bytes left) ≡ sets out₀ 0 (bytes es)
            → (length r.now ≡ k) × (n < length es) × Entering steps k es out₀ (sets out (n * k) r.now) (n + 1) t
        step [] y e p w = absurd (y r t h)
        step (x ∷ left) y e p w =
            let z = y.1 r t h in
            let l : length r.now ≡ k = rw z.0 e.0 in (
              l,
              omega arith,
              record {
                left = left;
                comes = z.1;
                each = e.1;
                counts = omega arith;
                same = length-sets out (n * k) r.now ∙ c.same;
                rest = sets_behind out r.now (bytes left) (n * k) (omega arith) ∙ rw (← z.0) at w;
              },
            )

    -- .. with fewer before it than there are at most
    pub entering_few : (t : S) {r : Bor Rec} (m : ℕ) → steps s (Some r) t → length es ≤ m → n < m
    entering_few t m h l = omega (arith, (entering_more t h).1)

    pub entering_end : (t : S) → steps s None t → length (bytes es) ≤ length out₀ → (n ≡ length es) × (out ≡ over (bytes es) out₀)
    entering_end t h l = step c.left c.comes c.counts c.rest
      where
        step : (left : List Rec) → AlwaysYields steps (λ r. r.now) s left → n + length left ≡ length es
            → sets out (n * k) (bytes left) ≡ sets out₀ 0 (bytes es) → (n ≡ length es) × (out ≡ over (bytes es) out₀)
        step [] y p w = (omega arith, w ∙ sets_over (bytes es) out₀ l)
        step (x ∷ left) y p w = absurd (y.0 t h)
