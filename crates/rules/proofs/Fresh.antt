-- "The address is the smallest from 0x0001 not in use" (document 01, Commands and codes): it is not in use, for there are more candidates than records.
use Rattle.words.specs.Basics.{◌≡◌, refl, sym, ◌∙◌, Bool, true, false, cond, not, ◌&&◌, false≢true, List, ℕ, zero, suc, ◌+◌, ◌<◌, ◌≤◌, arith, leb, ltb, length}
use Rattle.words.specs.Basics.{le-leb, lt-ltb, ltb-true}
use Rattle.words.specs.Names.{group}
use Rattle.rules.specs.Lists.{count, any}
use Rattle.rules.specs.Octets.{word}
use Rattle.rules.specs.Tables.{Rec, used, is_free, addressed}
use Rattle.rules.specs.Exists.{group_exists}
use Rattle.rules.specs.Commands.{smallest, new_group}
use Rattle.rules.proofs.Lists.{and_parts, count-length, count-some, count-two, length-kept}
use Rattle.rules.proofs.Words.{word_of}

unfoldable between : ℕ → ℕ → Rec → Bool
between k n r = leb k (word 0 r) && ltb (word 0 r) (k + n)

-- n addresses in a row that are in use are those of n records
crowd : (l : List Rec) (k n : ℕ) → ((j : ℕ) → j < n → any (addressed (k + j)) l ≡ true) → n ≤ count (between k n) l
unfolding between
crowd l k zero h = omega arith
crowd l k (suc n) h =
    omega (
      arith,
      crowd l k n (λ j m. h j (omega arith)),
      count-some (addressed (k + n)) l (h n (omega arith)),
      count-two (between k n) (addressed (k + n)) (between k (suc n)) more last both l,
    )
  where
    more : (r : Rec) → between k n r ≡ true → between k (suc n) r ≡ true
    more r e =
        let a = and_parts (leb k (word 0 r)) (ltb (word 0 r) (k + n)) e in
        let w = ltb-true (word 0 r) (k + n) a.1 in
        rw (a.0) (lt-ltb (word 0 r) (k + suc n) (omega arith))

    last : (r : Rec) → addressed (k + n) r ≡ true → between k (suc n) r ≡ true
    last r e = let w = word_of (k + n) r e in rw (le-leb k (word 0 r) (omega arith)) (lt-ltb (word 0 r) (k + suc n) (omega arith))

    both : (r : Rec) → between k n r ≡ true → addressed (k + n) r ≡ true → ⊥
    both r e f =
        let w = word_of (k + n) r f in
        let v = ltb-true (word 0 r) (k + n) (and_parts (leb k (word 0 r)) (ltb (word 0 r) (k + n)) e).1 in
        omega arith

module _ (is_in_use : ℕ → Bool) where
  smallest_low : (n a : ℕ) → a ≤ smallest is_in_use n a
  unfolding smallest
  smallest_low zero a = omega arith
  smallest_low (suc n) a = let h = smallest_low n (suc a) in
      elim (is_in_use a) as (λ b. a ≤ cond b (smallest is_in_use n (suc a)) a) [ true ↦ omega arith | false ↦ omega arith ]

  smallest_high : (n a : ℕ) → smallest is_in_use n a ≤ a + n
  unfolding smallest
  smallest_high zero a = omega arith
  smallest_high (suc n) a = let h = smallest_high n (suc a) in
      elim (is_in_use a) as (λ b. cond b (smallest is_in_use n (suc a)) a ≤ a + suc n) [ true ↦ omega arith | false ↦ omega arith ]

  -- where the last candidate is in use, all are
  all_in_use : (n a : ℕ) → is_in_use (smallest is_in_use n a) ≡ true → (j : ℕ) → j < suc n → is_in_use (a + j) ≡ true
  unfolding smallest
  all_in_use zero a h j m = let e : a + j ≡ a = omega arith in rw e h
  all_in_use (suc n) a h j m = step (is_in_use a) refl h (λ g i l. all_in_use n (suc a) g i l) j m
    where
      step : (b : Bool) → is_in_use a ≡ b → is_in_use (cond b (smallest is_in_use n (suc a)) a) ≡ true
          → (is_in_use (smallest is_in_use n (suc a)) ≡ true → (i : ℕ) → i < suc n → is_in_use (suc a + i) ≡ true)
          → (j : ℕ) → j < suc (suc n) → is_in_use (a + j) ≡ true
      step true e h ih zero m = let z : a + 0 ≡ a = omega arith in rw z e
      step true e h ih (suc j) m = let z : a + suc j ≡ suc a + j = omega arith in rw z (ih h j (omega arith))
      step false e h ih j m = absurd (false≢true (sym e ∙ h))

pub new_low : (gs : List Rec) → 1 ≤ (new_group gs).0
unfolding new_group
new_low gs = smallest_low _ (length gs) 1

pub new_high : (gs : List Rec) → (new_group gs).0 ≤ 1 + length gs
unfolding new_group
new_high gs = smallest_high _ (length gs) 1

pub new_fresh : (gs : List Rec) → group_exists gs (new_group gs) ≡ false
unfolding new_group group_exists used
new_fresh gs = step (group_exists gs (new_group gs)) refl
  where
    step : (b : Bool) → group_exists gs (new_group gs) ≡ b → b ≡ false
    step false e = refl
    step true e = absurd (omega (
      arith,
      crowd (used gs) 1 (suc (length gs)) (all_in_use (λ a. group_exists gs (group a)) (length gs) 1 e),
      count-length (between 1 (suc (length gs))) (used gs),
      length-kept (λ r. not (is_free r)) gs,
      count-length (λ r. not (is_free r)) gs,
    ))
