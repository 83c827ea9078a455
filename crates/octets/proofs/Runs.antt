-- Runs of octets: what std says of the calls that compare, test and fill them, as the definitions say it, and what the loops that compare and write know at
-- each turn. A loop's invariant is a record, with a lemma for its start, a turn and its end; it says that what is left to do gives the answer.
use native.Mathlib.Nat.{add-zero, zero-add}
use native.Mathlib.Numerals.{add-one}
use borrow.Rule.Slice.PartMut.{put_mid}
use Rattle.std.specs.List.{starts_with, list_all}
use Rattle.words.specs.Basics.{◌≡◌, refl, ◌∙◌, Bool, true, false, List, [], ◌∷◌, ◌++◌, ℕ, suc, ◌+◌, ◌-◌, ◌<◌, ◌≤◌, arith, eqb, length, drop, drop-cons, drop-drop}
use Rattle.words.specs.Basics.{drop-length, append_assoc, get_or, set, length-set, sets, sets-eq, eq-eqb, ne_eqb}
use Rattle.rules.specs.Lists.{all}
use Rattle.rules.specs.Octets.{starts, over}
use Rattle.rules.proofs.Distinct.{eqb_turn}

-- does a list of octets begin with a run, as std says it
pub starts-octets : (w s : List ℕ) → starts_with eqb s w ≡ starts w s
starts-octets [] s = refl
starts-octets (x ∷ w) [] = refl
starts-octets (x ∷ w) (y ∷ s) = rw (eqb_turn x y, starts-octets w s)

-- do all pass, as std says it
pub all-list_all : (p : ℕ → Bool) (l : List ℕ) → list_all p l ≡ all p l
unfolding all
all-list_all p [] = refl
all-list_all p (x ∷ l) = rw (all-list_all p l)

-- comparing w with what stands in t from `at` on: the first j octets are the same
pub record Comparing (w t : List ℕ) (at j : ℕ) : Type 0 where
  pub within : j ≤ length w
  pub room : at + length w ≤ length t
  pub rest : starts (drop j w) (drop (at + j) t) ≡ starts w (drop at t)

pub comparing_start : {w t : List ℕ} {at : ℕ} → at + length w ≤ length t → Comparing w t at 0
comparing_start h = record { within = omega arith; room = h; rest = rw add-zero }

pub comparing_more : {w t : List ℕ} {at j : ℕ} → Comparing w t at j → j < length w → get_or t (at + j) 0 ≡ get_or w j 0 → Comparing w t at (j + 1)
comparing_more {w} {t} {at} {j} c h e =
    let n : at + (j + 1) ≡ suc (at + j) = omega arith in
    let l : at + j < length t = omega arith in
    let s : starts (drop (j + 1) w) (drop (at + (j + 1)) t) ≡ starts (drop j w) (drop (at + j) t) =
    rw (n, add-one j, drop-cons w j 0 h, drop-cons t (at + j) 0 l, eq-eqb _ _ e) in
    record { within = omega arith; room = c.room; rest = s ∙ c.rest }

pub comparing_stop : {w t : List ℕ} {at j : ℕ} → Comparing w t at j → j < length w → (get_or t (at + j) 0 ≡ get_or w j 0 → ⊥) → false ≡ starts w (drop at t)
comparing_stop {w} {t} {at} {j} c h e =
    let l : at + j < length t = omega arith in
    rw (drop-cons w j 0 h, drop-cons t (at + j) 0 l, ne_eqb _ _ e) at c.rest

pub comparing_end : {w t : List ℕ} {at j : ℕ} → Comparing w t at j → length w ≤ j → true ≡ starts w (drop at t)
comparing_end {w} {t} {at} {j} c h =
    let e : j ≡ length w = omega arith in
    rw (e, drop-length w) at c.rest

-- writing r into t₀ from `at` on: t is t₀ with the first j octets written
pub record Writing (r t₀ : List ℕ) (at : ℕ) (t : List ℕ) (j : ℕ) : Type 0 where
  pub within : j ≤ length r
  pub same : length t ≡ length t₀
  pub rest : sets t (at + j) (drop j r) ≡ sets t₀ at r

pub writing_start : {r t : List ℕ} {at : ℕ} → Writing r t at t 0
writing_start = record { within = omega arith; same = refl; rest = rw add-zero }

pub writing_more : {r t₀ : List ℕ} {at : ℕ} {t : List ℕ} {j : ℕ} → Writing r t₀ at t j → j < length r → Writing r t₀ at (set t (at + j) (get_or r j 0)) (j + 1)
writing_more {r} {t₀} {at} {t} {j} c h =
    let n : at + (j + 1) ≡ suc (at + j) = omega arith in
    record { within = omega arith; same = rw length-set c.same; rest = rw (n, add-one j) (rw (drop-cons r j 0 h) at c.rest) }

pub writing_end : {r t₀ : List ℕ} {at : ℕ} {t : List ℕ} {j : ℕ} → Writing r t₀ at t j → length r ≤ j → t ≡ sets t₀ at r
writing_end {r} {t₀} {at} {t} {j} c h =
    let e : j ≡ length r = omega arith in
    rw (e, drop-length r) at c.rest

-- a part that is written is a run that is written
pub part-sets : (t r : List ℕ) (at n : ℕ) → length r ≡ n → at + n ≤ length t → put_mid at (at + n - at) t r ≡ sets t at r
part-sets t r at n l h =
    let e : at + n - at ≡ n = omega arith in
    rw (e, drop-drop, sets-eq r t at (omega arith), l, append_assoc)

-- a run written from 0 on is a run written over
pub sets_over : (r t : List ℕ) → length r ≤ length t → sets t 0 r ≡ over r t
unfolding over
sets_over r t h =
    let z : 0 + length r ≡ length r = zero-add (length r) in
    rw (sets-eq r t 0 (rw zero-add h), z)

-- one run written behind another is both written as one
pub sets_behind : (t a b : List ℕ) (i : ℕ) {j : ℕ} → i + length a ≡ j → sets (sets t i a) j b ≡ sets t i (a ++ b)
sets_behind t [] b i {j} h = let e : j ≡ i = omega arith in rw e
sets_behind t (x ∷ a) b i h = sets_behind (set t i x) a b (suc i) (omega arith)
