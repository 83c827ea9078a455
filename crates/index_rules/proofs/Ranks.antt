-- Rising lists of numbers, one inside the other, and the ranks of a table's used records.
use Rattle.words.specs.Basics.{◌≡◌, refl, ◌∙◌, Bool, true, false, false≢true, cond, not, ◌||◌, List, [], ◌∷◌, ℕ, zero, suc, ◌+◌, ◌≤◌, ◌<◌, arith, length, get_or}
use Rattle.words.specs.Basics.{eqb, ltb, ltb-true, lt-ltb, eqb-true, eq-eqb, ne_eqb, not-true}
use Rattle.rules.specs.Lists.{any, all, has, ◌&◌}
use Rattle.rules.specs.Units.{ordered, rising, once}
use Rattle.rules.specs.Tables.{Rec, is_free}
use Rattle.rules.proofs.Lists.{and_parts, split, join, same_truth, all_weaken, any_with}
use Rattle.rules.proofs.Order.{all-ordered, has-ordered, length-ordered}
use Rattle.index_rules.specs.Index.{rank, position, ranks, entry, entry_rank, entry_used}
use Rattle.index_rules.specs.Walks.{placed}

-- A rising list inside another

-- what all have, a member has
pub all-has : (P : ℕ → Bool) (u : ℕ) (us : List ℕ) → all P us ≡ true → has u us ≡ true → P u ≡ true
unfolding has
all-has P u us h g = any_with (eqb u) P (λ x e p. rw (eqb-true u x e) p) us g h

has_tail : (v : ℕ) (us vs : List ℕ) → all (λ u. has u (v ∷ vs)) us ≡ true → all (ltb v) us ≡ true → all (λ u. has u vs) us ≡ true
unfolding has any all
has_tail v [] vs h g = refl
has_tail v (u ∷ us) vs h g =
    let a = and_parts (eqb u v || any (eqb u) vs) (all (λ u. has u (v ∷ vs)) us) h in
    let b = and_parts (ltb v u) (all (ltb v) us) g in
    let l = ltb-true v u b.0 in
    let e : any (eqb u) vs ≡ true = rw (ne_eqb u v (λ e. omega arith)) at (a.0) in
    rw e (has_tail v us vs a.1 b.1)

-- the front of the outer list is the front of the inner one, or is not in it
module _ (u v : ℕ) (us vs : List ℕ) (p : all (ltb u) us ≡ true) (q : all (ltb v) vs ≡ true) (h : all (λ w. has w (v ∷ vs)) (u ∷ us) ≡ true) where
  fronts_same : eqb u v ≡ true → all (λ w. has w vs) us ≡ true
  unfolding all
  fronts_same e = has_tail v us vs (and_parts (has u (v ∷ vs)) (all (λ w. has w (v ∷ vs)) us) h).1 (rw (eqb-true u v e) at p)

  fronts_other : eqb u v ≡ false → all (λ w. has w vs) (u ∷ us) ≡ true
  unfolding all has any
  fronts_other e =
      let a = and_parts (has u (v ∷ vs)) (all (λ w. has w (v ∷ vs)) us) h in
      let i : has u vs ≡ true = rw e at (a.0) in
      let l = ltb-true v u (all-has (ltb v) u vs q i) in
      has_tail v (u ∷ us) vs h (rw (lt-ltb v u l) (all_weaken (ltb u) (ltb v) (λ x k. let m = ltb-true u x k in lt-ltb v x (omega arith)) us p))

pub inside_length : (us vs : List ℕ) → rising us ≡ true → rising vs ≡ true → all (λ w. has w vs) us ≡ true → length us ≤ length vs
unfolding rising all has any
inside_length [] vs p q h = omega arith
inside_length (u ∷ us) [] p q h = absurd (false≢true h)
inside_length (u ∷ us) (v ∷ vs) p q h =
    let f = split p in
    let g = split q in
    step f.0 g.0 (eqb u v) refl (λ k. inside_length us vs f.1 g.1 k) (λ k. inside_length (u ∷ us) vs p g.1 k)
  where
    step : all (ltb u) us ≡ true → all (ltb v) vs ≡ true → (b : Bool) → eqb u v ≡ b → (all (λ w. has w vs) us ≡ true → length us ≤ length vs)
        → (all (λ w. has w vs) (u ∷ us) ≡ true → suc (length us) ≤ length vs) → suc (length us) ≤ suc (length vs)
    step f g true e i j = let k = i (fronts_same u v us vs f g h e) in omega arith
    step f g false e i j = let k = j (fronts_other u v us vs f g h e) in omega arith

-- .. and as long, is that list
pub inside_same : (us vs : List ℕ) → rising us ≡ true → rising vs ≡ true → all (λ w. has w vs) us ≡ true → length us ≡ length vs → us ≡ vs
unfolding rising all has any
inside_same [] [] p q h l = refl
inside_same [] (v ∷ vs) p q h l = absurd (omega arith)
inside_same (u ∷ us) [] p q h l = absurd (false≢true h)
inside_same (u ∷ us) (v ∷ vs) p q h l =
    let f = split p in
    let g = split q in
    step f.0 g.0 (eqb u v) refl (λ k. inside_same us vs f.1 g.1 k (omega arith)) (λ k. inside_length (u ∷ us) vs p g.1 k)
  where
    step : all (ltb u) us ≡ true → all (ltb v) vs ≡ true → (b : Bool) → eqb u v ≡ b → (all (λ w. has w vs) us ≡ true → us ≡ vs)
        → (all (λ w. has w vs) (u ∷ us) ≡ true → suc (length us) ≤ length vs) → (u ∷ us) ≡ (v ∷ vs)
    step f g true e i j = let k = i (fronts_same u v us vs f g h e) in let z = eqb-true u v e in cc
    step f g false e i j = let k = j (fronts_other u v us vs f g h e) in absurd (omega arith)

-- The ranks of the used records

pub position-rank : (r : Rec) (p : ℕ) → p < 256 → position (rank r p) ≡ p
unfolding position rank
position-rank r p h = omega arith

-- what every used record's rank has, all ranks have
pub ranks-all : (P : ℕ → Bool) (i : ℕ) (bs : List Rec)
    → ((j : ℕ) → j < length bs → is_free (get_or bs j []) ≡ false → P (rank (get_or bs j []) (i + j)) ≡ true) → all P (ranks i bs) ≡ true
unfolding ranks all
ranks-all P i [] f = refl
ranks-all P i (r ∷ bs) f = step (is_free r) refl (ranks-all P (suc i) bs next)
  where
    next : (j : ℕ) → j < length bs → is_free (get_or bs j []) ≡ false → P (rank (get_or bs j []) (suc i + j)) ≡ true
    next j l e = let n : suc i + j ≡ i + suc j = omega arith in rw n (f (suc j) (omega arith) e)

    here : is_free r ≡ false → P (rank r i) ≡ true
    here e = let n : i + 0 ≡ i = omega arith in rw n at (f 0 (omega arith) e)

    step : (b : Bool) → is_free r ≡ b → all P (ranks (suc i) bs) ≡ true → all P (cond b (ranks (suc i) bs) (rank r i ∷ ranks (suc i) bs)) ≡ true
    step true e ih = ih
    step false e ih = rw (here e) ih

-- a used record's rank is there
pub ranks-has : (i j : ℕ) (bs : List Rec) → j < length bs → is_free (get_or bs j []) ≡ false → has (rank (get_or bs j []) (i + j)) (ranks i bs) ≡ true
unfolding ranks has any
ranks-has i j [] l e = absurd (omega arith)
ranks-has i zero (r ∷ bs) l e = let n : i + 0 ≡ i = omega arith in rw (e, n, eq-eqb (rank r i) (rank r i) refl)
ranks-has i (suc j) (r ∷ bs) l e =
    let n : i + suc j ≡ suc i + j = omega arith in
    rw n (step (is_free r) (ranks-has (suc i) j bs (omega arith) e))
  where
    either : (a : Bool) → (a || true) ≡ true
    either true = refl
    either false = refl

    step : (b : Bool) → any (eqb (rank (get_or bs j []) (suc i + j))) (ranks (suc i) bs) ≡ true
        → any (eqb (rank (get_or bs j []) (suc i + j))) (cond b (ranks (suc i) bs) (rank r i ∷ ranks (suc i) bs)) ≡ true
    step true h = h
    step false h = rw h (either (eqb (rank (get_or bs j []) (suc i + j)) (rank r i)))

none_has : (u : ℕ) (us : List ℕ) → all (λ w. not (eqb u w)) us ≡ true → has u us ≡ false
unfolding has any all
none_has u [] h = refl
none_has u (v ∷ us) h = let a = and_parts (not (eqb u v)) (all (λ w. not (eqb u w)) us) h in rw (not-true (eqb u v) a.0) (none_has u us a.1)

-- no two records have one rank
pub rank-new : (r : Rec) (i : ℕ) (bs : List Rec) → suc i + length bs ≤ 256 → has (rank r i) (ranks (suc i) bs) ≡ false
unfolding rank
rank-new r i bs h =
    none_has (rank r i) (ranks (suc i) bs)
    (ranks-all (λ w. not (eqb (rank r i) w)) (suc i) bs
    (λ j l e. rw (ne_eqb (rank r i) (rank (get_or bs j []) (suc i + j)) (λ z. omega arith))))

pub ranks-once : (i : ℕ) (bs : List Rec) → i + length bs ≤ 256 → once (ranks i bs) ≡ true
unfolding ranks once ◌&◌
ranks-once i [] h = refl
ranks-once i (r ∷ bs) h = step (is_free r) (ranks-once (suc i) bs (omega arith))
  where
    step : (b : Bool) → once (ranks (suc i) bs) ≡ true → once (cond b (ranks (suc i) bs) (rank r i ∷ ranks (suc i) bs)) ≡ true
    step true ih = ih
    step false ih = rw (rank-new r i bs (omega arith)) ih

-- no more than there are records
pub ranks-length : (i : ℕ) (bs : List Rec) → length (ranks i bs) ≤ length bs
unfolding ranks
ranks-length i [] = omega arith
ranks-length i (r ∷ bs) =
    let h = ranks-length (suc i) bs in
    elim (is_free r) as (λ b. length (cond b (ranks (suc i) bs) (rank r i ∷ ranks (suc i) bs)) ≤ suc (length bs)) [ true ↦ omega arith | false ↦ omega arith ]

pub ranks-placed : (bs : List Rec) → length bs ≤ 256 → all (placed bs) (ranks 0 bs) ≡ true
unfolding placed entry_used entry_rank entry
ranks-placed bs h = ranks-all (placed bs) 0 bs each
  where
    each : (j : ℕ) → j < length bs → is_free (get_or bs j []) ≡ false → placed bs (rank (get_or bs j []) (0 + j)) ≡ true
    each j l e =
        let n : 0 + j ≡ j = omega arith in
        let p : position (rank (get_or bs j []) j) ≡ j = position-rank (get_or bs j []) j (omega arith) in
        rw (n, p, lt-ltb j (length bs) l, e) (join (join refl refl) (eq-eqb (rank (get_or bs j []) j) (rank (get_or bs j []) j) refl))

pub placed-used : (bs : List Rec) (w : ℕ) → placed bs w ≡ true → entry_used bs (position w) ≡ true
unfolding placed
placed-used bs w h = (split h).0

pub placed-rank : (bs : List Rec) (w : ℕ) → placed bs w ≡ true → entry_rank bs (position w) ≡ w
unfolding placed
placed-rank bs w h = eqb-true (entry_rank bs (position w)) w (split h).1

-- so the ranks of a table are the ranks of the records at their positions, and no others
pub has-ranks : (bs : List Rec) → length bs ≤ 256 → (w : ℕ) → has w (ranks 0 bs) ≡ placed bs w
unfolding placed entry_used entry_rank entry
has-ranks bs h w = same_truth (has w (ranks 0 bs)) (placed bs w) (λ e. all-has (placed bs) w (ranks 0 bs) (ranks-placed bs h) e) back
  where
    back : placed bs w ≡ true → has w (ranks 0 bs) ≡ true
    back e =
        let a = split e in
        let b = split (a.0) in
        let n : 0 + position w ≡ position w = omega arith in
        let q = ranks-has 0 (position w) bs (ltb-true (position w) (length bs) b.0) (not-true (is_free (get_or bs (position w) [])) b.1) in
        rw (n, eqb-true (rank (get_or bs (position w) []) (position w)) w a.1) at q

-- in order

module _ (bs : List Rec) (h : length bs ≤ 256) where
  pub has-in_order : (w : ℕ) → has w (ordered (ranks 0 bs)) ≡ placed bs w
  has-in_order w = has-ordered w (ranks 0 bs) ∙ has-ranks bs h w

  pub placed-in_order : all (placed bs) (ordered (ranks 0 bs)) ≡ true
  placed-in_order = all-ordered (placed bs) (ranks 0 bs) (ranks-placed bs h)

  pub length-in_order : length (ordered (ranks 0 bs)) ≡ length (ranks 0 bs)
  length-in_order = length-ordered (ranks 0 bs) (ranks-once 0 bs (omega arith))
