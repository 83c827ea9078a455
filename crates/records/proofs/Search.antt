-- Laws of a search of a table's used records.
use Rattle.std.specs.Prelude.{Option, Some, None}
use Rattle.std.specs.List.{list_any, position_or_len}
use Rattle.std.specs.Option.{option_map}
use Rattle.std.proofs.lemmas.Bool.Decides.{nat_tests}
use Rattle.words.specs.Basics.{◌≡◌, refl, ◌∙◌, Bool, true, false, cond, not, ◌&&◌, ◌||◌, List, [], ◌∷◌, ℕ, suc, ◌+◌, ◌*◌, ◌≤◌, arith, ltb, length, take, drop}
use Rattle.rules.specs.Lists.{◌&◌, any, keep, first_of}
use Rattle.rules.specs.Tables.{Rec, records, is_free, used}
use Rattle.rules.proofs.Records.{records-all}
use Rattle.records.specs.Search.{passes, place_of, found_at}

-- A record before others, in use or free

any-used : (q : Rec → Bool) (r : Rec) (t : List Rec) → any q (used (r ∷ t)) ≡ (passes q r || any q (used t))
unfolding any used keep passes
any-used q r t = elim (is_free r) as (λ b. any q (cond (not b) (r ∷ used t) (used t)) ≡ ((not b && q r) || any q (used t))) [ true ↦ refl | false ↦ refl ]

first_used : (q : Rec → Bool) (r : Rec) (t : List Rec) → first_of [] q (used (r ∷ t)) ≡ cond (passes q r) r (first_of [] q (used t))
unfolding first_of used keep passes
first_used q r t = elim (is_free r) as (λ b. first_of [] q (cond (not b) (r ∷ used t) (used t)) ≡ cond (not b && q r) r (first_of [] q (used t)))
    [ true ↦ refl | false ↦ refl ]

-- the loop that looks for a used record that passes: it passes, or it makes no difference
pub any_hit : (q : Rec → Bool) (r : Rec) (t : List Rec) → passes q r ≡ true → any q (used (r ∷ t)) ≡ true
any_hit q r t e = any-used q r t ∙ rw e

pub any_miss : (q : Rec → Bool) (r : Rec) (t : List Rec) → passes q r ≡ false → any q (used (r ∷ t)) ≡ any q (used t)
any_miss q r t e = any-used q r t ∙ rw e

-- a record passes two tests: it passes the first, and then the second
pub passes-both : (p q : Rec → Bool) (r : Rec) → (passes p r && q r) ≡ passes (λ x. p x & q x) r
unfolding passes ◌&◌
passes-both p q r = elim (is_free r) as (λ b. ((not b && p r) && q r) ≡ (not b && (p r && q r))) [ true ↦ refl | false ↦ refl ]

-- What a search finds

abbrev pub is_found : Option ℕ → Bool
is_found (Some i) = true
is_found None = false

-- it finds one iff one is there
place_any : (at k : ℕ) (p : Rec → Bool) (t : List Rec) → any p t ≡ is_found (place_of at k p t)
unfolding any place_of
place_any at k p [] = refl
place_any at k p (r ∷ t) =
    elim (p r) as (λ b. (b || any p t) ≡ is_found (cond b (Some at) (place_of (at + k) k p t))) [ true ↦ refl | false ↦ place_any (at + k) k p t ]

-- of the used records, one passes iff a record is used and passes; and the first that does is the same
pub any-passes : (q : Rec → Bool) (t : List Rec) → any q (used t) ≡ any (passes q) t
unfolding any used keep
any-passes q [] = refl
any-passes q (r ∷ t) = any-used q r t ∙ rw (any-passes q t)

pub found_any : (at k : ℕ) (q : Rec → Bool) (t : List Rec) → any q (used t) ≡ is_found (found_at at k q t)
unfolding found_at
found_any at k q t = any-passes q t ∙ place_any at k (passes q) t

-- what it finds is the first record that passes, and whole
pub place_first : (k : ℕ) (p : Rec → Bool) (t : List ℕ) {i : ℕ} → place_of 0 k p (records k t) ≡ Some i
    → (i + k ≤ length t) × (first_of [] p (records k t) ≡ take k (drop i t))
unfolding place_of first_of
place_first k p t {i} e =
    records-all k t
    (λ at rs. place_of at k p rs ≡ Some i → (i + k ≤ length t) × (first_of [] p rs ≡ take k (drop i t)))
    (λ at n. let z : ◌≡◌ {A = ℕ} 0 1 = cc in absurd (omega arith))
    (λ at rs l ih. step at rs l ih (p (take k (drop at t))) refl)
    e
  where
    step : (at : ℕ) (rs : List Rec) → at + k ≤ length t
        → (place_of (at + k) k p rs ≡ Some i → (i + k ≤ length t) × (first_of [] p rs ≡ take k (drop i t)))
        → (b : Bool) → p (take k (drop at t)) ≡ b → cond b (Some at) (place_of (at + k) k p rs) ≡ Some i
        → (i + k ≤ length t) × (first_of [] p (take k (drop at t) ∷ rs) ≡ take k (drop i t))
    step at rs l ih true w h =
        let n : i ≡ at = cc in
        rw n (l, rw w)
    step at rs l ih false w h = ((ih h).0, rw w (ih h).1)

pub first-passes : (q : Rec → Bool) (t : List Rec) → first_of [] q (used t) ≡ first_of [] (passes q) t
unfolding first_of used keep
first-passes q [] = refl
first-passes q (r ∷ t) = first_used q r t ∙ rw (first-passes q t)

pub found_first : (k : ℕ) (q : Rec → Bool) (t : List ℕ) {i : ℕ} → found_at 0 k q (records k t) ≡ Some i
    → (i + k ≤ length t) × (first_of [] q (used (records k t)) ≡ take k (drop i t))
unfolding found_at
found_first k q t {i} e = let h = place_first k (passes q) t e in (h.0, first-passes q (records k t) ∙ h.1)

-- Chains of std on the records of a table

pub any-list_any : (p : Rec → Bool) (t : List Rec) → list_any p t ≡ any p t
unfolding any
any-list_any p [] = refl
any-list_any p (r ∷ t) = rw (any-list_any p t)

-- the count of records before the first that passes, times their size, is its place
position-at : (p : Rec → Bool) (f : ℕ → ℕ) (at k : ℕ) (t : List Rec) → ((i : ℕ) → f i ≡ at + i * k)
    → option_map f (cond (ltb (position_or_len p t) (length t)) (Some (position_or_len p t)) None) ≡ place_of at k p t
unfolding place_of
position-at p f at k [] e = refl
position-at p f at k (r ∷ t) e = step (p r) (position-at p (λ i. f (1 + i)) (at + k) k t (λ i. omega (arith, e (1 + i))))
  where
    m : ℕ
    m = position_or_len p t

    first : ltb 0 (suc (length t)) ≡ true
    first = grind (arith, nat_tests)

    more : ltb (1 + m) (suc (length t)) ≡ ltb m (length t)
    more = grind (arith, nat_tests)

    next : (c : Bool) → option_map f (cond c (Some (1 + m)) None) ≡ option_map (λ i. f (1 + i)) (cond c (Some m) None)
    next true = refl
    next false = refl

    step : (b : Bool) → option_map (λ i. f (1 + i)) (cond (ltb m (length t)) (Some m) None) ≡ place_of (at + k) k p t
        → option_map f (cond (ltb (cond (not b) (1 + m) 0) (suc (length t))) (Some (cond (not b) (1 + m) 0)) None)
        ≡ cond b (Some at) (place_of (at + k) k p t)
    step true ih = let z : f 0 ≡ at = omega (arith, e 0) in rw (first, z)
    step false ih = rw more (next (ltb m (length t)) ∙ ih)

pub position-place : (p : Rec → Bool) (k : ℕ) (t : List Rec)
    → option_map (λ i. i * k) (cond (ltb (position_or_len p t) (length t)) (Some (position_or_len p t)) None) ≡ place_of 0 k p t
position-place p k t = position-at p (λ i. i * k) 0 k t (λ i. omega arith)
