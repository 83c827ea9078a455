-- Laws of the tests on lists: counting, finding and keeping. Laws of `any` and `all` follow from those of `count`.
use Rattle.words.specs.Basics.{◌≡◌, refl, sym, ap, ◌∙◌, Bool, true, false, cond, not, ◌&&◌, ◌||◌, false≢true, List, [], ◌∷◌, ◌++◌, map, flat_map, ℕ, zero, suc}
use Rattle.words.specs.Basics.{◌+◌, ◌<◌, ◌≤◌, arith, length, take, drop, replicate, get_or}
use Rattle.rules.specs.Lists.{◌&◌, ask, tick, count, any, all, keep, first_of}

unfoldable pub is_positive : ℕ → Bool
is_positive zero = false
is_positive (suc n) = true

unfoldable pub is_zero : ℕ → Bool
is_zero zero = true
is_zero (suc n) = false

pub and_parts : (a b : Bool) → (a && b) ≡ true → (a ≡ true) × (b ≡ true)
and_parts true b h = (refl, h)
and_parts false b h = absurd (false≢true h)

pub and-true : (b : Bool) → (b && true) ≡ b
and-true true = refl
and-true false = refl

pub and-false : (b : Bool) → (b && false) ≡ false
and-false true = refl
and-false false = refl

pub and_assoc : (a b c : Bool) → (a && (b && c)) ≡ ((a && b) && c)
and_assoc true b c = refl
and_assoc false b c = refl

pub never : (b : Bool) → not b ≡ true → b ≡ true → ⊥
never true h g = false≢true h
never false h g = false≢true g

pub or_parts : (a b : Bool) → (a || b) ≡ false → (a ≡ false) × (b ≡ false)
or_parts true b h = absurd (false≢true (sym h))
or_parts false b h = (refl, h)

pub split : {a b : Bool} → (a & b) ≡ true → (a ≡ true) × (b ≡ true)
unfolding ◌&◌
split {a} {b} h = and_parts a b h

pub join : {a b : Bool} → a ≡ true → b ≡ true → (a & b) ≡ true
unfolding ◌&◌
join {a} {b} h g = rw h g

-- two tests that imply each other are the same
pub same_truth : (a b : Bool) → (a ≡ true → b ≡ true) → (b ≡ true → a ≡ true) → a ≡ b
same_truth true b f g = sym (f refl)
same_truth false true f g = g refl
same_truth false false f g = refl

-- a check that holds hands on, one that fails answers
pub ask_pass : {A : Type 0} {b : Bool} (o r : A) → b ≡ true → ask b o r ≡ r
unfolding ask
ask_pass o r h = rw h

pub ask_fail : {A : Type 0} {b : Bool} (o r : A) → b ≡ false → ask b o r ≡ o
unfolding ask
ask_fail o r h = rw h

-- a check was passed, where its own answer is not the one given
pub pass : {A : Type 0} {b : Bool} {o r x : A} → (o ≡ x → ⊥) → ask b o r ≡ x → (b ≡ true) × (r ≡ x)
unfolding ask
pass {A} {b} {o} {r} {x} n h = step b h
  where
    step : (b : Bool) → cond b r o ≡ x → (b ≡ true) × (r ≡ x)
    step true h = (refl, h)
    step false h = absurd (n h)

module _ {A : Type 0} where
  pub count-keep : (p q : A → Bool) (l : List A) → count p (keep q l) ≡ count (λ x. q x && p x) l
  unfolding count keep
  count-keep p q [] = refl
  count-keep p q (x ∷ l) = step (q x) (count-keep p q l)
    where
      step : (b : Bool) → count p (keep q l) ≡ count (λ x. q x && p x) l
          → count p (cond b (x ∷ keep q l) (keep q l)) ≡ tick (b && p x) (count (λ x. q x && p x) l)
      step true ih = ap (tick (p x)) ih
      step false ih = ih

  -- some element passes iff their number is not 0
  pub any-count : (p : A → Bool) (l : List A) → any p l ≡ is_positive (count p l)
  unfolding count any is_positive
  any-count p [] = refl
  any-count p (x ∷ l) = elim (p x) as (λ b. (b || any p l) ≡ is_positive (tick b (count p l))) [ true ↦ refl | false ↦ any-count p l ]

  -- all pass iff the number of those that do not is 0
  pub all-count : (p : A → Bool) (l : List A) → all p l ≡ is_zero (count (λ x. not (p x)) l)
  unfolding count all is_zero
  all-count p [] = refl
  all-count p (x ∷ l) = elim (p x) as (λ b. (b && all p l) ≡ is_zero (tick (not b) (count (λ x. not (p x)) l))) [ true ↦ all-count p l | false ↦ refl ]

  pub all_weaken : (p q : A → Bool) → ((x : A) → p x ≡ true → q x ≡ true) → (l : List A) → all p l ≡ true → all q l ≡ true
  unfolding all
  all_weaken p q w [] h = refl
  all_weaken p q w (x ∷ l) h = let e = and_parts (p x) (all p l) h in rw (w x e.0) (all_weaken p q w l e.1)

  pub any_weaken : (p q : A → Bool) → ((x : A) → p x ≡ true → q x ≡ true) → (l : List A) → any p l ≡ true → any q l ≡ true
  unfolding any
  any_weaken p q w [] h = h
  any_weaken p q w (x ∷ l) h = step (p x) (q x) (w x) h (any_weaken p q w l)
    where
      step : (a b : Bool) → (a ≡ true → b ≡ true) → (a || any p l) ≡ true → (any p l ≡ true → any q l ≡ true) → (b || any q l) ≡ true
      step a true w h ih = refl
      step true false w h ih = absurd (false≢true (w refl))
      step false false w h ih = ih h

  -- two tests that agree on every element count alike
  pub count_same : (p q : A → Bool) → ((x : A) → p x ≡ q x) → (l : List A) → count p l ≡ count q l
  unfolding count
  count_same p q e [] = refl
  count_same p q e (x ∷ l) = rw (e x) (ap (tick (q x)) (count_same p q e l))

  pub any_same : (p q : A → Bool) → ((x : A) → p x ≡ q x) → (l : List A) → any p l ≡ any q l
  any_same p q e l = any-count p l ∙ ap is_positive (count_same p q e l) ∙ sym (any-count q l)

  -- an element of a joined list
  pub any_append : (p : A → Bool) (k l : List A) → any p (k ++ l) ≡ (any p k || any p l)
  unfolding any
  any_append p [] l = refl
  any_append p (x ∷ k) l = elim (p x) as (λ b. (b || any p (k ++ l)) ≡ (b || any p k || any p l)) [ true ↦ refl | false ↦ any_append p k l ]

  pub any-keep : (p q : A → Bool) (l : List A) → any p (keep q l) ≡ any (λ x. q x && p x) l
  any-keep p q l = any-count p (keep q l) ∙ ap is_positive (count-keep p q l) ∙ sym (any-count _ l)

  -- none passes a test that no element passes
  pub count_none : (l : List A) → count (λ x. false) l ≡ 0
  unfolding count
  count_none [] = refl
  count_none (x ∷ l) = count_none l

  pub any-and : (b : Bool) (p : A → Bool) (l : List A) → any (λ x. b && p x) l ≡ (b && any p l)
  unfolding is_positive
  any-and true p l = refl
  any-and false p l = any-count _ l ∙ ap is_positive (count_none l)

  -- tests that agree on the elements of a kind count alike in a list of that kind
  pub count_alike : (s p q : A → Bool) → ((x : A) → s x ≡ true → p x ≡ q x) → (l : List A) → all s l ≡ true → count p l ≡ count q l
  unfolding count all
  count_alike s p q e [] h = refl
  count_alike s p q e (x ∷ l) h = let a = and_parts (s x) (all s l) h in rw (e x a.0) (ap (tick (q x)) (count_alike s p q e l a.1))

  pub any_alike : (s p q : A → Bool) → ((x : A) → s x ≡ true → p x ≡ q x) → (l : List A) → all s l ≡ true → any p l ≡ any q l
  any_alike s p q e l h = any-count p l ∙ ap is_positive (count_alike s p q e l h) ∙ sym (any-count q l)

  -- where none passes a test, none passes one that asks more
  pub none_weaken : (s p q : A → Bool) → ((x : A) → s x ≡ true → q x ≡ true → p x ≡ true) → (l : List A) → all s l ≡ true
      → any p l ≡ false → any q l ≡ false
  unfolding any all
  none_weaken s p q w [] a h = refl
  none_weaken s p q w (x ∷ l) a h =
      let b = and_parts (s x) (all s l) a in
      step (p x) (q x) (w x b.0) h (none_weaken s p q w l b.1)
    where
      step : (a b : Bool) → (b ≡ true → a ≡ true) → (a || any p l) ≡ false → (any p l ≡ false → any q l ≡ false) → (b || any q l) ≡ false
      step true b w h ih = absurd (false≢true (sym h))
      step false true w h ih = absurd (false≢true (w refl))
      step false false w h ih = ih h

  -- what holds of every element, and of all, holds of all, and of each
  pub all_of : (p : A → Bool) → ((x : A) → p x ≡ true) → (l : List A) → all p l ≡ true
  unfolding all
  all_of p h [] = refl
  all_of p h (x ∷ l) = rw (h x) (all_of p h l)

  pub all-at : (p : A → Bool) (l : List A) (i : ℕ) (d : A) → i < length l → all p l ≡ true → p (get_or l i d) ≡ true
  unfolding all
  all-at p [] i d h a = absurd (omega arith)
  all-at p (x ∷ l) zero d h a = (and_parts (p x) (all p l) a).0
  all-at p (x ∷ l) (suc i) d h a = all-at p l i d (omega arith) (and_parts (p x) (all p l) a).1

  pub all_keep : (p q : A → Bool) (l : List A) → all p l ≡ true → all p (keep q l) ≡ true
  unfolding all keep
  all_keep p q [] h = refl
  all_keep p q (x ∷ l) h =
      let a = and_parts (p x) (all p l) h in
      elim (q x) as (λ b. all p (cond b (x ∷ keep q l) (keep q l)) ≡ true) [ true ↦ rw (a.0) (all_keep p q l a.1) | false ↦ all_keep p q l a.1 ]

  -- what is kept passes
  pub all-kept : (q : A → Bool) (l : List A) → all q (keep q l) ≡ true
  unfolding all keep
  all-kept q [] = refl
  all-kept q (x ∷ l) = step (q x) refl (all-kept q l)
    where
      step : (b : Bool) → q x ≡ b → all q (keep q l) ≡ true → all q (cond b (x ∷ keep q l) (keep q l)) ≡ true
      step true e ih = rw e ih
      step false e ih = ih

  pub all_append : (p : A → Bool) (k l : List A) → all p k ≡ true → all p l ≡ true → all p (k ++ l) ≡ true
  unfolding all
  all_append p [] l h g = g
  all_append p (x ∷ k) l h g = let a = and_parts (p x) (all p k) h in rw (a.0) (all_append p k l a.1 g)

  pub all_take : (p : A → Bool) (n : ℕ) (l : List A) → all p l ≡ true → all p (take n l) ≡ true
  unfolding all
  all_take p zero l h = refl
  all_take p (suc n) [] h = refl
  all_take p (suc n) (x ∷ l) h = let a = and_parts (p x) (all p l) h in rw (a.0) (all_take p n l a.1)

  pub all_drop : (p : A → Bool) (n : ℕ) (l : List A) → all p l ≡ true → all p (drop n l) ≡ true
  unfolding all
  all_drop p zero l h = h
  all_drop p (suc n) [] h = refl
  all_drop p (suc n) (x ∷ l) h = all_drop p n l (and_parts (p x) (all p l) h).1

  pub all_replicate : (p : A → Bool) (n : ℕ) (a : A) → p a ≡ true → all p (replicate n a) ≡ true
  unfolding all
  all_replicate p zero a h = refl
  all_replicate p (suc n) a h = rw h (all_replicate p n a h)

  -- every element is kept by a test that all pass, and two tests that agree keep the same

  pub keep_all : (l : List A) → keep (λ x. true) l ≡ l
  unfolding keep
  keep_all [] = refl
  keep_all (x ∷ l) = ap (λ k. x ∷ k) (keep_all l)

  pub keep_alike : (s p q : A → Bool) → ((x : A) → s x ≡ true → p x ≡ q x) → (l : List A) → all s l ≡ true → keep p l ≡ keep q l
  unfolding keep all
  keep_alike s p q e [] h = refl
  keep_alike s p q e (x ∷ l) h = let a = and_parts (s x) (all s l) h in rw (e x a.0, keep_alike s p q e l a.1)

  -- those that pass are as many as are kept, and no more than there are
  pub length-kept : (p : A → Bool) (l : List A) → length (keep p l) ≡ count p l
  unfolding keep count
  length-kept p [] = refl
  length-kept p (x ∷ l) =
      elim (p x) as (λ b. length (cond b (x ∷ keep p l) (keep p l)) ≡ tick b (count p l))
      [ true ↦ ap suc (length-kept p l) | false ↦ length-kept p l ]

  pub count-length : (p : A → Bool) (l : List A) → count p l ≤ length l
  unfolding count
  count-length p [] = omega arith
  count-length p (x ∷ l) = let h = count-length p l in elim (p x) as (λ b. tick b (count p l) ≤ suc (length l)) [ true ↦ omega arith | false ↦ omega arith ]

  -- no more are kept than there are
  pub few-kept : (p : A → Bool) (l : List A) → length (keep p l) ≤ length l
  few-kept p l = rw (length-kept p l) (count-length p l)

  pub count-some : (p : A → Bool) (l : List A) → any p l ≡ true → 1 ≤ count p l
  unfolding is_positive
  count-some p l h = step (count p l) (sym (any-count p l) ∙ h)
    where
      step : (n : ℕ) → is_positive n ≡ true → 1 ≤ n
      step zero e = absurd (false≢true e)
      step (suc n) e = omega arith

  -- two tests that no element passes both count no more than one that both imply
  pub count-two : (p q r : A → Bool) → ((x : A) → p x ≡ true → r x ≡ true) → ((x : A) → q x ≡ true → r x ≡ true) → ((x : A) → p x ≡ true → q x ≡ true → ⊥)
      → (l : List A) → count p l + count q l ≤ count r l
  unfolding count
  count-two p q r f g d [] = omega arith
  count-two p q r f g d (x ∷ l) = step (p x) (q x) (r x) (f x) (g x) (d x) (count-two p q r f g d l)
    where
      step : (a b c : Bool) → (a ≡ true → c ≡ true) → (b ≡ true → c ≡ true) → (a ≡ true → b ≡ true → ⊥)
          → count p l + count q l ≤ count r l → tick a (count p l) + tick b (count q l) ≤ tick c (count r l)
      step true true c f g d h = absurd (d refl refl)
      step true false true f g d h = omega arith
      step true false false f g d h = absurd (false≢true (f refl))
      step false true true f g d h = omega arith
      step false true false f g d h = absurd (false≢true (g refl))
      step false false true f g d h = omega arith
      step false false false f g d h = h

  -- the first that passes has what all have
  pub first_passes : (none : A) (p P : A → Bool) (l : List A) → any p l ≡ true → all P l ≡ true → P (first_of none p l) ≡ true
  unfolding any all first_of
  first_passes none p P [] h g = absurd (false≢true h)
  first_passes none p P (x ∷ l) h g = let a = and_parts (P x) (all P l) g in step (p x) h a.0 (λ w. first_passes none p P l w a.1)
    where
      step : (b : Bool) → (b || any p l) ≡ true → P x ≡ true → (any p l ≡ true → P (first_of none p l) ≡ true) → P (cond b x (first_of none p l)) ≡ true
      step true h e ih = e
      step false h e ih = ih h

  -- from one that passes, where all have something
  pub any_with : {C : Type 0} (p P : A → Bool) → ((x : A) → p x ≡ true → P x ≡ true → C) → (l : List A) → any p l ≡ true → all P l ≡ true → C
  unfolding any all
  any_with p P f [] h g = absurd (false≢true h)
  any_with {C} p P f (x ∷ l) h g = let a = and_parts (P x) (all P l) g in step (p x) refl h (λ k. any_with p P f l k a.1)
    where
      step : (b : Bool) → p x ≡ b → (b || any p l) ≡ true → (any p l ≡ true → C) → C
      step true e h ih = f x e (and_parts (P x) (all P l) g).0
      step false e h ih = ih h

module _ {A B : Type 0} where
  pub any-flat_map : (p : B → Bool) (f : A → List B) (l : List A) → any p (flat_map f l) ≡ any (λ x. any p (f x)) l
  unfolding any flat_map
  any-flat_map p f [] = refl
  any-flat_map p f (x ∷ l) = any_append p (f x) (flat_map f l) ∙ ap (λ b. any p (f x) || b) (any-flat_map p f l)

  pub any-map : (p : B → Bool) (f : A → B) (l : List A) → any p (map f l) ≡ any (λ x. p (f x)) l
  unfolding any
  any-map p f [] = refl
  any-map p f (x ∷ l) = ap (λ b. p (f x) || b) (any-map p f l)
