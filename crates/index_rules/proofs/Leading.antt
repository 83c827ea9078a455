-- Lists in which those that pass a test come first: their number tells of each whether it passes, and cuts the list in two.
use Rattle.words.specs.Basics.{◌≡◌, refl, sym, ap, ◌∙◌, Bool, true, false, false≢true, cond, not, ◌&&◌, List, [], ◌∷◌, ℕ, zero, suc, ◌+◌, ◌-◌, ◌≤◌, ◌<◌, arith}
use Rattle.words.specs.Basics.{length, take, drop, get_or, not-true}
use Rattle.rules.specs.Lists.{tick, count, any, all, keep}
use Rattle.rules.proofs.Lists.{and_parts, count-keep, any-keep, all_keep}

unfoldable pub leading : (ℕ → Bool) → List ℕ → Bool
leading P [] = true
leading P (p ∷ l) = cond (P p) (leading P l) (all (λ x. not (P x)) l)

-- no one passes
module _ (P : ℕ → Bool) where
  none-count : (l : List ℕ) → all (λ x. not (P x)) l ≡ true → count P l ≡ 0
  unfolding all count
  none-count [] h = refl
  none-count (p ∷ l) h = let a = and_parts (not (P p)) (all (λ x. not (P x)) l) h in rw (not-true (P p) a.0) (none-count l a.1)

  none_kept : (l : List ℕ) → all (λ x. not (P x)) l ≡ true → keep P l ≡ []
  unfolding all keep
  none_kept [] h = refl
  none_kept (p ∷ l) h = let a = and_parts (not (P p)) (all (λ x. not (P x)) l) h in rw (not-true (P p) a.0) (none_kept l a.1)

  all_left : (l : List ℕ) → all (λ x. not (P x)) l ≡ true → keep (λ x. not (P x)) l ≡ l
  unfolding all keep
  all_left [] h = refl
  all_left (p ∷ l) h =
      let a = and_parts (not (P p)) (all (λ x. not (P x)) l) h in
      rw (a.0) (ap (λ (k : List ℕ). p ∷ k) (all_left l a.1))

  none-at : (l : List ℕ) (m : ℕ) → all (λ x. not (P x)) l ≡ true → m < length l → P (get_or l m 0) ≡ true → ⊥
  unfolding all
  none-at [] m h l e = absurd (omega arith)
  none-at (p ∷ ps) zero h l e = let a = and_parts (not (P p)) (all (λ x. not (P x)) ps) h in false≢true (sym (not-true (P p) a.0) ∙ e)
  none-at (p ∷ ps) (suc m) h l e = let a = and_parts (not (P p)) (all (λ x. not (P x)) ps) h in none-at ps m a.1 (omega arith) e

  pub none-leading : (l : List ℕ) → all (λ x. not (P x)) l ≡ true → leading P l ≡ true
  unfolding leading all
  none-leading [] h = refl
  none-leading (p ∷ l) h = let a = and_parts (not (P p)) (all (λ x. not (P x)) l) h in rw (not-true (P p) a.0) (a.1)

  -- one that passes stands in front of their number, and one that fails does not
  pub leading_pass : (l : List ℕ) (m : ℕ) → leading P l ≡ true → m < length l → P (get_or l m 0) ≡ true → m < count P l
  unfolding leading count
  leading_pass [] m h l e = absurd (omega arith)
  leading_pass (p ∷ ps) zero h l e = rw e (omega arith)
  leading_pass (p ∷ ps) (suc m) h l e = step (P p) h (λ g. leading_pass ps m g (omega arith) e)
    where
      step : (b : Bool) → cond b (leading P ps) (all (λ x. not (P x)) ps) ≡ true → (leading P ps ≡ true → m < count P ps) → suc m < tick b (count P ps)
      step true g ih = let k = ih g in omega arith
      step false g ih = absurd (none-at ps m g (omega arith) e)

  pub leading_fail : (l : List ℕ) (m : ℕ) → leading P l ≡ true → m < length l → P (get_or l m 0) ≡ false → count P l ≤ m
  unfolding leading count
  leading_fail [] m h l e = absurd (omega arith)
  leading_fail (p ∷ ps) zero h l e = let k = none-count ps (rw e at h) in rw e (omega (arith, k))
  leading_fail (p ∷ ps) (suc m) h l e = step (P p) h (λ g. leading_fail ps m g (omega arith) e)
    where
      step : (b : Bool) → cond b (leading P ps) (all (λ x. not (P x)) ps) ≡ true → (leading P ps ≡ true → count P ps ≤ m) → tick b (count P ps) ≤ suc m
      step true g ih = let k = ih g in omega arith
      step false g ih = let k = none-count ps g in omega arith

  -- those in front of it are those that pass, those behind it the others
  pub leading-take : (l : List ℕ) → leading P l ≡ true → take (count P l) l ≡ keep P l
  unfolding leading count keep
  leading-take [] h = refl
  leading-take (p ∷ ps) h = step (P p) h (λ g. leading-take ps g)
    where
      step : (b : Bool) → cond b (leading P ps) (all (λ x. not (P x)) ps) ≡ true → (leading P ps ≡ true → take (count P ps) ps ≡ keep P ps)
          → take (tick b (count P ps)) (p ∷ ps) ≡ cond b (p ∷ keep P ps) (keep P ps)
      step true g ih = ap (λ (k : List ℕ). p ∷ k) (ih g)
      step false g ih = rw (none-count ps g, none_kept ps g)

  pub leading-drop : (l : List ℕ) → leading P l ≡ true → drop (count P l) l ≡ keep (λ x. not (P x)) l
  unfolding leading count keep
  leading-drop [] h = refl
  leading-drop (p ∷ ps) h = step (P p) h (λ g. leading-drop ps g)
    where
      step : (b : Bool) → cond b (leading P ps) (all (λ x. not (P x)) ps) ≡ true → (leading P ps ≡ true → drop (count P ps) ps ≡ keep (λ x. not (P x)) ps)
          → drop (tick b (count P ps)) (p ∷ ps) ≡ cond (not b) (p ∷ keep (λ x. not (P x)) ps) (keep (λ x. not (P x)) ps)
      step true g ih = ih g
      step false g ih = rw (none-count ps g, all_left ps g)

  -- of a part of the list the same holds
  leading-keep : (Q : ℕ → Bool) (l : List ℕ) → leading P l ≡ true → leading P (keep Q l) ≡ true
  unfolding leading keep
  leading-keep Q [] h = refl
  leading-keep Q (p ∷ ps) h = step (Q p) (P p) refl h (λ g. leading-keep Q ps g)
    where
      fewer : (l : List ℕ) → all (λ x. not (P x)) l ≡ true → all (λ x. not (P x)) (keep Q l) ≡ true
      fewer l = all_keep (λ x. not (P x)) Q l

      step : (a b : Bool) → P p ≡ b → cond b (leading P ps) (all (λ x. not (P x)) ps) ≡ true → (leading P ps ≡ true → leading P (keep Q ps) ≡ true)
          → leading P (cond a (p ∷ keep Q ps) (keep Q ps)) ≡ true
      step true true e g ih = rw e (ih g)
      step true false e g ih = rw e (fewer ps g)
      step false true e g ih = ih g
      step false false e g ih = none-leading (keep Q ps) (fewer ps g)

-- Between two such numbers, where all that pass the first test pass the second, stand those that pass the second alone

module _ (P Q : ℕ → Bool) (l : List ℕ) (p : leading P l ≡ true) (q : leading Q l ≡ true) (i : (x : ℕ) → P x ≡ true → Q x ≡ true) where
  more : (k : List ℕ) → count Q k ≡ count P k + count (λ x. not (P x) && Q x) k
  unfolding count
  more [] = refl
  more (x ∷ k) = step (P x) (Q x) refl refl (more k)
    where
      step : (a b : Bool) → P x ≡ a → Q x ≡ b → count Q k ≡ count P k + count (λ x. not (P x) && Q x) k
          → tick b (count Q k) ≡ tick a (count P k) + tick (not a && b) (count (λ x. not (P x) && Q x) k)
      step true true e f ih = omega arith
      step true false e f ih = absurd (false≢true (sym f ∙ i x e))
      step false true e f ih = omega arith
      step false false e f ih = ih

  between : take (count Q l - count P l) (drop (count P l) l) ≡ keep Q (keep (λ x. not (P x)) l)
  between =
      let e : count Q l - count P l ≡ count Q (keep (λ x. not (P x)) l) = rw count-keep (omega (arith, more l)) in
      rw (leading-drop P l p, e) (leading-take Q (keep (λ x. not (P x)) l) (leading-keep Q (λ x. not (P x)) l q))

  pub any-between : (F : ℕ → Bool) → any F (take (count Q l - count P l) (drop (count P l) l)) ≡ any (λ x. not (P x) && (Q x && F x)) l
  any-between F = rw between (any-keep F Q (keep (λ x. not (P x)) l) ∙ any-keep (λ x. Q x && F x) (λ x. not (P x)) l)
