-- "no address is there twice in devices or groups, no used record twice in binds or members" (document 01, Tables) is kept by every change.
use Rattle.words.specs.Basics.{◌≡◌, refl, sym, ◌∙◌, Bool, true, false, cond, not, ◌||◌, false≢true, List, [], ◌∷◌, ℕ, zero, suc, arith, eqb, length, take}
use Rattle.words.specs.Basics.{not-true, eq-eqb, eqb-true}
use Rattle.rules.specs.Lists.{any, all, keep}
use Rattle.rules.specs.Octets.{starts}
use Rattle.rules.specs.Tables.{Rec, is_free, blank, used, some_free, matches, put, clear, Change, none, store, wipe, change}
use Rattle.rules.specs.Sound.{distinct}
use Rattle.rules.proofs.Lists.{and_parts, or_parts, split, same_truth, none_weaken, all_of}
use Rattle.rules.proofs.Words.{shaped}
use Rattle.rules.proofs.Changes.{Storable, New, free-blank, any-put, any-clear}

pub eqb_turn : (m n : ℕ) → eqb m n ≡ eqb n m
eqb_turn m n = same_truth _ _ (λ e. eq-eqb n m (sym (eqb-true m n e))) (λ e. eq-eqb m n (sym (eqb-true n m e)))

-- of two records of one length, either begins as the other does
starts_turn : (n : ℕ) (x y : List ℕ) → length x ≡ length y → starts (take n x) y ≡ starts (take n y) x
starts_turn zero x y e = refl
starts_turn (suc n) [] [] e = refl
starts_turn (suc n) [] (b ∷ y) e = absurd (omega arith)
starts_turn (suc n) (a ∷ x) [] e = absurd (omega arith)
starts_turn (suc n) (a ∷ x) (b ∷ y) e = rw (eqb_turn b a, starts_turn n x y (omega arith))

-- is there no used record in t that begins with the first n octets of r?
unfoldable pub lone : ℕ → List Rec → Rec → Bool
lone n t r = not (any (matches 0 (take n r)) (used t))

module _ (k n : ℕ) where
  turned : (x y : Rec) → shaped k x ≡ true → shaped k y ≡ true → matches 0 (take n x) y ≡ matches 0 (take n y) x
  unfolding matches shaped
  turned x y h g =
      let a = eqb-true (length x) k (split h).0 in
      let b = eqb-true (length y) k (split g).0 in
      starts_turn n x y (omega arith)

  distinct-put : (r : Rec) (t : List Rec) → some_free t ≡ true → is_free r ≡ false → shaped k r ≡ true → all (shaped k) t ≡ true
      → any (matches 0 (take n r)) (used t) ≡ false → distinct n t ≡ true → distinct n (put r t) ≡ true
  unfolding distinct put used some_free any all keep
  distinct-put r [] h f s g a d = absurd (false≢true h)
  distinct-put r (x ∷ t) h f s g a d =
      let b = and_parts (shaped k x) (all (shaped k) t) g in
      let c = and_parts (is_free x || not (any (matches 0 (take n x)) (used t))) (distinct n t) d in
      step (is_free x) refl h a c.0 (λ h a. distinct-put r t h f s b.1 a c.1)
    where
      step : (b : Bool) → is_free x ≡ b → (b || any is_free t) ≡ true → any (matches 0 (take n r)) (cond (not b) (x ∷ used t) (used t)) ≡ false
          → (b || not (any (matches 0 (take n x)) (used t))) ≡ true
          → (some_free t ≡ true → any (matches 0 (take n r)) (used t) ≡ false → distinct n (put r t) ≡ true)
          → distinct n (cond b (r ∷ t) (x ∷ put r t)) ≡ true
      step true e h a c ih = rw (f, a) (and_parts (is_free x || not (any (matches 0 (take n x)) (used t))) (distinct n t) d).1
      step false e h a c ih =
          let o = or_parts (matches 0 (take n r) x) (any (matches 0 (take n r)) (used t)) a in
          rw (
            e,
            any-put (matches 0 (take n x)) r t h f,
            turned x r (and_parts (shaped k x) (all (shaped k) t) g).0 s,
            o.0,
            not-true (any (matches 0 (take n x)) (used t)) c,
          ) (ih h o.1)

  distinct-clear : (q : Rec → Bool) (t : List Rec) → distinct n t ≡ true → distinct n (clear q t) ≡ true
  unfolding distinct clear used keep
  distinct-clear q [] d = refl
  distinct-clear q (x ∷ t) d =
      let c = and_parts (is_free x || not (any (matches 0 (take n x)) (used t))) (distinct n t) d in
      step (q x) (is_free x) refl c.0 (distinct-clear q t c.1)
    where
      fewer : any (matches 0 (take n x)) (used t) ≡ false → any (matches 0 (take n x)) (used (clear q t)) ≡ false
      fewer h = any-clear (matches 0 (take n x)) q t
          ∙ none_weaken (λ r. true) (matches 0 (take n x)) _ (λ r e i. (and_parts (not (q r)) (matches 0 (take n x) r) i).1) (used t)
          (all_of _ (λ r. refl) (used t)) h

      step : (b c : Bool) → is_free x ≡ c → (c || not (any (matches 0 (take n x)) (used t))) ≡ true → distinct n (clear q t) ≡ true
          → distinct n (cond b (blank x) x ∷ clear q t) ≡ true
      step true c e h ih = rw (free-blank x) ih
      step false true e h ih = rw e ih
      step false false e h ih = rw (e, fewer (not-true _ h)) ih

  pub distinct-change : (c : Change) (t : List Rec) → Storable c t → New c (shaped k) → New c (lone n t) → all (shaped k) t ≡ true
      → distinct n t ≡ true → distinct n (change c t) ≡ true
  unfolding change Storable New lone
  distinct-change none t f s l g d = d
  distinct-change (store r) t f s l g d = distinct-put r t f.0 f.1 s g (not-true _ l) d
  distinct-change (wipe q) t f s l g d = distinct-clear q t d
