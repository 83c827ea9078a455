-- A record stands by the recursion of the history if and only if it stands in the customer's own form: a granted call added it, and no granted call
-- since withdrew it.
use mathlib.Core.Logic.{◌⊎◌, inl, inr}
use mathlib.Core.List.Memᴰ
use mathlib.Core.List.{Memᴰ}
use Rattle.words.specs.Basics.{◌≡◌, refl, sym, ap, ◌∙◌, Bool, true, false, cond, not, ◌&&◌, false≢true, List, [], ◌∷◌, ◌++◌}
use Rattle.rules.specs.Types.{Kind}
use Rattle.rules.specs.Lists.{all, keep, ◌&◌}
use Rattle.rules.specs.Tables.{Rec}
use Rattle.rules.specs.History.{Event, granted, Entry, silent, adds, withdraws, entries, stand, standing, strikes, spares, Stands}
use Rattle.rules.proofs.Lists.{and_parts}

-- what is kept is what was there and passes

keep_member : (p : Rec → Bool) (r : Rec) (l : List Rec) → p r ≡ true → Memᴰ r l → Memᴰ r (keep p l)
unfolding keep
keep_member p r [] h m = absurd (Memᴰ.not-nil m)
keep_member p r (x ∷ l) h m = step (p x) refl (Memᴰ.cases_cons m) (keep_member p r l h)
  where
    step : (b : Bool) → p x ≡ b → (r ≡ x) ⊎ Memᴰ r l → (Memᴰ r l → Memᴰ r (keep p l)) → Memᴰ r (cond b (x ∷ keep p l) (keep p l))
    step true e (inl z) ih = Memᴰ.head z
    step true e (inr n) ih = Memᴰ.tail (ih n)
    step false e (inl z) ih = absurd (false≢true (sym e ∙ ap p (sym z) ∙ h))
    step false e (inr n) ih = ih n

member_kept : (p : Rec → Bool) (r : Rec) (l : List Rec) → Memᴰ r (keep p l) → (p r ≡ true) × Memᴰ r l
unfolding keep
member_kept p r [] m = absurd (Memᴰ.not-nil m)
member_kept p r (x ∷ l) m = step (p x) refl m (member_kept p r l)
  where
    further : (p r ≡ true) × Memᴰ r l → (p r ≡ true) × Memᴰ r (x ∷ l)
    further n = (n.0, Memᴰ.tail n.1)

    first : p x ≡ true → (r ≡ x) ⊎ Memᴰ r (keep p l) → (Memᴰ r (keep p l) → (p r ≡ true) × Memᴰ r l) → (p r ≡ true) × Memᴰ r (x ∷ l)
    first e (inl z) ih = (ap p z ∙ e, Memᴰ.head z)
    first e (inr n) ih = further (ih n)

    step : (b : Bool) → p x ≡ b → Memᴰ r (cond b (x ∷ keep p l) (keep p l)) → (Memᴰ r (keep p l) → (p r ≡ true) × Memᴰ r l)
        → (p r ≡ true) × Memᴰ r (x ∷ l)
    step true e m ih = first e (Memᴰ.cases_cons m) ih
    step false e m ih = further (ih m)

module _ (k : Kind) (r : Rec) where
  -- One event

  spared : (x : Event) (h : List Event) → spares k r x ≡ true → Memᴰ r (standing k h) → Memᴰ r (standing k (x ∷ h))
  unfolding standing spares strikes stand ◌&◌
  spared x h s m = step (granted x.call x.told) (entries x.call k) s
    where
      step : (b : Bool) (e : Entry) → not (b && strikes e r) ≡ true → Memᴰ r (cond b (stand e (standing k h)) (standing k h))
      step true silent s = m
      step true (adds y) s = Memᴰ.tail m
      step true (withdraws q) s = keep_member (λ x. not (q x)) r (standing k h) s m
      step false e s = m

  later_still : (x : Event) (h : List Event) → spares k r x ≡ true → Stands k r h → Stands k r (x ∷ h)
  unfolding all
  later_still x h s t = record {
    later = x ∷ t.later;
    event = t.event;
    earlier = t.earlier;
    whole = ap (λ l. x ∷ l) t.whole;
    answered = t.answered;
    added = t.added;
    kept = rw s t.kept;
  }

  -- From the customer's form

  after-added : (later : List Event) (x : Event) (earlier : List Event) → granted x.call x.told ≡ true
      → entries x.call k ≡ adds r → all (spares k r) later ≡ true
      → Memᴰ r (standing k (later ++ x ∷ earlier))
  unfolding all standing stand
  after-added [] x earlier g a w = rw (g, a) (Memᴰ.head refl)
  after-added (y ∷ later) x earlier g a w =
      let s = and_parts (spares k r y) (all (spares k r) later) w in
      spared y (later ++ x ∷ earlier) s.0 (after-added later x earlier g a s.1)

  pub stands_member : (h : List Event) → Stands k r h → Memᴰ r (standing k h)
  stands_member h s = rw s.whole (after-added s.later s.event s.earlier s.answered s.added s.kept)

  -- .. and back

  pub member_stands : (h : List Event) → Memᴰ r (standing k h) → Stands k r h
  unfolding standing stand spares strikes all ◌&◌
  member_stands [] m = absurd (Memᴰ.not-nil m)
  member_stands (x ∷ h) m = step (granted x.call x.told) (entries x.call k) refl refl m (member_stands h)
    where
      spare : (b : Bool) (e : Entry) → granted x.call x.told ≡ b → entries x.call k ≡ e → not (b && strikes e r) ≡ true → spares k r x ≡ true
      spare b e g a s = rw (g, a) s

      new : (y : Rec) → granted x.call x.told ≡ true → entries x.call k ≡ adds y → r ≡ y → Stands k r (x ∷ h)
      new y g a z = record { later = []; event = x; earlier = h; whole = refl; answered = g; added = a ∙ ap (λ l. adds l) (sym z); kept = refl }

      top : (y : Rec) → granted x.call x.told ≡ true → entries x.call k ≡ adds y → (r ≡ y) ⊎ Memᴰ r (standing k h)
          → (Memᴰ r (standing k h) → Stands k r h) → Stands k r (x ∷ h)
      top y g a (inl z) ih = new y g a z
      top y g a (inr n) ih = later_still x h (spare true (adds y) g a refl) (ih n)

      step : (b : Bool) (e : Entry) → granted x.call x.told ≡ b → entries x.call k ≡ e → Memᴰ r (cond b (stand e (standing k h)) (standing k h))
          → (Memᴰ r (standing k h) → Stands k r h) → Stands k r (x ∷ h)
      step true silent g a m ih = later_still x h (spare true silent g a refl) (ih m)
      step true (adds y) g a m ih = top y g a (Memᴰ.cases_cons m) ih
      step true (withdraws q) g a m ih =
          let n = member_kept (λ x. not (q x)) r (standing k h) m in
          later_still x h (spare true (withdraws q) g a n.0) (ih n.1)
      step false e g a m ih = later_still x h (spare false e g a refl) (ih m)

  -- the two forms say the same
  pub stands_as_told : (h : List Event) → (Stands k r h → Memᴰ r (standing k h)) × (Memᴰ r (standing k h) → Stands k r h)
  stands_as_told h = (stands_member h, member_stands h)
