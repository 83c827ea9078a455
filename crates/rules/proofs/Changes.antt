-- Laws of the tables: what an addition and a removal do to the used records, and that the octets written read back as the records changed.
use native.Mathlib.Nat.{div-add-mod', div-mul-le_self}
use Rattle.words.specs.Basics.{◌≡◌, refl, sym, ap, ◌∙◌, Bool, true, false, cond, not, ◌&&◌, ◌||◌, false≢true, List, [], ◌∷◌, map, ℕ, zero, suc, ◌*◌, ◌/◌, ◌%◌}
use Rattle.words.specs.Basics.{◌<◌, ◌≤◌, arith, leb, length, take, drop, length-drop, length-map, length-take-le, eq-eqb, eqb-true, or-true}
use Rattle.rules.specs.Lists.{tick, count, any, all}
use Rattle.rules.specs.Octets.{octet_string}
use Rattle.rules.specs.Tables.{Rec, cut, records, bytes, is_free, blank, used, some_free, put, clear, Change, none, store, wipe, change, written}
use Rattle.rules.proofs.Lists.{is_positive, is_zero, and_parts, split, join, count-keep, count_same, any-count, all-count, all_weaken, all_keep}
use Rattle.rules.proofs.Lists.{all_append, all_take, all_drop}
use Rattle.rules.proofs.Records.{Each, length-records, length-bytes, records-bytes}
use Rattle.rules.proofs.Words.{shaped}

-- What must hold of a change

-- there is room for what is stored, and it is no free record
unfoldable pub Storable : Change → List Rec → Type 0
Storable none t = Unit {0}
Storable (store r) t = (some_free t ≡ true) × (is_free r ≡ false)
Storable (wipe q) t = Unit {0}

-- what is stored passes
unfoldable pub New : Change → (Rec → Bool) → Type 0
New none P = Unit {0}
New (store r) P = P r ≡ true
New (wipe q) P = Unit {0}

-- does a change leave this record where it is?
unfoldable pub spares : Change → Rec → Bool
spares none r = true
spares (store x) r = true
spares (wipe q) r = not (q r)

-- Counting the used records

pub free-blank : (r : Rec) → is_free (blank r) ≡ true
unfolding is_free blank all
free-blank [] = refl
free-blank (o ∷ r) = free-blank r

tick_swap : (a b : Bool) (n : ℕ) → tick a (tick b n) ≡ tick b (tick a n)
tick_swap true true n = refl
tick_swap true false n = refl
tick_swap false true n = refl
tick_swap false false n = refl

-- a test that no free record passes
module _ (P : Rec → Bool) (none_free : (r : Rec) → is_free r ≡ true → P r ≡ false) where
  put_raw : (r : Rec) (t : List Rec) → some_free t ≡ true → count P (put r t) ≡ tick (P r) (count P t)
  unfolding put some_free count any
  put_raw r [] h = absurd (false≢true h)
  put_raw r (x ∷ t) h = step (is_free x) refl h (λ k. put_raw r t k)
    where
      step : (b : Bool) → is_free x ≡ b → (b || any is_free t) ≡ true → (some_free t ≡ true → count P (put r t) ≡ tick (P r) (count P t))
          → count P (cond b (r ∷ t) (x ∷ put r t)) ≡ tick (P r) (tick (P x) (count P t))
      step true e h ih = rw (none_free x e)
      step false e h ih = rw (ih h) (tick_swap (P x) (P r) (count P t))

  clear_raw : (q : Rec → Bool) (t : List Rec) → count P (clear q t) ≡ count (λ r. not (q r) && P r) t
  unfolding clear count
  clear_raw q [] = refl
  clear_raw q (x ∷ t) = step (q x) (clear_raw q t)
    where
      step : (b : Bool) → count P (clear q t) ≡ count (λ r. not (q r) && P r) t
          → tick (P (cond b (blank x) x)) (count P (clear q t)) ≡ tick (not b && P x) (count (λ r. not (q r) && P r) t)
      step true ih = rw (none_free (blank x) (free-blank x)) ih
      step false ih = ap (tick (P x)) ih

used-none-free : (p : Rec → Bool) (r : Rec) → is_free r ≡ true → (not (is_free r) && p r) ≡ false
used-none-free p r e = rw e

-- an addition is one more
pub count-put : (p : Rec → Bool) (r : Rec) (t : List Rec) → some_free t ≡ true → is_free r ≡ false → count p (used (put r t)) ≡ tick (p r) (count p (used t))
unfolding used
count-put p r t h f = count-keep _ _ (put r t) ∙ put_raw _ (used-none-free p) r t h ∙ rw (f, count-keep)

and_swap : (a b c : Bool) → (a && (b && c)) ≡ (b && (a && c))
and_swap true b c = refl
and_swap false true c = refl
and_swap false false c = refl

-- a removal leaves those that do not pass
pub count-clear : (p q : Rec → Bool) (t : List Rec) → count p (used (clear q t)) ≡ count (λ r. not (q r) && p r) (used t)
unfolding used
count-clear p q t = count-keep _ _ (clear q t) ∙ clear_raw _ (used-none-free p) q t
    ∙ count_same _ _ (λ r. and_swap (not (q r)) (not (is_free r)) (p r)) t ∙ sym (count-keep _ _ t)

-- Finding the used records

-- one of two tests is passed: the first is, or the second
pub any-or : (p q : Rec → Bool) (t : List Rec) → any (λ r. p r || q r) t ≡ (any p t || any q t)
unfolding any
any-or p q [] = refl
any-or p q (r ∷ t) = step (p r) (q r) (any-or p q t)
  where
    step : (a b : Bool) → any (λ r. p r || q r) t ≡ (any p t || any q t) → (a || b || any (λ r. p r || q r) t) ≡ (a || any p t || (b || any q t))
    step true b ih = refl
    step false true ih = sym (or-true (any p t))
    step false false ih = ih

some-tick : (b : Bool) (n : ℕ) → is_positive (tick b n) ≡ (b || is_positive n)
unfolding is_positive
some-tick true n = refl
some-tick false n = refl

pub any-put : (p : Rec → Bool) (r : Rec) (t : List Rec) → some_free t ≡ true → is_free r ≡ false → any p (used (put r t)) ≡ (p r || any p (used t))
any-put p r t h f = any-count p (used (put r t)) ∙ ap is_positive (count-put p r t h f) ∙ some-tick (p r) (count p (used t))
    ∙ ap (λ b. p r || b) (sym (any-count p (used t)))

pub any-clear : (p q : Rec → Bool) (t : List Rec) → any p (used (clear q t)) ≡ any (λ r. not (q r) && p r) (used t)
any-clear p q t = any-count p (used (clear q t)) ∙ ap is_positive (count-clear p q t) ∙ sym (any-count _ (used t))

both : (a b : Bool) → (b ≡ true → a ≡ true) → (a && b) ≡ b
both true b h = refl
both false true h = h refl
both false false h = refl

or_right : (a b : Bool) → b ≡ true → (a || b) ≡ true
or_right true b h = refl
or_right false b h = h

-- what is there and spared is there afterwards
pub any-change : (c : Change) (t : List Rec) (p : Rec → Bool) → Storable c t → ((r : Rec) → p r ≡ true → spares c r ≡ true)
    → any p (used t) ≡ true → any p (used (change c t)) ≡ true
unfolding Storable spares change
any-change none t p f s h = h
any-change (store x) t p f s h = any-put p x t f.0 f.1 ∙ or_right (p x) (any p (used t)) h
any-change (wipe q) t p f s h =
    any-count p (used (clear q t)) ∙ ap is_positive (count-clear p q t ∙ count_same _ p (λ r. both (not (q r)) (p r) (s r)) (used t)) ∙ sym (any-count p (used t)) ∙ h

-- Testing all used records

de_morgan : (a b : Bool) → (not a && not b) ≡ not (a || b)
de_morgan true b = refl
de_morgan false b = refl

or_case : (a b : Bool) → (not a ≡ true → b ≡ true) → (a || b) ≡ true
or_case true b h = refl
or_case false b h = h refl

pub all-used : (s : Rec → Bool) (t : List Rec) → all s t ≡ true → all s (used t) ≡ true
unfolding used
all-used s t h = all_keep s _ t h

all-and : (p q : Rec → Bool) (l : List Rec) → all p l ≡ true → all q l ≡ true → all (λ x. p x && q x) l ≡ true
unfolding all
all-and p q [] h g = refl
all-and p q (x ∷ l) h g =
    let a = and_parts (p x) (all p l) h in
    let b = and_parts (q x) (all q l) g in
    rw (a.0, b.0) (all-and p q l a.1 b.1)

-- where the spared ones of a kind go from P to Q, and what is stored is of that kind and passes P, all used records pass Q
module _ (s P Q : Rec → Bool) (t : List Rec) (kind : all s t ≡ true) (h : all P (used t) ≡ true) where
  used_weaken : (R : Rec → Bool) → ((r : Rec) → s r ≡ true → P r ≡ true → R r ≡ true) → all R (used t) ≡ true
  used_weaken R w = all_weaken (λ r. s r && P r) R (λ r e. let a = and_parts (s r) (P r) e in w r a.0 a.1) (used t) (all-and s P (used t) (all-used s t kind) h)

  pub every_change : (c : Change) → Storable c t → New c s → New c P → ((r : Rec) → s r ≡ true → spares c r ≡ true → P r ≡ true → Q r ≡ true)
      → all Q (used (change c t)) ≡ true
  unfolding Storable spares change New
  every_change none f n m w = used_weaken Q (λ r e. w r e refl)
  every_change (store x) f n m w =
      all-count Q (used (put x t)) ∙ ap is_zero (count-put (λ r. not (Q r)) x t f.0 f.1)
      ∙ rw (w x n refl m) (sym (all-count Q (used t)) ∙ used_weaken Q (λ r e. w r e refl))
  every_change (wipe q) f n m w =
      all-count Q (used (clear q t)) ∙ ap is_zero (count-clear (λ r. not (Q r)) q t ∙ count_same _ (λ r. not (q r || Q r)) (λ r. de_morgan (q r) (Q r)) (used t))
      ∙ sym (all-count (λ r. q r || Q r) (used t)) ∙ used_weaken (λ r. q r || Q r) (λ r e i. or_case (q r) (Q r) (λ k. w r e k i))

-- Shapes

all-put : (s : Rec → Bool) (x : Rec) (t : List Rec) → s x ≡ true → all s t ≡ true → all s (put x t) ≡ true
unfolding all put
all-put s x [] n h = refl
all-put s x (y ∷ t) n h =
    let a = and_parts (s y) (all s t) h in
    elim (is_free y) as (λ b. all s (cond b (x ∷ t) (y ∷ put x t)) ≡ true) [ true ↦ rw n a.1 | false ↦ rw a.0 (all-put s x t n a.1) ]

all-clear : (s q : Rec → Bool) (t : List Rec) → ((r : Rec) → s r ≡ true → s (blank r) ≡ true) → all s t ≡ true → all s (clear q t) ≡ true
unfolding all clear
all-clear s q [] f h = refl
all-clear s q (y ∷ t) f h =
    let a = and_parts (s y) (all s t) h in
    elim (q y) as (λ b. (s (cond b (blank y) y) && all s (clear q t)) ≡ true)
    [ true ↦ rw (f y a.0) (all-clear s q t f a.1) | false ↦ rw a.0 (all-clear s q t f a.1) ]

shaped-blank : (k : ℕ) (r : Rec) → shaped k r ≡ true → shaped k (blank r) ≡ true
unfolding shaped blank octet_string all
shaped-blank k r h = join (rw (length-map {B = ℕ} r (λ o. 255)) (split h).0) (octets_of r)
  where
    octets_of : (r : Rec) → all (λ o. leb o 255) (map (λ o. 255) r) ≡ true
    octets_of [] = refl
    octets_of (o ∷ r) = octets_of r

pub shaped-change : (k : ℕ) (c : Change) (t : List Rec) → New c (shaped k) → all (shaped k) t ≡ true → all (shaped k) (change c t) ≡ true
unfolding change New
shaped-change k none t n h = h
shaped-change k (store x) t n h = all-put (shaped k) x t n h
shaped-change k (wipe q) t n h = all-clear (shaped k) q t (shaped-blank k) h

length-put : (r : Rec) (t : List Rec) → length (put r t) ≡ length t
unfolding put
length-put r [] = refl
length-put r (x ∷ t) = elim (is_free x) as (λ b. length (cond b (r ∷ t) (x ∷ put r t)) ≡ suc (length t)) [ true ↦ refl | false ↦ ap suc (length-put r t) ]

pub length-change : (c : Change) (t : List Rec) → length (change c t) ≡ length t
unfolding change clear
length-change none t = refl
length-change (store r) t = length-put r t
length-change (wipe q) t = length-map t _

-- Octets and records

shaped-cut : (n k : ℕ) (t : List ℕ) → n * k ≤ length t → octet_string t ≡ true → all (shaped k) (cut n k t) ≡ true
unfolding all shaped octet_string
shaped-cut zero k t l h = refl
shaped-cut (suc n) k t l h =
    rw (join (eq-eqb (length (take k t)) k (length-take-le k t (omega arith))) (all_take _ k t h))
    (shaped-cut n k (drop k t) (rw length-drop (omega arith)) (all_drop _ k t h))

-- the records of a table of octets
pub shaped-records : (k : ℕ) (t : List ℕ) → octet_string t ≡ true → all (shaped k) (records k t) ≡ true
unfolding records
shaped-records k t h = shaped-cut (length t / k) k t (div-mul-le_self (length t) k) h

module _ (k : ℕ) where
  pub each-shaped : (t : List Rec) → all (shaped k) t ≡ true → Each k t
  unfolding all shaped
  each-shaped [] h = tt
  each-shaped (r ∷ t) h =
      let a = and_parts (shaped k r) (all (shaped k) t) h in
      (eqb-true (length r) k (split (a.0)).0, each-shaped t a.1)

  octets-bytes : (t : List Rec) → all (shaped k) t ≡ true → octet_string (bytes t) ≡ true
  unfolding all shaped octet_string
  octets-bytes [] h = refl
  octets-bytes (r ∷ t) h =
      let a = and_parts (shaped k r) (all (shaped k) t) h in
      all_append _ r (bytes t) (split (a.0)).1 (octets-bytes t a.1)

-- a change on the octets of a table
module _ (k : ℕ) (p : 0 < k) (c : Change) (t : List ℕ) (n : New c (shaped k)) (o : octet_string t ≡ true) where
  shapes : all (shaped k) (change c (records k t)) ≡ true
  shapes = shaped-change k c (records k t) n (shaped-records k t o)

  pub records-written : records k (written k c t) ≡ change c (records k t)
  unfolding written change
  records-written = by c shapes
    where
      by : (c : Change) → all (shaped k) (change c (records k t)) ≡ true → records k (written k c t) ≡ change c (records k t)
      by none h = refl
      by (store r) h = records-bytes k _ p (each-shaped k _ h)
      by (wipe q) h = records-bytes k _ p (each-shaped k _ h)

  pub octets-written : octet_string (written k c t) ≡ true
  unfolding written change
  octets-written = by c shapes
    where
      by : (c : Change) → all (shaped k) (change c (records k t)) ≡ true → octet_string (written k c t) ≡ true
      by none h = o
      by (store r) h = octets-bytes k _ h
      by (wipe q) h = octets-bytes k _ h

  pub length-written : length t % k ≡ 0 → length (written k c t) ≡ length t
  unfolding written change
  length-written e = by c shapes
    where
      whole : length t / k * k ≡ length t
      whole = omega (arith, div-add-mod' (length t) k)

      long : (c : Change) → all (shaped k) (change c (records k t)) ≡ true → length (bytes (change c (records k t))) ≡ length t
      long c h = length-bytes k (change c (records k t)) (each-shaped k _ h) ∙ ap (λ i. i * k) (length-change c (records k t) ∙ length-records k t) ∙ whole

      by : (c : Change) → all (shaped k) (change c (records k t)) ≡ true → length (written k c t) ≡ length t
      by none h = refl
      by (store r) h = long (store r) h
      by (wipe q) h = long (wipe q) h
