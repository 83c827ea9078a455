-- Runs of octets and the numbers that they make: on a record of octets, a test by octets and one by number are the same test.
use native.Mathlib.Numerals.{add-one}
use Rattle.words.specs.Basics.{◌≡◌, refl, sym, ◌∙◌, Bool, true, false, not, ◌&&◌, false≢true, List, [], ◌∷◌, ℕ, zero, suc, ◌+◌, ◌*◌, ◌/◌, ◌%◌, ◌<◌, ◌≤◌, arith}
use Rattle.words.specs.Basics.{eqb, leb, length, take, drop-cons, not-true, eq-eqb, ne_eqb, eqb-true, leb-true, eqb-false}
use Rattle.rules.specs.Types.{DeviceAddress, GroupAddress, Binds}
use Rattle.rules.specs.Lists.{all, ◌&◌}
use Rattle.rules.specs.Octets.{octet, word, octets, octet_string, flag, number, joined}
use Rattle.rules.specs.Tables.{Rec, matches, addressed}
use Rattle.words.specs.Names.{flag_set}
use Rattle.rules.specs.Layout.{size, part_is, to_group, bound_group, bound_device, bind_destination, to_this_group, to_device}
use Rattle.rules.proofs.Lists.{and_parts, split, same_truth}

-- a record of k octets
unfoldable pub shaped : ℕ → Rec → Bool
shaped k r = eqb (length r) k & octet_string r

pub shaped-length : (k : ℕ) (r : Rec) → shaped k r ≡ true → length r ≡ k
unfolding shaped
shaped-length k r h = eqb-true (length r) k (split h).0

pub shaped-octets : (k : ℕ) (r : Rec) → shaped k r ≡ true → octet_string r ≡ true
unfolding shaped
shaped-octets k r h = (split h).1

pub octet_small : (s : List ℕ) (i : ℕ) → octet_string s ≡ true → octet i s ≤ 255
unfolding octet_string all
octet_small [] i h = omega arith
octet_small (o ∷ s) zero h = leb-true o 255 (and_parts (leb o 255) (all (λ o. leb o 255) s) h).0
octet_small (o ∷ s) (suc i) h = octet_small s i (and_parts (leb o 255) (all (λ o. leb o 255) s) h).1

-- two octets against the two of a word
two : (a b w : ℕ) → b ≤ 255 → (eqb a (w / 256) && (eqb b (w % 256) && true)) ≡ eqb (a * 256 + b) w
two a b w h = same_truth _ _ forth back
  where
    forth : (eqb a (w / 256) && (eqb b (w % 256) && true)) ≡ true → eqb (a * 256 + b) w ≡ true
    forth e =
        let x = and_parts (eqb a (w / 256)) (eqb b (w % 256) && true) e in
        let y = and_parts (eqb b (w % 256)) true x.1 in
        let p = eqb-true a (w / 256) x.0 in
        let q = eqb-true b (w % 256) y.0 in
        eq-eqb (a * 256 + b) w (omega arith)

    back : eqb (a * 256 + b) w ≡ true → (eqb a (w / 256) && (eqb b (w % 256) && true)) ≡ true
    back e =
        let p = eqb-true (a * 256 + b) w e in
        rw (eq-eqb a (w / 256) (omega arith), eq-eqb b (w % 256) (omega arith))

-- the run of a word's octets at place i is the word at place i
pub matches-word : (k i w : ℕ) (r : Rec) → i + 2 ≤ k → shaped k r ≡ true → matches i (octets w) r ≡ eqb (word i r) w
unfolding matches octets word shaped
matches-word k i w r l h =
    let s = split h in
    let n = eqb-true (length r) k s.0 in
    let i₁ : i < length r = omega arith in
    let i₂ : suc i < length r = omega arith in
    rw (add-one i, drop-cons r i 0 i₁, drop-cons r (suc i) 0 i₂) (two (octet i r) (octet (suc i) r) w (octet_small r (suc i) s.1))

pub addressed-word : (k w : ℕ) (r : Rec) → 2 ≤ k → shaped k r ≡ true → addressed w r ≡ eqb (word 0 r) w
unfolding addressed
addressed-word k w r l h = matches-word k 0 w r l h

-- .. and the record begins with that word's octets
pub begins-word : (k : ℕ) (r : Rec) → 2 ≤ k → shaped k r ≡ true → take 2 r ≡ octets (word 0 r)
unfolding octets word
begins-word k r l h = step r (shaped-length k r h) (octet_small r 1 (shaped-octets k r h))
  where
    step : (r : Rec) → length r ≡ k → octet 1 r ≤ 255 → take 2 r ≡ octets (word 0 r)
    step [] n s = absurd (omega arith)
    step (x ∷ []) n s = absurd (omega arith)
    step (x ∷ y ∷ r) n s =
        let a : (x * 256 + y) / 256 ≡ x = omega arith in
        let b : (x * 256 + y) % 256 ≡ y = omega arith in
        rw (a, b)

-- one way needs no octets: a record at an address begins with that word
pub word_of : (a : ℕ) (r : Rec) → addressed a r ≡ true → word 0 r ≡ a
unfolding addressed matches octets word
word_of a [] h = absurd (false≢true h)
word_of a (x ∷ []) h = absurd (false≢true (and_parts (eqb x (a / 256)) false h).1)
word_of a (x ∷ y ∷ r) h =
    let e = and_parts (eqb x (a / 256)) (eqb y (a % 256) && true) h in
    let f = and_parts (eqb y (a % 256)) true e.1 in
    let p = eqb-true x (a / 256) e.0 in
    let q = eqb-true y (a % 256) f.0 in
    omega arith

-- a record at one address is not at another
pub apart : (a d : ℕ) (r : Rec) → (a ≡ d → ⊥) → addressed a r ≡ true → not (addressed d r) ≡ true
apart a d r n e = step (addressed d r) refl
  where
    step : (b : Bool) → addressed d r ≡ b → not b ≡ true
    step true f = absurd (n (sym (word_of a r e) ∙ word_of d r f))
    step false f = refl

-- The destination of a bind, octets 6-7, with its flag (document 01, Tables)

module _ (n w : ℕ) (small : n < 32768) (word_small : w < 65536) where
  flag_set_lem : eqb w (joined 1 n) ≡ (eqb (flag w) 1 & eqb (number w) n)
  unfolding joined flag number ◌&◌
  flag_set_lem = same_truth _ _ forth back
    where
      forth : eqb w (1 * 32768 + n) ≡ true → (eqb (w / 32768 % 2) 1 && eqb (w % 32768) n) ≡ true
      forth e = let p = eqb-true w (1 * 32768 + n) e in rw (eq-eqb (w / 32768 % 2) 1 (omega arith), eq-eqb (w % 32768) n (omega arith))

      back : (eqb (w / 32768 % 2) 1 && eqb (w % 32768) n) ≡ true → eqb w (1 * 32768 + n) ≡ true
      back e =
          let a = and_parts (eqb (w / 32768 % 2) 1) (eqb (w % 32768) n) e in
          let p = eqb-true (w / 32768 % 2) 1 a.0 in
          let q = eqb-true (w % 32768) n a.1 in
          eq-eqb w (1 * 32768 + n) (omega arith)

  flag-clear : eqb w n ≡ (not (eqb (flag w) 1) & eqb (number w) n)
  unfolding flag number ◌&◌
  flag-clear = same_truth _ _ forth back
    where
      forth : eqb w n ≡ true → (not (eqb (w / 32768 % 2) 1) && eqb (w % 32768) n) ≡ true
      forth e = let p = eqb-true w n e in rw (ne_eqb (w / 32768 % 2) 1 (λ z. omega arith), eq-eqb (w % 32768) n (omega arith))

      back : (not (eqb (w / 32768 % 2) 1) && eqb (w % 32768) n) ≡ true → eqb w n ≡ true
      back e =
          let a = and_parts (not (eqb (w / 32768 % 2) 1)) (eqb (w % 32768) n) e in
          let p = eqb-false (w / 32768 % 2) 1 (not-true (eqb (w / 32768 % 2) 1) a.0) in
          let q = eqb-true (w % 32768) n a.1 in
          eq-eqb w n (omega (arith, p))

-- a word has 16 bits

pub octets-below : (s : List ℕ) (i : ℕ) → octet_string s ≡ true → word i s < 65536
unfolding word
octets-below s i h = omega (arith, octet_small s i h, octet_small s (i + 1) h)

pub word_below : (k i : ℕ) (r : Rec) → shaped k r ≡ true → word i r < 65536
word_below k i r h = octets-below r i (shaped-octets k r h)

-- the run that Delete Group looks for is a bind to that group
pub to_group_lem : (g : GroupAddress) (b : Rec) → g.0 < 32768 → shaped (size Binds) b ≡ true → to_this_group g b ≡ (to_group b & eqb (bound_group b).0 g.0)
unfolding to_group part_is
to_group_lem g b l h = matches-word 8 5 (joined flag_set g.0) b (omega arith) h ∙ flag_set_lem g.0 (bind_destination b) l (word_below 8 5 b h)

-- the run that Release looks for is a bind to that device, and to no group of its number
pub to_device_lem : (d : DeviceAddress) (b : Rec) → d.0 < 32768 → shaped (size Binds) b ≡ true → to_device d b ≡ (not (to_group b) & eqb (bound_device b).0 d.0)
unfolding to_group part_is
to_device_lem d b l h = matches-word 8 5 d.0 b (omega arith) h ∙ flag-clear d.0 (bind_destination b) l (word_below 8 5 b h)
