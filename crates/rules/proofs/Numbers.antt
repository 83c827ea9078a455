-- What is sent as octets, told in numbers: the runs that a removal looks for, the records that an addition stores, and the binds that a message matches.
-- The tables compare octets and fields, the history numbers; on octets these are the same.
use native.Mathlib.Numerals.{add-one}
use native.Mathlib.Nat.{mul-add-div_right, mul-add-mod_self_right, div-eq_of_lt, mod-eq_of_lt}
use Rattle.words.specs.Basics.{◌≡◌, refl, sym, ap, ◌∙◌, Bool, true, false, cond, ◌&&◌, ◌||◌, List, [], ◌∷◌, ◌++◌, ℕ, suc, ◌+◌, ◌*◌, ◌/◌, ◌%◌, ◌<◌, ◌≤◌, arith}
use Rattle.words.specs.Basics.{eqb, length, drop, drop-cons, drop-drop, drop_of_length-le, eq-eqb, eqb-true}
use Rattle.words.specs.Names.{group, any_device, any_unit, any_interface}
use Rattle.words.specs.declared.BindPart.TheVariants.{Whole, Source, SourceUnit, Destination, DestinationUnit}
use Rattle.rules.specs.Types.{BindPart, Binds, Members}
use Rattle.rules.specs.Lists.{◌&◌}
use Rattle.rules.specs.Octets.{octet, word, octets, octet_string, flag, number, joined, ignore_top, starts}
use Rattle.rules.specs.Tables.{Rec, matches}
use Rattle.rules.specs.Layout.{size, part_is, part_length, from_any_device, from_any_unit, at_any_interface, member_record}
use Rattle.rules.specs.Units.{unit_number}
use Rattle.rules.specs.Message.{fields, sender}
use Rattle.rules.specs.Recipients.{bind_matches}
use Rattle.rules.specs.Payloads.{bind_of, wanted, member_of, group_named}
use Rattle.rules.specs.History.{bind_said, bind_named, group_said, member_said, member_named, filled_in, source_said, interface_said, made_for}
use Rattle.rules.proofs.Lists.{and_parts, and-true, and-false, and_assoc, same_truth}
use Rattle.rules.proofs.Words.{shaped, shaped-length, shaped-octets, octet_small, matches-word}

-- A run in parts

starts-append : (xs ys s : List ℕ) → starts (xs ++ ys) s ≡ (starts xs s && starts ys (drop (length xs) s))
starts-append [] ys s = refl
starts-append (x ∷ xs) ys [] = refl
starts-append (x ∷ xs) ys (y ∷ s) = rw (starts-append xs ys s) (and_assoc (eqb y x) (starts xs s) (starts ys (drop (length xs) s)))

matches-append : (i : ℕ) (xs ys : List ℕ) (r : Rec) → matches i (xs ++ ys) r ≡ (matches i xs r && matches (i + length xs) ys r)
unfolding matches
matches-append i xs ys r = rw (← drop-drop (length xs) i r) (starts-append xs ys (drop i r))

-- one octet
matches-octet : (i o : ℕ) (r : Rec) → i < length r → matches i (o ∷ []) r ≡ eqb (octet i r) o
unfolding matches
matches-octet i o r l = rw (drop-cons r i 0 l) (and-true (eqb (octet i r) o))

-- Octets of a payload

module _ (p : List ℕ) (small : octet_string p ≡ true) where
  -- two octets are those of their word
  two-octets : (i : ℕ) → i + 2 ≤ length p → drop i p ≡ octets (word i p) ++ drop (i + 2) p
  unfolding octets word
  two-octets i l =
      let a = octet_small p i small in
      let b = octet_small p (suc i) small in
      let x : (octet i p * 256 + octet (suc i) p) / 256 ≡ octet i p = omega arith in
      let y : (octet i p * 256 + octet (suc i) p) % 256 ≡ octet (suc i) p = omega arith in
      rw (← drop-drop 2 i p, drop-cons p i 0 (omega arith), drop-cons p (suc i) 0 (omega arith), add-one i, x, y) refl

  one-octet : (i : ℕ) → i < length p → drop i p ≡ octet i p ∷ drop (suc i) p
  one-octet i l = drop-cons p i 0 l

  -- .. and without their top bit those of its number
  top_ignored : 2 ≤ length p → ignore_top p ≡ octets (number (word 0 p)) ++ drop 2 p
  unfolding ignore_top octets number word
  top_ignored l = step p small l
    where
      step : (p : List ℕ) → octet_string p ≡ true → 2 ≤ length p → ignore_top p ≡ octets (number (word 0 p)) ++ drop 2 p
      step [] o l = absurd (omega arith)
      step (x ∷ []) o l = absurd (omega arith)
      step (x ∷ y ∷ s) o l =
          let a = octet_small (x ∷ y ∷ s) 0 o in
          let b = octet_small (x ∷ y ∷ s) 1 o in
          let e : (x * 256 + y) % 32768 / 256 ≡ x % 128 = omega arith in
          let f : (x * 256 + y) % 32768 % 256 ≡ y = omega arith in
          rw (e, f) refl

  nothing_left : (i : ℕ) → length p ≤ i → drop i p ≡ []
  nothing_left i l = drop_of_length-le p l

-- The bind, the group and the member that a payload says

pub bind_said_lem : (p : List ℕ) → octet_string p ≡ true → length p ≡ size Binds → bind_of p ≡ bind_said p
unfolding bind_of bind_said
bind_said_lem p o l = top_ignored p o (omega arith)

pub group_said_lem : (p : List ℕ) → octet_string p ≡ true → group_named p ≡ group_said p
unfolding group_named group_said word number ignore_top
group_said_lem [] o = refl
group_said_lem (x ∷ []) o = ap group (omega arith)
group_said_lem (x ∷ y ∷ s) o = let b = octet_small (x ∷ y ∷ s) 1 o in ap group (omega arith)

pub member_said_lem : (p : List ℕ) → octet_string p ≡ true → length p ≡ size Members → member_of p ≡ member_said p
unfolding member_of member_said member_record ignore_top octets number word
member_said_lem [] o l = absurd (omega arith)
member_said_lem (a ∷ []) o l = absurd (omega arith)
member_said_lem (a ∷ b ∷ []) o l = absurd (omega arith)
member_said_lem (a ∷ b ∷ c ∷ []) o l = absurd (omega arith)
member_said_lem (a ∷ b ∷ c ∷ d ∷ []) o l = absurd (omega arith)
member_said_lem (a ∷ b ∷ c ∷ d ∷ e ∷ f ∷ s) o l = absurd (omega arith)
member_said_lem (a ∷ b ∷ c ∷ d ∷ e ∷ []) o l =
    let p : List ℕ = a ∷ b ∷ c ∷ d ∷ e ∷ [] in
    let i = octet_small p 1 o in
    let j = octet_small p 3 o in
    let g : (a * 256 + b) % 32768 / 256 ≡ a % 128 = omega arith in
    let h : (a * 256 + b) % 32768 % 256 ≡ b = omega arith in
    let k : (c * 256 + d) % 32768 / 256 ≡ c % 128 = omega arith in
    let n : (c * 256 + d) % 32768 % 256 ≡ d = omega arith in
    rw (g, h, k, n) refl

-- What a removal names

five : (a b c d e : Bool) → (a && (b && (c && (d && e)))) ≡ ((((a && b) && c) && d) && e)
five a b c d e = and_assoc a b (c && (d && e)) ∙ and_assoc (a && b) c (d && e) ∙ and_assoc ((a && b) && c) d e

-- a record of k octets whose octets from i on are a word and an octet
unit_word : (k i w o : ℕ) (r : Rec) → i + 3 ≤ k → shaped k r ≡ true → matches i (octets w ++ o ∷ []) r ≡ (eqb (word i r) w && eqb (octet (i + 2) r) o)
unfolding octets shaped
unit_word k i w o r l s =
    let n = shaped-length k r s in
    matches-append i (octets w) (o ∷ []) r ∙ rw (matches-word k i w r (omega arith) s, matches-octet (i + 2) o r (omega arith)) refl

module _ (p : List ℕ) (small : octet_string p ≡ true) where
  -- all of a bind, in parts
  whole-bind : length p ≡ size Binds
      → ignore_top p ≡ octets (number (word 0 p)) ++ (octet 2 p ∷ []) ++ octets (word 3 p) ++ octets (word 5 p) ++ octet 7 p ∷ []
  unfolding octets
  whole-bind l =
      rw (
        top_ignored p small (omega arith),
        one-octet p small 2 (omega arith),
        two-octets p small 3 (omega arith),
        two-octets p small 5 (omega arith),
        one-octet p small 7 (omega arith),
        nothing_left p small 8 (omega arith),
      ) refl

  -- an address with its flag, and with a unit behind it

  flagged : length p ≡ 2 → p ≡ octets (word 0 p)
  unfolding octets
  flagged l = two-octets p small 0 (omega arith) ∙ rw (nothing_left p small 2 (omega arith)) refl

  flagged_unit : length p ≡ 3 → p ≡ octets (word 0 p) ++ octet 2 p ∷ []
  unfolding octets
  flagged_unit l = two-octets p small 0 (omega arith) ∙ rw (one-octet p small 2 (omega arith), nothing_left p small 3 (omega arith)) refl

  pub bind_named_lem : (q : BindPart) → length p ≡ part_length q → (b : Rec) → shaped (size Binds) b ≡ true → part_is q (wanted q p) b ≡ bind_named q p b
  unfolding part_is wanted bind_named ◌&◌ octets shaped
  bind_named_lem Whole l b s =
      let n = shaped-length 8 b s in
      let unit : List ℕ = octet 2 p ∷ [] in
      let end : List ℕ = octet 7 p ∷ [] in
      ap (λ w. matches 0 w b) (whole-bind l)
      ∙ matches-append 0 (octets (number (word 0 p))) (unit ++ octets (word 3 p) ++ octets (word 5 p) ++ end) b
      ∙ rw (
        matches-append 2 unit (octets (word 3 p) ++ octets (word 5 p) ++ end) b,
        matches-append 3 (octets (word 3 p)) (octets (word 5 p) ++ end) b,
        matches-append 5 (octets (word 5 p)) end b,
        matches-word 8 0 (number (word 0 p)) b (omega arith) s,
        matches-octet 2 (octet 2 p) b (omega arith),
        matches-word 8 3 (word 3 p) b (omega arith) s,
        matches-word 8 5 (word 5 p) b (omega arith) s,
        matches-octet 7 (octet 7 p) b (omega arith),
      )
      (five (eqb (word 0 b) (number (word 0 p))) (eqb (octet 2 b) (octet 2 p)) (eqb (word 3 b) (word 3 p)) (eqb (word 5 b) (word 5 p))
      (eqb (octet 7 b) (octet 7 p)))
  bind_named_lem Source l b s =
      rw (top_ignored p small (omega arith), nothing_left p small 2 (omega arith)) (matches-word 8 0 (number (word 0 p)) b (omega arith) s)
  bind_named_lem SourceUnit l b s =
      rw (top_ignored p small (omega arith), one-octet p small 2 (omega arith), nothing_left p small 3 (omega arith))
      (unit_word 8 0 (number (word 0 p)) (octet 2 p) b (omega arith) s)
  bind_named_lem Destination l b s = ap (λ w. matches 5 w b) (flagged l) ∙ matches-word 8 5 (word 0 p) b (omega arith) s
  bind_named_lem DestinationUnit l b s = ap (λ w. matches 5 w b) (flagged_unit l) ∙ unit_word 8 5 (word 0 p) (octet 2 p) b (omega arith) s

  pub member_named_lem : length p ≡ size Members → (x : Rec) → shaped (size Members) x ≡ true → matches 0 (member_of p) x ≡ member_named p x
  unfolding member_named member_said member_record ◌&◌ octets
  member_named_lem l x s =
      ap (λ w. matches 0 w x) (member_said_lem p small l)
      ∙ matches-append 0 (octets (number (word 0 p))) (octets (number (word 2 p)) ++ octet 4 p ∷ []) x
      ∙ rw (matches-word 5 0 (number (word 0 p)) x (omega arith) s, unit_word 5 2 (number (word 2 p)) (octet 4 p) x (omega arith) s)
      (and_assoc (eqb (word 0 x) (number (word 0 p))) (eqb (word 2 x) (number (word 2 p))) (eqb (octet 4 x) (octet 4 p)))

-- The binds that a message matches

-- two numbers as one, the second below k: so a unit is one number, and an interface with its role

one_first : (k a b : ℕ) → b < k → (a * k + b) / k ≡ a
one_first k a b l = let p : 0 < k = omega arith in rw (mul-add-div_right p a b, div-eq_of_lt l) (omega arith)

one_second : (k a b : ℕ) → b < k → (a * k + b) % k ≡ b
one_second k a b l = rw (mul-add-mod_self_right a k b, mod-eq_of_lt l)

one_number : (k a b c d : ℕ) → b < k → d < k → (eqb a c && eqb b d) ≡ eqb (a * k + b) (c * k + d)
one_number k a b c d l n = same_truth _ _ forth back
  where
    forth : (eqb a c && eqb b d) ≡ true → eqb (a * k + b) (c * k + d) ≡ true
    forth e =
        let x = and_parts (eqb a c) (eqb b d) e in
        eq-eqb (a * k + b) (c * k + d) (rw (eqb-true a c x.0, eqb-true b d x.1))

    back : eqb (a * k + b) (c * k + d) ≡ true → (eqb a c && eqb b d) ≡ true
    back e =
        let x = eqb-true (a * k + b) (c * k + d) e in
        let y : a ≡ c = sym (one_first k a b l) ∙ ap (λ z. z / k) x ∙ one_first k c d n in
        let z : b ≡ d = sym (one_second k a b l) ∙ ap (λ z. z % k) x ∙ one_second k c d n in
        rw (eq-eqb a c y, eq-eqb b d z)

-- equal or any is equal, once any is filled in

filled_equal : (anyOne said own : ℕ) → (eqb said anyOne || eqb said own) ≡ eqb (filled_in anyOne said own) own
unfolding filled_in
filled_equal anyOne said own = step (eqb said anyOne)
  where
    step : (w : Bool) → (w || eqb said own) ≡ eqb (cond w own said) own
    step true = sym (eq-eqb own own refl)
    step false = refl

filled-below : (k anyOne said own : ℕ) → said < k → own < k → filled_in anyOne said own < k
unfolding filled_in
filled-below k anyOne said own l n = step (eqb said anyOne)
  where
    step : (w : Bool) → cond w own said < k
    step true = n
    step false = l

-- source device, source unit, UID and role, two and two
two-and-two : (a b c d : Bool) → (((a && b) && c) && d) ≡ ((a && b) && (d && c))
two-and-two true true true d = sym (and-true d)
two-and-two true true false d = sym (and-false d)
two-and-two true false c d = refl
two-and-two false b c d = refl

pub made_for_lem : (m : List ℕ) → octet_string m ≡ true → (b : Rec) → shaped (size Binds) b ≡ true → bind_matches (fields m) b ≡ made_for (fields m) b
unfolding bind_matches from_any_device from_any_unit at_any_interface made_for source_said interface_said fields sender unit_number joined number ◌&◌
made_for_lem m o b s =
    let t = shaped-octets 8 b s in
    let d : ℕ = filled_in any_device.0 (word 0 b) (word 0 m % 32768) in
    let u : ℕ = filled_in any_unit (octet 2 b) (octet 2 m) in
    let i : ℕ = filled_in any_interface (word 3 b % 32768) (word 10 m % 32768) in
    let x = octet_small b 2 t in
    let y = octet_small m 2 o in
    rw (
      filled_equal any_device.0 (word 0 b) (word 0 m % 32768),
      filled_equal any_unit (octet 2 b) (octet 2 m),
      filled_equal any_interface (word 3 b % 32768) (word 10 m % 32768),
      ← one_number 256 d u (word 0 m % 32768) (octet 2 m) (filled-below 256 any_unit (octet 2 b) (octet 2 m) (omega arith) (omega arith)) (omega arith),
      ← one_number 32768 (flag (word 3 b)) i (flag (word 10 m)) (word 10 m % 32768)
          (filled-below 32768 any_interface (word 3 b % 32768) (word 10 m % 32768) (omega arith) (omega arith)) (omega arith),
    )
    (two-and-two (eqb d (word 0 m % 32768)) (eqb u (octet 2 m)) (eqb i (word 10 m % 32768)) (eqb (flag (word 3 b)) (flag (word 10 m))))
