-- Laws of the recipients in a lent list: three octets and the unit's number, reading back what was written, one more recipient.
use native.Mathlib.Nat.{add-zero, sub-zero}
use lib.Seq.{drop-append-add, take_at, get_or_at}
use Rattle.std.specs.List.{list_any, range_with_len}
use Rattle.words.specs.Basics.{◌≡◌, refl, sym, ap, ◌∙◌, true, false, List, [], ◌∷◌, ◌++◌, flat_map, append-nil, append_assoc, ℕ, zero, suc, ◌+◌, ◌-◌, ◌*◌, ◌/◌}
use Rattle.words.specs.Basics.{◌%◌, ◌^◌, ◌<◌, ◌≤◌, arith, length, take, drop, get_or, length-drop, length-append, take-append-drop, sets, length-take-le}
use Rattle.words.specs.Basics.{drop_at, eqb, drop-length, drop-drop, get_or-drop, sets-eq}
use Rattle.rules.specs.Lists.{has}
use Rattle.rules.specs.Octets.{word, over}
use Rattle.rules.specs.Units.{unit_number, unit_at, three_octets, unit_octets}
use Rattle.rules.proofs.Order.{length-unit_octets}
use Rattle.units.specs.Listing.{units, added_all, Taken, Enough}
use Rattle.units.proofs.Units.{has-none, has-cons_found}
use Rattle.units.proofs.Taking.{added-there, added_new, added_all_grows}

-- Octets written over octets

-- all of them
pub over-whole : (a l : List ℕ) → length a ≡ length l → over a l ≡ a
unfolding over
over-whole a l h = rw (h, drop-length, append-nil)

pub over-over : (a b l : List ℕ) → length a ≤ length b → over b (over a l) ≡ over b l
unfolding over
over-over a b l h =
    let m : length b ≡ length a + (length b - length a) = omega arith in
    ap (λ (s : List ℕ). b ++ s) (rw (m, drop-append-add, drop-drop))

-- A unit and its octets

pub unit_drop : (at : ℕ) (l : List ℕ) → unit_at 0 (drop at l) ≡ unit_at at l
unfolding unit_at unit_number word
unit_drop at l = simp (get_or-drop, add-zero)

unit_read : (u : ℕ) (l : List ℕ) → unit_at 0 (three_octets u ++ l) ≡ u
unfolding unit_at unit_number word three_octets
unit_read u l = omega arith

-- Units and their octets

pub unit_octets-cons : (u : ℕ) (us : List ℕ) → unit_octets (u ∷ us) ≡ three_octets u ++ unit_octets us
unfolding unit_octets flat_map
unit_octets-cons u us = refl

pub unit_octets-append : (us vs : List ℕ) → unit_octets (us ++ vs) ≡ unit_octets us ++ unit_octets vs
unfolding unit_octets flat_map
unit_octets-append [] vs = refl
unit_octets-append (u ∷ us) vs = rw (unit_octets-append us vs) (sym (append_assoc (three_octets u) _ _))

unit_octets_more : (us : List ℕ) (u : ℕ) → unit_octets (us ++ u ∷ []) ≡ unit_octets us ++ three_octets u
unfolding unit_octets flat_map three_octets
unit_octets_more us u = unit_octets-append us (u ∷ [])

pub length-units : (n : ℕ) (l : List ℕ) → length (units n l) ≡ n
unfolding units
length-units zero l = refl
length-units (suc n) l = ap suc (length-units n (drop 3 l))

units_front : (us l : List ℕ) → units (length us) (unit_octets us ++ l) ≡ us
unfolding units unit_octets flat_map three_octets
units_front [] l = refl
units_front (u ∷ us) l = rw (unit_read u (unit_octets us ++ l), units_front us l)

-- what was written reads back
pub units-written : (us l : List ℕ) → units (length us) (over (unit_octets us) l) ≡ us
unfolding over
units-written us l = units_front us (drop (length (unit_octets us)) l)

-- octets that are read and written again are the same
pub octets-units : (n : ℕ) (l : List ℕ) → ((i : ℕ) → get_or l i 0 < 256) → 3 * n ≤ length l → unit_octets (units n l) ≡ take (3 * n) l
unfolding units unit_octets flat_map three_octets unit_at unit_number word
octets-units zero l o h = refl
octets-units (suc n) [] o h = absurd (omega arith)
octets-units (suc n) (a ∷ []) o h = absurd (omega arith)
octets-units (suc n) (a ∷ b ∷ []) o h = absurd (omega arith)
octets-units (suc n) (a ∷ b ∷ c ∷ l) o h =
    let m : 3 * suc n ≡ suc (suc (suc (3 * n))) = omega arith in
    let x : ((a * 256 + b) * 256 + c) / 65536 ≡ a = omega (arith, o 0, o 1, o 2) in
    let y : ((a * 256 + b) * 256 + c) / 256 % 256 ≡ b = omega (arith, o 0, o 1, o 2) in
    let z : ((a * 256 + b) * 256 + c) % 256 ≡ c = omega (arith, o 0, o 1, o 2) in
    rw (m, x, y, z, octets-units n l (λ i. o (suc (suc (suc i)))) (omega arith))

-- a unit in octets is below 2 ^ 24
pub unit_small : (at : ℕ) (l : List ℕ) → ((i : ℕ) → get_or l i 0 < 256) → unit_at at l < 2 ^ 24
unfolding unit_at unit_number word
unit_small at l o = omega (arith, o at, o (at + 1), o (at + 2))

-- The units from place i on of the first n

unfoldable pub units_from : ℕ → ℕ → List ℕ → List ℕ
units_from i n l = units (n - i) (drop (3 * i) l)

pub from_start : (n : ℕ) (l : List ℕ) → units_from 0 n l ≡ units n l
unfolding units_from
from_start n l = rw sub-zero

pub from_at : (i n : ℕ) (l : List ℕ) → i < n → units_from i n l ≡ unit_at (3 * i) l ∷ units_from (i + 1) n l
unfolding units_from units
from_at i n l h =
    let m : n - i ≡ suc (n - (i + 1)) = omega arith in
    let k : 3 * (i + 1) ≡ 3 * i + 3 = omega arith in
    rw (m, k, unit_drop, drop-drop)

pub from_end : (i n : ℕ) (l : List ℕ) → n ≤ i → units_from i n l ≡ []
unfolding units_from units
from_end i n l h =
    let m : n - i ≡ 0 = omega arith in
    rw m

-- the first k of them, and those from place k on
pub units_split : (k n : ℕ) (l : List ℕ) → k ≤ n → units n l ≡ units k l ++ units_from k n l
unfolding units units_from
units_split zero n l h = sym (from_start n l)
units_split (suc k) zero l h = absurd (omega arith)
units_split (suc k) (suc n) l h =
    let m : suc n - suc k ≡ n - k = omega arith in
    let a : 3 * suc k ≡ 3 + 3 * k = omega arith in
    rw (m, a, ← drop-drop (3 * k) 3 l) (ap (λ (t : List ℕ). unit_at 0 l ∷ t) (units_split k n (drop 3 l) (omega arith)))

pub units-at : (i n : ℕ) (l : List ℕ) → i < n → get_or (units n l) i 0 ≡ unit_at (3 * i) l
units-at i n l h = rw (units_split i n l (omega arith), from_at i n l h) (get_or_at (units i l) (unit_at (3 * i) l) (units_from (i + 1) n l) 0 i (length-units i l))

pub units_more : (n : ℕ) (l : List ℕ) → units (n + 1) l ≡ units n l ++ unit_at (3 * n) l ∷ []
units_more n l = units_split n (n + 1) l (omega arith) ∙ rw (from_at n (n + 1) l (omega arith), from_end (n + 1) (n + 1) l (omega arith))

-- whether u is one of them, looked for place by place
pub has-places : (u n a : ℕ) (l : List ℕ) → list_any (λ i. eqb (unit_at (3 * i) l) u) (range_with_len a n) ≡ has u (units n (drop (3 * a) l))
unfolding units
has-places u zero a l = sym (has-none u)
has-places u (suc n) a l =
    let k : 3 * (a + 1) ≡ 3 * a + 3 = omega arith in
    rw (has-cons_found, unit_drop, drop-drop, ← k, has-places u n (a + 1) l)

-- The state of a list: one more unit behind the others

written_more : (us l₀ : List ℕ) {l : List ℕ} {n : ℕ} (u : ℕ) → l ≡ over (unit_octets us) l₀ → n ≡ length us → 3 * n + 3 ≤ length l₀
    → sets l (3 * n) (three_octets u) ≡ over (unit_octets (us ++ u ∷ [])) l₀
unfolding over three_octets
written_more us l₀ {l} {n} u e c h =
    let a : length (unit_octets us) ≡ 3 * n = length-unit_octets us ∙ ap (λ (x : ℕ). 3 * x) (sym c) in
    let f : l ≡ unit_octets us ++ drop (3 * n) l₀ = e ∙ rw a in
    let g : length l ≡ length l₀ = ap length f ∙ rw (length-append, a, length-drop) (omega arith) in
    let k : length (unit_octets (us ++ u ∷ [])) ≡ 3 * n + 3 = length-unit_octets (us ++ u ∷ []) ∙ rw (length-append) (omega arith) in
    let d : drop (3 * n + 3) l ≡ drop (3 * n + 3) l₀ = rw (f, ← drop-drop 3 (3 * n), drop_at (unit_octets us) _ (3 * n) a) (drop-drop 3 (3 * n) l₀) in
    let t : take (3 * n) l ≡ unit_octets us = rw f (take_at (unit_octets us) _ (3 * n) a) in
    sets-eq (three_octets u) l (3 * n) (omega arith) ∙ rw (k, d, t, unit_octets_more)

-- as it is lent, its units are written over it
pub units-stand : (n : ℕ) (l : List ℕ) → ((i : ℕ) → get_or l i 0 < 256) → 3 * n ≤ length l → l ≡ over (unit_octets (units n l)) l
unfolding over
units-stand n l o h = rw (octets-units n l o h, length-take-le (3 * n) l h) (sym (take-append-drop (3 * n) l))

-- Taking units

pub enough_so_far : {vs : List ℕ} {n : ℕ} {l : List ℕ} → Enough vs n l → 3 * n ≤ length l
enough_so_far {vs} {n} {l} r = omega (arith, length-units n l, added_all_grows vs (units n l))

pub taken_none : {vs : List ℕ} {n : ℕ} {l : List ℕ} → vs ≡ [] → ((i : ℕ) → get_or l i 0 < 256) → Enough vs n l → Taken vs n l n l
unfolding added_all
taken_none {vs} {n} {l} e o r = rw e (record { count = sym (length-units n l); octets = units-stand n l o (enough_so_far r) })

-- one unit
module _ {u n : ℕ} {l : List ℕ} (r : Enough (u ∷ []) n l) where
  pub enough_for_one : has u (units n l) ≡ false → 3 * n + 3 ≤ length l
  unfolding added_all
  enough_for_one h = omega (arith, length-units n l, simp length-append at (ap length (added_new u (units n l) h)))

  pub taken_there : ((i : ℕ) → get_or l i 0 < 256) → has u (units n l) ≡ true → Taken (u ∷ []) n l n l
  unfolding added_all
  taken_there o h =
      let a = added-there u (units n l) h in
      record { count = rw a (sym (length-units n l)); octets = rw a (units-stand n l o (enough_so_far r)) }

  pub taken_new : ((i : ℕ) → get_or l i 0 < 256) → has u (units n l) ≡ false → {l' : List ℕ} → l' ≡ sets l (3 * n) (three_octets u) → Taken (u ∷ []) n l (n + 1) l'
  unfolding added_all
  taken_new o h {l'} s =
      let a = added_new u (units n l) h in
      record {
        count = rw (a, length-append, length-units);
        octets = s ∙ rw a (written_more (units n l) l u (units-stand n l o (enough_so_far r)) (sym (length-units n l)) (enough_for_one h));
      }
