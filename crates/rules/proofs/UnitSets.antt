-- Sets of units: the set of units 0 to `top` has exactly these, and its octets are octets.
use native.Mathlib.Nat.{pow-succ', one-le-pow, pow-le-pow_right, zero-div, div-one, div-div-eq-div-mul, add-zero}
use native.Mathlib.Nat.{pow-zero}
use lib.Dec.{leb-suc-suc}
use Rattle.words.specs.Basics.{◌≡◌, refl, sym, ap, ◌∙◌, Bool, true, false, ℕ, zero, suc, ◌+◌, ◌*◌, ◌-◌, ◌/◌, ◌%◌, ◌^◌, ◌<◌, ◌≤◌, min, arith, eqb, leb, ltb}
use Rattle.words.specs.Basics.{length, get_or, leb-true, leb-false, lt-ltb, le-ltb, le-leb, eq-eqb}
use Rattle.rules.specs.Lists.{all}
use Rattle.rules.specs.Octets.{bit, octet_string}
use Rattle.rules.specs.Layout.{units_length, in_set, among, low_bits, octets_up_to, up_to}
use Rattle.rules.proofs.Lists.{join}
use Rattle.rules.proofs.Words.{shaped}

-- An octet with its n lowest bits set

lowest_odd : (n : ℕ) → (2 ^ suc n - 1) % 2 ≡ 1
lowest_odd n = let p : 1 ≤ 2 ^ n = one-le-pow n 2 (omega arith) in omega (arith, pow-succ' 2 n)

lowest_half : (n : ℕ) → (2 ^ suc n - 1) / 2 ≡ 2 ^ n - 1
lowest_half n = let p : 1 ≤ 2 ^ n = one-le-pow n 2 (omega arith) in omega (arith, pow-succ' 2 n)

-- bit k is one of the n lowest iff k < n
low_bit : (n k : ℕ) → eqb (bit k (low_bits n)) 1 ≡ ltb k n
unfolding bit low_bits
low_bit zero k = rw (zero-div (2 ^ k)) (sym (le-ltb k 0 (omega arith)))
low_bit (suc n) zero = rw (pow-zero 2, div-one, lowest_odd n) (sym (lt-ltb 0 (suc n) (omega arith)))
low_bit (suc n) (suc k) =
    let e : (2 ^ suc n - 1) / 2 ^ suc k ≡ (2 ^ n - 1) / 2 ^ k =
    ap (λ (x : ℕ). (2 ^ suc n - 1) / x) (pow-succ' 2 k) ∙ sym (div-div-eq-div-mul (2 ^ suc n - 1) 2 (2 ^ k)) ∙ ap (λ (x : ℕ). x / 2 ^ k) (lowest_half n) in
    let s : ltb (suc k) (suc n) ≡ ltb k n = leb-suc-suc (suc k) n in
    rw (e, s) (low_bit n k)

-- a power of two that a shift by at most 8 makes
pub pow_most : {n : ℕ} → n ≤ 8 → 2 ^ n ≤ 256
pow_most {n} h = pow-le-pow_right {n = 2} (omega arith) {i = n} {j = 8} h

pub pow_least : (n : ℕ) → 1 ≤ 2 ^ n
pow_least n = one-le-pow n 2 (omega arith)

-- The eight units of octet i that are at most `top`: none of them, some, all

pub among_none : (top i : ℕ) → top + 1 ≤ i * 8 → 0 ≡ among top i
unfolding among
among_none top i l = omega arith

pub among-some : (top i : ℕ) → top + 1 - i * 8 ≤ 8 → top + 1 - i * 8 ≡ among top i
unfolding among
among-some top i l = omega arith

pub among-all : (top i : ℕ) → 8 < top + 1 - i * 8 → 8 ≡ among top i
unfolding among
among-all top i l = omega arith

pub among-most : (top i : ℕ) → among top i ≤ 8
unfolding among
among-most top i = omega arith

-- unit k of octet i is among them iff its number is at most `top`
among_unit : (top i k : ℕ) → k < 8 → ltb k (among top i) ≡ leb (i * 8 + k) top
unfolding among
among_unit top i k l = step (leb (i * 8 + k) top) refl
  where
    step : (b : Bool) → leb (i * 8 + k) top ≡ b → ltb k (min (top + 1 - i * 8) 8) ≡ b
    step true e = let p : i * 8 + k ≤ top = leb-true (i * 8 + k) top e in lt-ltb k (min (top + 1 - i * 8) 8) (omega arith)
    step false e = let p : top < i * 8 + k = leb-false (i * 8 + k) top e in le-ltb k (min (top + 1 - i * 8) 8) (omega arith)

-- The set

length-octets_up_to : (top n i : ℕ) → length (octets_up_to top n i) ≡ n
length-octets_up_to top zero i = refl
length-octets_up_to top (suc n) i = ap suc (length-octets_up_to top n (suc i))

octet-up_to : (top n i j : ℕ) → j < n → get_or (octets_up_to top n i) j 0 ≡ low_bits (among top (i + j))
octet-up_to top zero i j h = absurd (omega arith)
octet-up_to top (suc n) i zero h = rw add-zero
octet-up_to top (suc n) i (suc j) h = let e : suc i + j ≡ i + suc j = omega arith in rw (← e) (octet-up_to top n (suc i) j (omega arith))

octets_are_octets : (top n i : ℕ) → octet_string (octets_up_to top n i) ≡ true
unfolding octet_string all low_bits
octets_are_octets top zero i = refl
octets_are_octets top (suc n) i =
    rw (le-leb (2 ^ among top i - 1) 255 (omega (arith, pow_most (among-most top i), pow_least (among top i)))) (octets_are_octets top n (suc i))

-- 32 octets
pub shaped-up_to : (top : ℕ) → shaped units_length (up_to top) ≡ true
unfolding up_to shaped
shaped-up_to top = join (eq-eqb _ units_length (length-octets_up_to top units_length 0)) (octets_are_octets top units_length 0)

-- a unit is in the set iff it is at most `top`
pub in_up_to : (top u : ℕ) → u ≤ 255 → in_set u (up_to top) ≡ leb u top
unfolding in_set up_to
in_up_to top u l =
    let q : u / 8 < 32 = omega arith in
    let z : 0 + u / 8 ≡ u / 8 = omega arith in
    let k : u % 8 < 8 = omega arith in
    let s : u / 8 * 8 + u % 8 ≡ u = omega arith in
    rw (octet-up_to top 32 0 (u / 8) q, z, low_bit (among top (u / 8)) (u % 8), among_unit top (u / 8) (u % 8) k, s)
