-- An array that is made by a closure's calls, octet after octet: the set of units 0 to `top`.
use native.Mathlib.Numerals.{add-one}
use denote.Param.Members.{Mut, Called}
use Rattle.std.specs.Array.{IsFromFnResultFrom, IsFromFnResult}
use Rattle.words.specs.Basics.{◌≡◌, ap, List, ◌∷◌, ℕ, zero, suc, ◌+◌, arith, length, drop, drop-cons, drop_of_length-le}
use Rattle.rules.specs.Layout.{among, low_bits, octets_up_to, up_to}

-- I holds of the closure before each call, and each call gives the octet of its index
module _ {F : Type 0} (g : Mut F (ℕ × Unit {0}) ℕ) (I : F → Type 0) (top : ℕ)
    (gives : (f : F) (i y : ℕ) (q : F) → I f → Called g f (i, tt) y q → (y ≡ low_bits (among top i)) × I q) where
  made_from : (ys : List ℕ) (n i : ℕ) (f : F) → I f → length ys ≡ i + n → IsFromFnResultFrom g f ys i n → drop i ys ≡ octets_up_to top n i
  made_from ys zero i f k l e = drop_of_length-le ys (omega arith)
  made_from ys (suc n) i f k l (q, y, at, called, rest) =
      let s : (y ≡ low_bits (among top i)) × I q = gives f i y q k called in
      rw (drop-cons ys i 0 (omega arith), at.1 0, s.0, ← add-one i) (ap (λ us. low_bits (among top i) ∷ us) (made_from ys n (i + 1) q s.1 (omega arith) rest))

  pub made_up_to : {ys : List ℕ} {f : F} → I f → IsFromFnResult g f ys 32 → ys ≡ up_to top
  unfolding up_to
  made_up_to {ys} {f} k e = made_from ys 32 0 f k e.long e.each
