-- A shift and an `|` in 16 bits, as a sum.
use native.Mathlib.Nat.{mod-eq_of_lt}
use lib.Bits.{bit_or, or_shifted}
use Rattle.words.specs.Basics.{◌≡◌, ap, ◌∙◌, ℕ, ◌+◌, ◌*◌, ◌%◌, ◌^◌, ◌<◌}

-- `(a << k) | b`
pub shifted : (a k b : ℕ) → a * 2 ^ k < 2 ^ 16 → b < 2 ^ k → bit_or (a * 2 ^ k % 2 ^ 16) b ≡ a * 2 ^ k + b
shifted a k b h l = ap (λ (x : ℕ). bit_or x b) (mod-eq_of_lt h) ∙ or_shifted a k b l
