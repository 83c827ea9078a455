-- A number of one, two and three decimal digits.
use Rattle.words.specs.Basics.{◌≡◌, refl, Bool, true, false, [], ◌∷◌, ℕ, ◌/◌, ◌%◌, ◌<◌, ◌≤◌, arith, ltb, length, lt-ltb, le-ltb, ltb-true, ltb-false}
use Rattle.writing.specs.Writing.{digit, decimal}

module _ (n : ℕ) where
  pub one-digit : n < 10 → decimal n ≡ digit (n % 10) ∷ []
  unfolding decimal
  one-digit h =
      let e : n % 10 ≡ n = omega arith in
      rw (lt-ltb n 10 h, e)

  pub two_digits : 10 ≤ n → n < 100 → decimal n ≡ digit (n / 10 % 10) ∷ digit (n % 10) ∷ []
  unfolding decimal
  two_digits h l =
      let t : n / 10 < 10 = omega arith in
      let e : n / 10 % 10 ≡ n / 10 = omega arith in
      rw (le-ltb n 10 h, lt-ltb (n / 10) 10 t, e)

  pub three-digits : 100 ≤ n → n < 1000 → decimal n ≡ digit (n / 100) ∷ digit (n / 10 % 10) ∷ digit (n % 10) ∷ []
  unfolding decimal
  three-digits h l =
      let a : 10 ≤ n = omega arith in
      let b : 10 ≤ n / 10 = omega arith in
      let t : n / 10 / 10 < 10 = omega arith in
      let e : n / 10 / 10 ≡ n / 100 = omega arith in
      rw (le-ltb n 10 a, le-ltb (n / 10) 10 b, lt-ltb (n / 10 / 10) 10 t, e)

  pub at_most-three : n < 1000 → length (decimal n) ≤ 3
  at_most-three h = go (ltb n 10) refl (ltb n 100) refl
    where
      go : (a : Bool) → ltb n 10 ≡ a → (b : Bool) → ltb n 100 ≡ b → length (decimal n) ≤ 3
      go true p b q = rw (one-digit (ltb-true n 10 p)) (omega arith)
      go false p true q = rw (two_digits (ltb-false n 10 p) (ltb-true n 100 q)) (omega arith)
      go false p false q = rw (three-digits (ltb-false n 100 q) h) (omega arith)
