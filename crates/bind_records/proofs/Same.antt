-- Two runs of the same length are equal iff one begins with the other.
use lib.Pointwise.{pointwise}
use Rattle.words.specs.Basics.{◌≡◌, refl, ap, Bool, ◌&&◌, List, [], ◌∷◌, ℕ, arith, eqb, length}
use Rattle.rules.specs.Octets.{starts}

pub pointwise-starts : (s w : List ℕ) → length s ≡ length w → pointwise eqb s w ≡ starts w s
pointwise-starts [] [] h = refl
pointwise-starts [] (y ∷ w) h = absurd (omega arith)
pointwise-starts (x ∷ s) [] h = absurd (omega arith)
pointwise-starts (x ∷ s) (y ∷ w) h = ap (λ (b : Bool). eqb x y && b) (pointwise-starts s w (omega arith))
