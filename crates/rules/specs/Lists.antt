-- Lists tested by a Boolean: how many elements pass, whether one does, whether all do, and those that do.
use Rattle.std.specs.Prelude.{Bool, true, false, cond, ◌&&◌, ◌||◌, List, [], ◌∷◌, ℕ, suc, eqb}

-- "and" that stays shut, so that a law about it finds its arguments
infixl 35 ◌&◌
unfoldable pub ◌&◌ : Bool → Bool → Bool
a & b = a && b

-- a check: where it fails the answer is `otherwise`, else what the checks behind it say
unfoldable pub ask : {A : Type 0} → Bool → A → A → A
ask b otherwise rest = cond b rest otherwise

-- one more where the test holds
abbrev pub tick : Bool → ℕ → ℕ
tick true n = suc n
tick false n = n

module _ {A : Type 0} where
  unfoldable pub count : (A → Bool) → List A → ℕ
  count p [] = 0
  count p (x ∷ l) = tick (p x) (count p l)

  unfoldable pub any : (A → Bool) → List A → Bool
  any p [] = false
  any p (x ∷ l) = p x || any p l

  unfoldable pub all : (A → Bool) → List A → Bool
  all p [] = true
  all p (x ∷ l) = p x && all p l

  unfoldable pub keep : (A → Bool) → List A → List A
  keep p [] = []
  keep p (x ∷ l) = cond (p x) (x ∷ keep p l) (keep p l)

  -- the first that passes, or `none`
  unfoldable pub first_of : A → (A → Bool) → List A → A
  first_of none p [] = none
  first_of none p (x ∷ l) = cond (p x) x (first_of none p l)

-- is the number n in the list?
unfoldable pub has : ℕ → List ℕ → Bool
has n l = any (eqb n) l
