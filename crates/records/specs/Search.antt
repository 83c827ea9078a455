-- What a search asks of one record, and where it ends.
use Rattle.std.specs.Prelude.{Bool, cond, not, ◌&&◌, List, [], ◌∷◌, ℕ, ◌+◌, Option, Some, None}
use Rattle.rules.specs.Tables.{Rec, is_free}

-- is the record in use, and does it pass? A free record never does
unfoldable pub passes : (Rec → Bool) → Rec → Bool
passes q r = not (is_free r) && q r

-- the place of the first record that passes, of records of k octets the first of which stands at `at`
unfoldable pub place_of : ℕ → ℕ → (Rec → Bool) → List Rec → Option ℕ
place_of at k p [] = None
place_of at k p (r ∷ t) = cond (p r) (Some at) (place_of (at + k) k p t)

-- the place of the first used record that passes
unfoldable pub found_at : ℕ → ℕ → (Rec → Bool) → List Rec → Option ℕ
found_at at k q t = place_of at k (passes q) t
