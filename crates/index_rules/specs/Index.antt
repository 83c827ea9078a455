-- The index of the bind table (document 02, request 3): "one octet for each used record, its position in the table from 0, ordered by source device, unit,
-- UID and interface type, ties by position, then 0xFF to the end".
use Rattle.std.specs.Prelude.{◌≡◌, Bool, true, false, cond, not, ◌&&◌, ◌||◌, List, [], ◌∷◌, ◌++◌, map, ℕ, suc, ◌+◌, ◌-◌, ◌*◌, ◌%◌, eqb, ltb, length, replicate}
use Rattle.std.specs.Prelude.{get_or}
use Rattle.rules.specs.Lists.{all, has, ◌&◌}
use Rattle.rules.specs.Units.{ordered}
use Rattle.rules.specs.Tables.{Rec, free, is_free}
use Rattle.rules.specs.Layout.{bind_source, bind_source_unit, bind_from, bind_uid, bind_role}

-- source device, source unit, UID and interface type of a bind, as one number
unfoldable pub bind_key : Rec → ℕ
bind_key b = (bind_from b * 32768 + bind_uid b) * 2 + bind_role b

-- "ties by position": the key, and then the position
unfoldable pub rank : Rec → ℕ → ℕ
rank b p = bind_key b * 256 + p

-- the position that a rank ends with
unfoldable pub position : ℕ → ℕ
position w = w % 256

-- the ranks of the used records, the first record standing at position i
unfoldable pub ranks : ℕ → List Rec → List ℕ
ranks i [] = []
ranks i (b ∷ bs) = cond (is_free b) (ranks (suc i) bs) (rank b i ∷ ranks (suc i) bs)

-- positions, "then 0xFF to the end", n octets in all
unfoldable pub filled : ℕ → List ℕ → List ℕ
filled n ps = ps ++ replicate (n - length ps) free

-- the index of a bind table, "as long as that has records"
unfoldable pub right_index : List Rec → List ℕ
right_index bs = filled (length bs) (map position (ordered (ranks 0 bs)))

-- are two lists the same?
unfoldable pub same : List ℕ → List ℕ → Bool
same [] [] = true
same [] (y ∷ b) = false
same (x ∷ a) [] = false
same (x ∷ a) (y ∷ b) = eqb x y && same a b

-- outcome 30: "index of wrong length or content"
unfoldable pub index_right : List Rec → List ℕ → Bool
index_right bs ix = same ix (right_index bs)

-- What an entry names

-- the record at that position
unfoldable pub entry : List Rec → ℕ → Rec
entry bs p = get_or bs p []

-- is it there, and in use?
unfoldable pub entry_used : List Rec → ℕ → Bool
entry_used bs p = ltb p (length bs) & not (is_free (entry bs p))

unfoldable pub entry_rank : List Rec → ℕ → ℕ
entry_rank bs p = rank (entry bs p) p

-- The same in the paper's words, without a number for a bind

-- the lower number comes first; where they are equal, what follows decides
unfoldable pub lower : ℕ → ℕ → Bool → Bool
lower a b next = ltb a b || (eqb a b & next)

-- does the bind at position p stand before the one at q? "by source device, unit, UID and interface type, ties by position"
unfoldable pub precedes : List Rec → ℕ → ℕ → Bool
precedes bs p q =
    lower (bind_source (entry bs p)).0 (bind_source (entry bs q)).0
    (lower (bind_source_unit (entry bs p)) (bind_source_unit (entry bs q))
    (lower (bind_uid (entry bs p)) (bind_uid (entry bs q))
    (lower (bind_role (entry bs p)) (bind_role (entry bs q))
    (ltb p q))))

-- does each stand before all behind it?
unfoldable pub in_order : (ℕ → ℕ → Bool) → List ℕ → Bool
in_order before [] = true
in_order before (p ∷ ps) = all (before p) ps & in_order before ps

pub record InWords (bs : List Rec) (ix : List ℕ) : Type 0 where
  -- "one octet for each used record, its position in the table from 0"
  pub positions : List ℕ
  pub each : (p : ℕ) → has p positions ≡ entry_used bs p
  -- "ordered by source device, unit, UID and interface type, ties by position"
  pub order : in_order (precedes bs) positions ≡ true
  -- "then 0xFF to the end"
  pub whole : ix ≡ filled (length bs) positions
