-- Tables (document 01, Tables): records of one fixed size, one after the other, no header. A free record is all 0xFF.
use Rattle.std.specs.Prelude.{Bool, cond, not, List, [], ◌∷◌, ◌++◌, map, ℕ, zero, suc, ◌/◌, eqb, length, take, drop}
use Rattle.rules.specs.Lists.{any, all, keep}
use Rattle.rules.specs.Octets.{starts, octets}

-- a record is its octets
abbrev pub Rec : Type 0
Rec = List ℕ

-- the first n parts of k octets each
abbrev pub cut : ℕ → ℕ → List ℕ → List Rec
cut zero k t = []
cut (suc n) k t = take k t ∷ cut n k (drop k t)

-- the whole records of k octets in the octets t
unfoldable pub records : ℕ → List ℕ → List Rec
records k t = cut (length t / k) k t

-- the octets of records, one record after the other
abbrev pub bytes : List Rec → List ℕ
bytes [] = []
bytes (r ∷ t) = r ++ bytes t

-- "A free record is all 0xFF."
abbrev pub free : ℕ
free = 0xFF

unfoldable pub is_free : Rec → Bool
is_free r = all (λ o. eqb o free) r

-- a record made free
unfoldable pub blank : Rec → Rec
blank r = map (λ o. free) r

-- the records in use
unfoldable pub used : List Rec → List Rec
used t = keep (λ r. not (is_free r)) t

-- is there a free record?
unfoldable pub some_free : List Rec → Bool
some_free t = any is_free t

-- do the octets of a record from place `from` on begin with `want`?
unfoldable pub matches : ℕ → List ℕ → Rec → Bool
matches from want r = starts want (drop from r)

-- does a record begin with this address?
unfoldable pub addressed : ℕ → Rec → Bool
addressed a r = matches 0 (octets a) r

-- "An addition takes the first free record"
unfoldable pub put : Rec → List Rec → List Rec
put r [] = []
put r (x ∷ t) = cond (is_free x) (r ∷ t) (x ∷ put r t)

-- all records that pass become free
unfoldable pub clear : (Rec → Bool) → List Rec → List Rec
clear q t = map (λ r. cond (q r) (blank r) r) t

-- What a call does to one table: nothing, an addition, or a removal. No table changes in another way.
pub data Change : Type 0 where
  none : Change
  store : Rec → Change
  wipe : (Rec → Bool) → Change

unfoldable pub change : Change → List Rec → List Rec
change none t = t
change (store r) t = put r t
change (wipe q) t = clear q t

-- the same on the octets of a table with records of k octets
unfoldable pub written : ℕ → Change → List ℕ → List ℕ
written k none t = t
written k (store r) t = bytes (put r (records k t))
written k (wipe q) t = bytes (clear q (records k t))
