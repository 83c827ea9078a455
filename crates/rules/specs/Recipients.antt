-- Recipients (document 01, Recipients): who gets a message of each kind of destination.
use Rattle.std.specs.Prelude.{Bool, cond, ◌||◌, List, [], ◌∷◌, map, ℕ, eqb}
use mathlib.Core.List.{flat_map}
use Rattle.words.specs.declared.Destination.{Destination}
use Rattle.rules.specs.Types.{GroupAddress, Fields, Concentrator, BindAddress, Unit, Group}
use Rattle.rules.specs.Lists.{keep, ◌&◌}
use Rattle.rules.specs.Units.{unit_number, ordered, without}
use Rattle.rules.specs.Message.{sender}
use Rattle.rules.specs.Tables.{Rec, used}
use Rattle.rules.specs.Layout.{bind_source, from_any_device, bind_source_unit, from_any_unit, bind_uid, at_any_interface, bind_role, to_group, bound_group, bind_to}
use Rattle.rules.specs.Layout.{member_number, in_group}

-- the units of a group's members
unfoldable pub members_of : List Rec → GroupAddress → List ℕ
members_of ms g = map member_number (keep (in_group g) (used ms))

-- "A request matches if each field is equal or the bind says any" (document 02, request 4): source device, source unit, UID; and the interface type is equal
unfoldable pub bind_matches : Fields → Rec → Bool
bind_matches f b =
    (from_any_device b || eqb (bind_source b).0 f.source.0)
    & (from_any_unit b || eqb (bind_source_unit b) f.source_unit)
    & (at_any_interface b || eqb (bind_uid b) f.uid)
    & eqb (bind_role b) f.interface_type

-- "the named unit or the group's members"; the destination unit of a group bind "plays no part in delivery"
unfoldable pub reached : List Rec → Rec → List ℕ
reached ms b = cond (to_group b) (members_of ms (bound_group b)) (bind_to b ∷ [])

-- whom the binds reach that match
unfoldable pub bound : List Rec → List Rec → Fields → List ℕ
bound bs ms f = flat_map (reached ms) (keep (bind_matches f) (used bs))

-- who gets a message of these fields and this destination
unfoldable pub recipients : List Rec → List Rec → Destination → Fields → List ℕ
recipients bs ms Concentrator f = []
recipients bs ms BindAddress f = ordered (without (sender f) (bound bs ms f))
recipients bs ms (Unit d u) f = unit_number d u ∷ []
recipients bs ms (Group g) f = ordered (without (sender f) (members_of ms g))
