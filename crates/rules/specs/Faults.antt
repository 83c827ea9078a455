-- What is wrong with a bind, and with an Add Bind (document 01, Commands and codes; document 02, requests 4 and 6): the nine reasons.
use Rattle.std.specs.Prelude.{Bool, true, not, ◌||◌, List, ℕ, eqb, length, Option, None, Some}
use Rattle.words.specs.Names.{not_a_unit}
use Rattle.rules.specs.Types.{Reason, PayloadLength, NoSourceDevice, NoSourceUnit, DestinationUnitFF, NoDestinationDevice, NoDestinationUnit}
use Rattle.rules.specs.Types.{NoGroup, BoundToItself, AlreadyPresent, Binds}
use Rattle.rules.specs.Lists.{any, ask}
use Rattle.rules.specs.Tables.{Rec, used, matches}
use Rattle.rules.specs.Layout.{size, bind_source, bind_source_unit, bind_from, from_any_device, from_any_unit, to_group, bound_group, bound_device, bind_unit, bind_to}
use Rattle.rules.specs.Exists.{unit_exists, device_exists, group_exists}
use Rattle.rules.specs.Payloads.{bind_of}

-- The checks of a bind's fields. Beside any device every unit will do, and any unit beside every device; a destination is never any.

-- a source device that is written out exists
abbrev pub has_source_device : List Rec → Rec → Bool
has_source_device ds b = from_any_device b || device_exists ds (bind_source b)

-- .. and has the unit that is written out beside it
abbrev pub has_source_unit : List Rec → Rec → Bool
has_source_unit ds b = from_any_device b || from_any_unit b || unit_exists ds (bind_source b) (bind_source_unit b)

-- 0xFF is no unit's number, behind a group neither
abbrev pub names_unit : Rec → Bool
names_unit b = not (eqb (bind_unit b) not_a_unit)

-- a destination is a unit, whose device exists and has it, ..
abbrev pub has_bound_device : List Rec → Rec → Bool
has_bound_device ds b = to_group b || device_exists ds (bound_device b)

abbrev pub has_bound_unit : List Rec → Rec → Bool
has_bound_unit ds b = to_group b || unit_exists ds (bound_device b) (bind_unit b)

-- .. or a group, which exists
abbrev pub has_bound_group : List Rec → Rec → Bool
has_bound_group gs b = not (to_group b) || group_exists gs (bound_group b)

-- a unit is not bound to itself. Two equal numbers are a unit that is written out twice, since no destination is any.
abbrev pub to_another : Rec → Bool
to_another b = to_group b || not (eqb (bind_to b) (bind_from b))

-- The chain

-- "The first that holds is given.": 1 to 9 in the paper's order, of the bind b among devices and groups; `whole` says that its payload has the right
-- length, `new` that it is not present
unfoldable pub fault : (whole : Bool) → List Rec → List Rec → Rec → (new : Bool) → Option Reason
fault whole ds gs b new =
    ask whole (Some PayloadLength)
    (ask (has_source_device ds b) (Some NoSourceDevice)
    (ask (has_source_unit ds b) (Some NoSourceUnit)
    (ask (names_unit b) (Some DestinationUnitFF)
    (ask (has_bound_device ds b) (Some NoDestinationDevice)
    (ask (has_bound_unit ds b) (Some NoDestinationUnit)
    (ask (has_bound_group gs b) (Some NoGroup)
    (ask (to_another b) (Some BoundToItself)
    (ask new (Some AlreadyPresent)
    None))))))))

-- of a bind in a table, of which length and presence are not asked
abbrev pub bind_fault : List Rec → List Rec → Rec → Option Reason
bind_fault ds gs b = fault true ds gs b true

-- of Add Bind, by its payload
unfoldable pub add_fault : List Rec → List Rec → List Rec → List ℕ → Option Reason
add_fault ds bs gs p = fault (eqb (length p) (size Binds)) ds gs (bind_of p) (not (any (matches 0 (bind_of p)) (used bs)))
