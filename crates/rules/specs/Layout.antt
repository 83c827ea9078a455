-- The records (document 01, Tables; a device's: document 02, request 2; a session's: request 1): how many octets each has, how many there may be, where
-- its fields stand, and how it is built from them. No other file knows the place of a field, but for an old device's, which stand in `Carry`.
use Rattle.std.specs.Prelude.{Bool, List, [], ◌∷◌, ◌++◌, ℕ, zero, suc, ◌+◌, ◌-◌, ◌*◌, ◌/◌, ◌%◌, ◌^◌, min, eqb, length, take, drop, replicate}
use Rattle.words.specs.Names.{device, group, flag_set, any_device, any_unit, any_interface}
use Rattle.words.specs.declared.BindPart.TheVariants.{Whole, Source, SourceUnit, Destination, DestinationUnit}
use Rattle.rules.specs.Types.{DeviceAddress, GroupAddress, BindPart, Kind, Devices, Binds, Groups, Members, Sessions}
use Rattle.rules.specs.Octets.{octet, bit, word, octets, flag, number, joined}
use Rattle.rules.specs.Units.{unit_at}
use Rattle.rules.specs.Tables.{Rec, matches, addressed}

-- the octets of an address
abbrev pub address_length : ℕ
address_length = 2

-- what is asked of a table by its kind
pub record Shape : Type 0 where
  -- its place among the tables that a call is lent, which tells two kinds apart
  pub place : ℕ
  -- the octets of a record
  pub size : ℕ
  -- how many records there may be
  pub most : ℕ
  -- how many octets must not be there twice: those of its address, or the whole record
  pub key : ℕ

abbrev pub shape : Kind → Shape
shape Devices = record { place = 0; size = 36; most = 64; key = address_length }
shape Binds = record { place = 1; size = 8; most = 64; key = 8 }
shape Groups = record { place = 2; size = 16; most = 16; key = address_length }
shape Members = record { place = 3; size = 5; most = 128; key = 5 }
shape Sessions = record { place = 4; size = address_length; most = 8; key = address_length }

abbrev pub size : Kind → ℕ
size k = (shape k).size

abbrev pub most : Kind → ℕ
most k = (shape k).most

abbrev pub key : Kind → ℕ
key k = (shape k).key

-- the octets of a table at full size
abbrev pub full : Kind → ℕ
full k = most k * size k

-- A set of units: "32 octets with one bit per unit, the lowest bit of the first octet for unit 0" (document 02, request 2)

abbrev pub units_length : ℕ
units_length = 32

-- is the unit u in the set?
unfoldable pub in_set : ℕ → List ℕ → Bool
in_set u us = eqb (bit (u % 8) (octet (u / 8) us)) 1

-- The set of units 0 to `top`

-- how many of the eight units of octet i are at most `top`
unfoldable pub among : ℕ → ℕ → ℕ
among top i = min (top + 1 - i * 8) 8

-- an octet with its n lowest bits set
unfoldable pub low_bits : ℕ → ℕ
low_bits n = 2 ^ n - 1

-- n octets, from octet i on
abbrev pub octets_up_to : ℕ → ℕ → ℕ → List ℕ
octets_up_to top zero i = []
octets_up_to top (suc n) i = low_bits (among top i) ∷ octets_up_to top n (suc i)

unfoldable pub up_to : ℕ → List ℕ
up_to top = octets_up_to top units_length 0

-- Device: address 2, rights 1, one octet 0, units 32

abbrev pub device_address : Rec → DeviceAddress
device_address r = device (word 0 r)

abbrev pub device_rights : Rec → ℕ
device_rights r = octet 2 r

-- the octet that is 0
abbrev pub device_zero : Rec → ℕ
device_zero r = octet 3 r

abbrev pub device_units : Rec → List ℕ
device_units r = drop 4 r

unfoldable pub device_record : DeviceAddress → ℕ → List ℕ → Rec
device_record d rights us = octets d.0 ++ rights ∷ 0 ∷ us

-- Bind: source device 2, source unit 1, destination interface type and UID 2, destination address type and address 2, destination unit 1

-- the parts of a bind: where each begins, and how many octets it has
abbrev pub part_start : BindPart → ℕ
part_start Whole = 0
part_start Source = 0
part_start SourceUnit = 0
part_start Destination = 5
part_start DestinationUnit = 5

abbrev pub part_length : BindPart → ℕ
part_length Whole = size Binds
part_length Source = address_length
part_length SourceUnit = address_length + 1
part_length Destination = address_length
part_length DestinationUnit = address_length + 1

-- is this part of the bind these octets?
unfoldable pub part_is : BindPart → List ℕ → Rec → Bool
part_is q want b = matches (part_start q) want b

abbrev pub bind_source : Rec → DeviceAddress
bind_source b = device (word 0 b)

abbrev pub bind_source_unit : Rec → ℕ
bind_source_unit b = octet 2 b

-- the source as one number
abbrev pub bind_from : Rec → ℕ
bind_from b = unit_at 0 b

-- interface type and UID of the destination's interface, as one number and each

abbrev pub bind_interface : Rec → ℕ
bind_interface b = word 3 b

abbrev pub bind_role : Rec → ℕ
bind_role b = flag (bind_interface b)

abbrev pub bind_uid : Rec → ℕ
bind_uid b = number (bind_interface b)

-- does the bind say any device, any unit, any interface? (document 000, 6.2.1)

unfoldable pub from_any_device : Rec → Bool
from_any_device b = eqb (bind_source b).0 any_device.0

unfoldable pub from_any_unit : Rec → Bool
from_any_unit b = eqb (bind_source_unit b) any_unit

unfoldable pub at_any_interface : Rec → Bool
at_any_interface b = eqb (bind_uid b) any_interface

-- address type and address
abbrev pub bind_destination : Rec → ℕ
bind_destination b = word 5 b

-- a bind to a group: the flag in octet 6
unfoldable pub to_group : Rec → Bool
to_group b = eqb (flag (bind_destination b)) flag_set

-- the number in octets 6-7 is a group's or a device's
abbrev pub bound_group : Rec → GroupAddress
bound_group b = group (number (bind_destination b))

abbrev pub bound_device : Rec → DeviceAddress
bound_device b = device (number (bind_destination b))

abbrev pub bind_unit : Rec → ℕ
bind_unit b = octet 7 b

-- the named unit as one number
abbrev pub bind_to : Rec → ℕ
bind_to b = unit_at 5 b

-- binds that name a device as source, as individual destination, and binds to a group

abbrev pub from_device : DeviceAddress → Rec → Bool
from_device d = part_is Source (octets d.0)

abbrev pub to_device : DeviceAddress → Rec → Bool
to_device d = part_is Destination (octets d.0)

abbrev pub to_this_group : GroupAddress → Rec → Bool
to_this_group g = part_is Destination (octets (joined flag_set g.0))

-- Group: address 2, name length 1, name 13 padded with 0x00

abbrev pub longest_name : ℕ
longest_name = 13

abbrev pub group_address : Rec → GroupAddress
group_address r = group (word 0 r)

abbrev pub name_length : Rec → ℕ
name_length r = octet 2 r

abbrev pub group_name : Rec → List ℕ
group_name r = take (name_length r) (drop 3 r)

abbrev pub name_padding : Rec → List ℕ
name_padding r = drop (3 + name_length r) r

-- its address, and name length and name as they came in a payload, padded
unfoldable pub group_record : GroupAddress → List ℕ → Rec
group_record g p = octets g.0 ++ p ++ replicate (1 + longest_name - length p) 0x00

-- Member: group 2, device 2, unit 1

abbrev pub member_group : Rec → GroupAddress
member_group m = group (word 0 m)

abbrev pub member_device : Rec → DeviceAddress
member_device m = device (word 2 m)

abbrev pub member_unit : Rec → ℕ
member_unit m = octet 4 m

-- the member as one number
abbrev pub member_number : Rec → ℕ
member_number m = unit_at 2 m

unfoldable pub member_record : GroupAddress → DeviceAddress → ℕ → Rec
member_record g d u = octets g.0 ++ octets d.0 ++ u ∷ []

-- members of a group, and members that are units of a device

abbrev pub in_group : GroupAddress → Rec → Bool
in_group g = addressed g.0

abbrev pub of_device : DeviceAddress → Rec → Bool
of_device d = matches 2 (octets d.0)

-- Session: device address 2 (document 02, request 1)

abbrev pub session_device : Rec → DeviceAddress
session_device r = device (word 0 r)

unfoldable pub session_record : DeviceAddress → Rec
session_record d = octets d.0
