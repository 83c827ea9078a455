-- "Tables are sound if" (document 01, Tables; of sessions document 02, request 1)
use Rattle.std.specs.Prelude.{Bool, true, not, ◌&&◌, ◌||◌, List, [], ◌∷◌, ℕ, ◌*◌, ◌%◌, eqb, leb, length, take}
use Rattle.words.specs.Names.{lowest, highest, not_a_unit}
use Rattle.words.specs.Reasons.{faultless}
use Rattle.rules.specs.Types.{DeviceAddress, Kind, Devices, Binds, Groups, Members, Sessions}
use Rattle.rules.specs.Lists.{any, all, ◌&◌}
use Rattle.rules.specs.Octets.{flag}
use Rattle.rules.specs.Tables.{Rec, records, is_free, used, matches}
use Rattle.rules.specs.Layout.{size, most, key, in_set, device_address, device_rights, device_zero, device_units}
use Rattle.rules.specs.Layout.{bind_source, longest_name, group_address, name_length, name_padding, member_group, member_device, member_unit, session_device}
use Rattle.rules.specs.Frame.{Lent, lent_of, every_table, tables}
use Rattle.rules.specs.Exists.{unit_exists, device_exists, group_exists}
use Rattle.rules.specs.Faults.{bind_fault}

-- "each length is a multiple of its record size and within the limit": records of k octets, n at most
unfoldable pub whole_records : ℕ → ℕ → List ℕ → Bool
whole_records k n t = eqb (length t % k) 0 & leb (length t) (n * k)

-- "device and group addresses 0x0001 to 0x7FFE"
unfoldable pub address_fits : ℕ → Bool
address_fits a = leb lowest a & leb a highest

-- address, rights 0 or 1; "Unit 0 is always set and unit 255 never" (document 02, request 2)
unfoldable pub device_in_range : DeviceAddress → ℕ → List ℕ → Bool
device_in_range d rights us = address_fits d.0 & leb rights 1 & in_set 0 us & not (in_set not_a_unit us)

-- .. and "one octet 0"
unfoldable pub device_fits : Rec → Bool
device_fits r = device_in_range (device_address r) (device_rights r) (device_units r) & eqb (device_zero r) 0

-- address, name length 0 to 13, name padded with 0x00
unfoldable pub group_fits : Rec → Bool
group_fits r = address_fits (group_address r).0 & leb (name_length r) longest_name & all (λ o. eqb o 0x00) (name_padding r)

-- the field rules of Add Bind (document 01, Commands and codes; document 02, request 4: every UID will do), and "a bind's octet 1 with top bit 0"
unfoldable pub bind_fits : List Rec → List Rec → Rec → Bool
bind_fits ds gs b = eqb (flag (bind_source b).0) 0 & faultless (bind_fault ds gs b)

-- "each device and unit named exists; each group named exists"
unfoldable pub member_fits : List Rec → List Rec → Rec → Bool
member_fits ds gs m = group_exists gs (member_group m) & unit_exists ds (member_device m) (member_unit m)

-- "each admitted or D'0000" (document 02, request 1)
unfoldable pub session_fits : List Rec → Rec → Bool
session_fits ds r = device_exists ds (session_device r)

-- a used record of a table, by the table's rule
unfoldable pub fits : Kind → List Rec → List Rec → Rec → Bool
fits Devices ds gs r = device_fits r
fits Binds ds gs r = bind_fits ds gs r
fits Groups ds gs r = group_fits r
fits Members ds gs r = member_fits ds gs r
fits Sessions ds gs r = session_fits ds r

-- no used record begins with the first n octets of an earlier one
unfoldable pub distinct : ℕ → List Rec → Bool
distinct n [] = true
distinct n (r ∷ t) = (is_free r || not (any (matches 0 (take n r)) (used t))) && distinct n t

-- one table by itself: at most n records of k octets, each free or passing, no two used ones with the same first octets
abbrev pub sound_by : ℕ → ℕ → ℕ → (Rec → Bool) → List ℕ → Bool
sound_by k n first passes t = whole_records k n t & all passes (used (records k t)) & distinct first (records k t)

-- a table of the frame, whose rule may ask what exists
unfoldable pub sound_table : Kind → List Rec → List Rec → List ℕ → Bool
sound_table k ds gs t = sound_by (size k) (most k) (key k) (fits k ds gs) t

unfoldable pub sound : Lent → Bool
sound L = every_table (λ k. sound_table k (tables L Devices) (tables L Groups) (lent_of k L))
