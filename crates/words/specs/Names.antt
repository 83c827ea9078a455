-- The response codes and the special addresses, named once with their type (document 01, Tables), and the numbers of interfaces and commands.
use Rattle.std.specs.Prelude.{List, [], ◌∷◌, ℕ}
use Rattle.words.specs.declared.Code.{Code}
use Rattle.words.specs.declared.Fields.{Fields}
use Rattle.words.specs.declared.DeviceAddress.{DeviceAddress}
use Rattle.words.specs.declared.GroupAddress.{GroupAddress}

-- document 003, Table 25

abbrev pub code : ℕ → Code
code n = record { 0 = n }

abbrev pub ok : Code
ok = code 0x00

abbrev pub not_authorized : Code
not_authorized = code 0x01

abbrev pub invalid_argument : Code
invalid_argument = code 0x02

-- "Read session not established"
abbrev pub no_read_session : Code
no_read_session = code 0x20

abbrev pub not_enough_resources : Code
not_enough_resources = code 0xFE

abbrev pub unknown_reason : Code
unknown_reason = code 0xFF

-- addresses

abbrev pub device : ℕ → DeviceAddress
device n = record { 0 = n }

abbrev pub group : ℕ → GroupAddress
group n = record { 0 = n }

-- D'0000
abbrev pub concentrator : DeviceAddress
concentrator = device 0x0000

-- D'7FFF, with unit 0xFF the bind address
abbrev pub bind_address : DeviceAddress
bind_address = device 0x7FFF

-- "0x0001 to 0x7FFE"
abbrev pub lowest : ℕ
lowest = 0x0001

abbrev pub highest : ℕ
highest = 0x7FFE

-- the highest that a unit may have, and the one that is no unit's: the bind address's

abbrev pub highest_unit : ℕ
highest_unit = 254

abbrev pub not_a_unit : ℕ
not_a_unit = 0xFF

-- what a bind says for any: as its source device, its source unit, its UID (document 000, 6.2.1)

abbrev pub any_device : DeviceAddress
any_device = device 0x7FFF

abbrev pub any_unit : ℕ
any_unit = 0xFF

abbrev pub any_interface : ℕ
any_interface = 0x7FFF

-- the message (document 003, 7): octets before the payload, where the payload begins as the paper counts, and the most that there are

abbrev pub header_length : ℕ
header_length = 15

abbrev pub payload_place : ℕ
payload_place = 16

abbrev pub longest : ℕ
longest = 500

-- a flag that is set: a group's address, a server interface
abbrev pub flag_set : ℕ
flag_set = 1

-- message types: command, command that asks a response, the response to either; the last of all

abbrev pub command_type : ℕ
command_type = 0x01

abbrev pub asking_type : ℕ
asking_type = 0x02

abbrev pub response_type : ℕ
response_type = 0x03

abbrev pub last_type : ℕ
last_type = 0x10

-- "Response types are 0x03, 0x05, 0x08, 0x0A, 0x0D, 0x10; the other ten are requests."
abbrev pub response_types : List ℕ
response_types = 0x03 ∷ 0x05 ∷ 0x08 ∷ 0x0A ∷ 0x0D ∷ 0x10 ∷ []

-- interface UIDs (document 000, Table 1)

abbrev pub bind_management : ℕ
bind_management = 0x0002

abbrev pub group_management : ℕ
group_management = 0x0003

-- members of Bind Management (document 000, 6.2.5.1 to 6.2.5.6, Table 26), numbered as their sections follow each other: docs/DECISIONS.md, 1

abbrev pub add_bind : ℕ
add_bind = 0x01

abbrev pub remove_bind : ℕ
remove_bind = 0x02

abbrev pub remove_by_source : ℕ
remove_by_source = 0x03

abbrev pub remove_by_source_unit : ℕ
remove_by_source_unit = 0x04

abbrev pub remove_by_destination : ℕ
remove_by_destination = 0x05

abbrev pub remove_by_destination_unit : ℕ
remove_by_destination_unit = 0x06

-- .. and those of Table 27 (6.2.5.7 to 6.2.5.13)

abbrev pub start_session : ℕ
start_session = 0x07

abbrev pub end_session : ℕ
end_session = 0x08

abbrev pub get_by_index : ℕ
get_by_index = 0x09

abbrev pub get_by_source : ℕ
get_by_source = 0x0A

abbrev pub get_by_source_unit : ℕ
get_by_source_unit = 0x0B

abbrev pub get_by_destination : ℕ
get_by_destination = 0x0C

abbrev pub get_by_destination_unit : ℕ
get_by_destination_unit = 0x0D

-- members of Group Management (document 000, 6.3.5.1 to 6.3.5.5), numbered likewise

abbrev pub create_group : ℕ
create_group = 0x01

abbrev pub delete_group : ℕ
delete_group = 0x02

abbrev pub add_to_group : ℕ
add_to_group = 0x03

abbrev pub remove_from_group : ℕ
remove_from_group = 0x04

abbrev pub get_group_info : ℕ
get_group_info = 0x05

-- what reading a refused message gives: every field 0

abbrev pub no_fields : Fields
no_fields =
    record {
      source = concentrator;
      source_unit = 0;
      address_type = 0;
      destination = 0;
      destination_unit = 0;
      app_ref = 0;
      message_type = 0;
      interface_type = 0;
      uid = 0;
      member = 0;
      data_length = 0;
      payload = 0;
    }
