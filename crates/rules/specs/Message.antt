-- The message (document 01, The message; document 003, 7): its fields, when it is refused, and the header of a reply.
use Rattle.std.specs.Prelude.{Bool, cond, List, ◌∷◌, ◌++◌, ℕ, ◌-◌, ◌%◌, eqb, leb, length, drop, Result, Ok, Err}
use Rattle.words.specs.Names.{no_fields, device, group, concentrator, bind_address, not_a_unit, header_length, payload_place, longest, flag_set}
use Rattle.words.specs.Names.{command_type, response_type, last_type, response_types}
use Rattle.words.specs.declared.Destination.{Destination}
use Rattle.rules.specs.Types.{Fields, Concentrator, BindAddress, Unit, Group, Outcome, Done, WrongLength, WrongDataLength, WrongType, Refusal}
use Rattle.rules.specs.Lists.{any, ask, ◌&◌}
use Rattle.rules.specs.Octets.{octet, word, octets, flag, number, joined}
use Rattle.rules.specs.Units.{unit_number}

-- Fields

-- octets 14-15: 9 bits, the other 7 are ignored
unfoldable pub data_length_of : List ℕ → ℕ
data_length_of m = word 13 m % 512

-- octet 10
unfoldable pub message_type_of : List ℕ → ℕ
message_type_of m = octet 9 m

-- octets 1-15, in their order; the reserved bit of octet 1 and octets 7 and 8, transport, are ignored
unfoldable pub fields : List ℕ → Fields
fields m =
    record {
      source = device (number (word 0 m));
      source_unit = octet 2 m;
      address_type = flag (word 3 m);
      destination = number (word 3 m);
      destination_unit = octet 5 m;
      app_ref = octet 8 m;
      message_type = message_type_of m;
      interface_type = flag (word 10 m);
      uid = number (word 10 m);
      member = octet 12 m;
      data_length = data_length_of m;
      payload = payload_place;
    }

-- octets 16 ..
unfoldable pub payload : List ℕ → List ℕ
payload m = drop header_length m

-- the sender as one number
unfoldable pub sender : Fields → ℕ
sender f = unit_number f.source f.source_unit

-- the four kinds of destination
unfoldable pub destination : Fields → Destination
destination f =
    cond (eqb f.address_type flag_set) (Group (group f.destination))
    (cond (eqb f.destination concentrator.0 & eqb f.destination_unit 0) Concentrator
    (cond (eqb f.destination bind_address.0 & eqb f.destination_unit not_a_unit) BindAddress
    (Unit (device f.destination) f.destination_unit)))

unfoldable pub response : Fields → Bool
response f = any (eqb f.message_type) response_types

-- Reading

-- outcome 10
unfoldable pub length_fits : List ℕ → Bool
length_fits m = leb header_length (length m) & leb (length m) longest

-- outcome 11
unfoldable pub data_length_fits : List ℕ → Bool
data_length_fits m = eqb (data_length_of m) (length m - header_length)

-- outcome 12
unfoldable pub type_fits : List ℕ → Bool
type_fits m = leb command_type (message_type_of m) & leb (message_type_of m) last_type

-- "10, 11, 12", then the rest: reading alone, copying and a message all ask this
unfoldable pub reads : {A : Type 0} → List ℕ → (Refusal → A) → A → A
reads m refuse rest =
    ask (length_fits m) (refuse WrongLength)
    (ask (data_length_fits m) (refuse WrongDataLength)
    (ask (type_fits m) (refuse WrongType)
    rest))

-- "Reading alone: 10, 11, 12 with every field 0, else 0 with the fields and where the payload begins"
pub record Reading : Type 0 where
  pub outcome : Outcome
  pub fields : Fields

abbrev pub reading_of : Outcome → Fields → Reading
reading_of o f = record { outcome = o; fields = f }

-- the fields, or why there are none
abbrev pub read_as : Result Fields Refusal → Reading
read_as (Ok f) = reading_of (Ok (Done 0)) f
read_as (Err why) = reading_of (Err why) no_fields

unfoldable pub reading : List ℕ → Reading
reading m = reads m (λ why. reading_of (Err why) no_fields) (reading_of (Ok (Done 0)) (fields m))

-- The header of fifteen octets that these fields make: reserved bits and transport 0

unfoldable pub header : Fields → List ℕ
header f =
    octets f.source.0 ++ f.source_unit ∷ octets (joined f.address_type f.destination) ++ f.destination_unit ∷ 0 ∷ 0
    ∷ f.app_ref ∷ f.message_type ∷ octets (joined f.interface_type f.uid) ++ f.member ∷ octets f.data_length

-- "A reply comes from D'0:U'0 to the sender: type 0x03, .. App Ref, interface type, UID and member as in the request"
unfoldable pub answering : Fields → ℕ → Fields
answering f n =
    record {
      source = concentrator;
      source_unit = 0;
      address_type = 0;
      destination = f.source.0;
      destination_unit = f.source_unit;
      app_ref = f.app_ref;
      message_type = response_type;
      interface_type = f.interface_type;
      uid = f.uid;
      member = f.member;
      data_length = n;
      payload = payload_place;
    }

-- the whole reply to a request of these fields with this payload
unfoldable pub reply : Fields → List ℕ → List ℕ
reply f p = header (answering f (length p)) ++ p
