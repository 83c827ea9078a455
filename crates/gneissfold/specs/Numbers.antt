-- What the exported calls answer: the answers of `rules`, with the outcome as the paper's number (document 01, Outcomes) and the count or length that
-- goes with it, and a reason as its number and its octet (document 02, request 6).
use Rattle.std.specs.Prelude.{Bool, List, [], ◌∷◌, ℕ, eqb}
use Rattle.words.specs.Names.{invalid_argument, header_length}
use Rattle.words.specs.Outcomes.{number_of, value_of}
use Rattle.words.specs.Reasons.{reason_number, reason_octet}
use Rattle.rules.specs.Types.{Fields}
use Rattle.rules.specs.Lists.{◌&◌}
use Rattle.rules.specs.Octets.{octet}
use Rattle.rules.specs.Frame.{Lent}
use Rattle.rules.specs.Calls.{Answer}
use Rattle.rules.specs.Message.{Reading}
use Rattle.rules.specs.Copy.{CopyAnswer}
use Rattle.rules.specs.Host.{HostAnswer}
use Rattle.rules.specs.Carry.{CarryAnswer}

-- of a message: outcome number, reply length or recipient count, reason and its octet, and every octet lent
pub record MessageTold : Type 0 where
  pub number : ℕ
  pub count : ℕ
  pub reason : ℕ
  pub octet : ℕ
  pub tables : Lent
  pub reply : List ℕ
  pub list : List ℕ

abbrev pub message_told : ℕ → ℕ → ℕ → ℕ → Lent → List ℕ → List ℕ → MessageTold
message_told n c f o L r l = record { number = n; count = c; reason = f; octet = o; tables = L; reply = r; list = l }

abbrev pub of_message : Answer → MessageTold
of_message a =
    message_told (number_of a.outcome) (value_of a.outcome) (reason_number a.reason) (reason_octet a.reason) a.tables a.reply a.list

-- was a command answered 0x02: outcome 0, and that code in octet 16 of the reply?
unfoldable pub refused : MessageTold → Bool
refused t = eqb t.number 0 & eqb (octet header_length t.reply) invalid_argument.0

-- of admit and release: "they .. return 0", so the number says all
pub record HostTold : Type 0 where
  pub number : ℕ
  pub tables : Lent

abbrev pub host_told : ℕ → Lent → HostTold
host_told n L = record { number = n; tables = L }

abbrev pub of_host : HostAnswer → HostTold
of_host a = host_told (number_of a.outcome) a.tables

-- of carrying over: the new table
pub record CarryTold : Type 0 where
  pub number : ℕ
  pub new : List ℕ

abbrev pub carry_told : ℕ → List ℕ → CarryTold
carry_told n new = record { number = n; new = new }

abbrev pub of_carry : CarryAnswer → CarryTold
of_carry a = carry_told (number_of a.outcome) a.new

-- of a copy
pub record CopyTold : Type 0 where
  pub number : ℕ
  pub length : ℕ
  pub room : List ℕ

abbrev pub copy_told : ℕ → ℕ → List ℕ → CopyTold
copy_told n k room = record { number = n; length = k; room = room }

abbrev pub of_copy : CopyAnswer → CopyTold
of_copy a = copy_told (number_of a.outcome) (value_of a.outcome) a.room

-- of reading alone: the twelve fields in the message's order, the last the octet where the payload begins
pub record ReadTold : Type 0 where
  pub number : ℕ
  pub fields : List ℕ

abbrev pub read_told : ℕ → List ℕ → ReadTold
read_told n fs = record { number = n; fields = fs }

unfoldable pub twelve : Fields → List ℕ
twelve f =
    f.source.0 ∷ f.source_unit ∷ f.address_type ∷ f.destination ∷ f.destination_unit ∷ f.app_ref ∷ f.message_type
    ∷ f.interface_type ∷ f.uid ∷ f.member ∷ f.data_length ∷ f.payload ∷ []

abbrev pub of_reading : Reading → ReadTold
of_reading a = read_told (number_of a.outcome) (twelve a.fields)
