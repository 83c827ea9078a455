-- What was written is read back: the octets of a header and its payload give the fields and the payload again (document 01, The message).
use Rattle.std.specs.Prelude.{Ok}
use Rattle.words.specs.Basics.{◌≡◌, refl, ap, ◌∙◌, true, List, ◌++◌, ℕ, ◌+◌, ◌-◌, ◌*◌, ◌/◌, ◌%◌, ◌<◌, ◌≤◌, arith, length, length-append, drop_at, eq-eqb}
use Rattle.words.specs.Basics.{le-leb}
use Rattle.rules.specs.Types.{Fields, Done}
use Rattle.rules.specs.Octets.{word, octets, flag, number, joined}
use Rattle.words.specs.Names.{header_length, payload_place, longest, command_type, last_type}
use Rattle.rules.specs.Message.{data_length_of, message_type_of, payload, fields, length_fits, data_length_fits, type_fits, reads, reading_of, reading}
use Rattle.rules.specs.Message.{header, answering, reply}
use Rattle.rules.proofs.Lists.{join, ask_pass}

-- the fields that a message with this payload can have
pub record Sendable (f : Fields) (p : List ℕ) : Type 0 where
  pub source : f.source.0 < 32768
  pub address_type_of : f.address_type < 2
  pub destination : f.destination < 32768
  pub least : command_type ≤ f.message_type
  pub most : f.message_type ≤ last_type
  pub interface_type_of : f.interface_type < 2
  pub uid : f.uid < 32768
  pub its_length : f.data_length ≡ length p
  pub room : header_length + length p ≤ longest
  pub place : f.payload ≡ payload_place

-- a word is read from its octets again, whole or as flag and number
number_again : (n : ℕ) → n < 32768 → (n / 256 * 256 + n % 256) % 32768 ≡ n
number_again n h = omega arith

nine_again : (n : ℕ) → n < 512 → (n / 256 * 256 + n % 256) % 512 ≡ n
nine_again n h = omega arith

module _ (f n : ℕ) (h : f < 2) (l : n < 32768) where
  flag_part : ((f * 32768 + n) / 256 * 256 + (f * 32768 + n) % 256) / 32768 % 2 ≡ f
  flag_part = omega arith

  number_part : ((f * 32768 + n) / 256 * 256 + (f * 32768 + n) % 256) % 32768 ≡ n
  number_part = omega arith

pub header_length_lem : (f : Fields) → length (header f) ≡ header_length
unfolding octets header
header_length_lem f = refl

module _ (f : Fields) (p : List ℕ) where
  pub payload_again : payload (header f ++ p) ≡ p
  unfolding payload
  payload_again = drop_at (header f) p header_length (header_length_lem f)

  whole_length : length (header f ++ p) ≡ header_length + length p
  whole_length = length-append (header f) p ∙ rw header_length_lem

module _ (f : Fields) (p : List ℕ) (s : Sendable f p) where
  pub fields_again : fields (header f ++ p) ≡ f
  unfolding word octets flag number joined message_type_of data_length_of fields header
  fields_again =
      let small : f.data_length < 512 = omega arith in
      let to = f.address_type in
      let role = f.interface_type in
      rw (
        number_again f.source.0 s.source,
        flag_part to f.destination s.address_type_of s.destination,
        number_part to f.destination s.address_type_of s.destination,
        flag_part role f.uid s.interface_type_of s.uid,
        number_part role f.uid s.interface_type_of s.uid,
        nine_again f.data_length small,
        ← s.place,
      )

  length-right : length_fits (header f ++ p) ≡ true
  unfolding length_fits
  length-right =
      let n = whole_length f p in
      join (le-leb header_length (length (header f ++ p)) (omega arith)) (le-leb (length (header f ++ p)) longest (omega arith))

  data_length-right : data_length_fits (header f ++ p) ≡ true
  unfolding data_length_fits fields
  data_length-right =
      let n = whole_length f p in
      let d : data_length_of (header f ++ p) ≡ f.data_length = ap (λ (g : Fields). g.data_length) fields_again in
      eq-eqb (data_length_of (header f ++ p)) (length (header f ++ p) - header_length) (omega arith)

  type-right : type_fits (header f ++ p) ≡ true
  unfolding octets message_type_of type_fits header
  type-right = join (le-leb command_type f.message_type s.least) (le-leb f.message_type last_type s.most)

  pub read_again : reading (header f ++ p) ≡ reading_of (Ok (Done 0)) f
  unfolding reading reads
  read_again = rw (ask_pass _ _ length-right, ask_pass _ _ data_length-right, ask_pass _ _ type-right, fields_again)

-- the reply to any message, with any payload that fits
module _ (m p : List ℕ) where
  reply_sendable : header_length + length p ≤ longest → Sendable (answering (fields m) (length p)) p
  unfolding flag number fields answering
  reply_sendable h =
      record {
        source = omega arith;
        address_type_of = omega arith;
        destination = omega arith;
        least = omega arith;
        most = omega arith;
        interface_type_of = omega arith;
        uid = omega arith;
        its_length = refl;
        room = h;
        place = refl;
      }

  pub reply-read : header_length + length p ≤ longest → reading (reply (fields m) p) ≡ reading_of (Ok (Done 0)) (answering (fields m) (length p))
  unfolding reply
  reply-read h = read_again (answering (fields m) (length p)) p (reply_sendable h)

-- .. is as long as its parts, and its payload is the one written
module _ (f : Fields) (p : List ℕ) where
  pub reply-length : length (reply f p) ≡ header_length + length p
  unfolding reply
  reply-length = whole_length (answering f (length p)) p

  pub reply_payload_lem : payload (reply f p) ≡ p
  unfolding reply
  reply_payload_lem = payload_again (answering f (length p)) p
