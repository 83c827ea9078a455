-- The text that the program `links` prints (document 01, Rows to try), as ASCII octets.
use Rattle.std.specs.Prelude.{cond, List, [], ◌++◌, ℕ, zero, suc, ◌*◌, ◌≤◌, eqb, length, take, drop}
use mathlib.Core.List.{flat_map}
use Rattle.rules.specs.Types.{Outcome}
use Rattle.rules.specs.Octets.{octet}
use Rattle.words.specs.Outcomes.{number_of, value_of}
use Rattle.writing.specs.Writing.{ascii, line, hex_octet, field}

-- "device and unit in upper-case hex: four digits, a colon, two digits", from a recipient's three octets
abbrev pub recipient_line : ℕ → ℕ → ℕ → List ℕ
recipient_line high low unit = line (hex_octet high ++ hex_octet low ++ ascii ":" ++ hex_octet unit)

-- the first n recipients of a list, "one a line"
unfoldable pub recipient_lines : ℕ → List ℕ → List ℕ
recipient_lines zero l = []
recipient_lines (suc n) l = recipient_line (octet 0 l) (octet 1 l) (octet 2 l) ++ recipient_lines n (drop 3 l)

-- "one line gives the reply in upper-case hex, two digits an octet, no spaces"
unfoldable pub hex_line : List ℕ → List ℕ
hex_line s = line (flat_map hex_octet s)

-- "the outcome, the recipient count"
unfoldable pub first_line : ℕ → ℕ → List ℕ
first_line n c = line (field (ascii "outcome ") n ++ field (ascii " count ") c)

-- what goes with the outcome of this number: its count or length; 0 where the outcome is another
unfoldable pub value_if : ℕ → Outcome → ℕ
value_if n o = cond (eqb (number_of o) n) (value_of o) 0

-- the recipient count, of outcome 1 alone, and the reply's length, of outcome 0 alone
abbrev pub count_of : Outcome → ℕ
count_of o = value_if 1 o

abbrev pub length_of : Outcome → ℕ
length_of o = value_if 0 o

-- the whole text for an outcome, the reply and the recipient list: "Any outcome but 0 and 1 prints its first line alone, with count 0"
unfoldable pub answer_text : Outcome → List ℕ → List ℕ → List ℕ
answer_text o reply list =
    first_line (number_of o) (count_of o)
    ++ cond (eqb (number_of o) 0) (hex_line (take (length_of o) reply)) (recipient_lines (count_of o) list)

-- "prints `short input` alone" (document 01, Rows to try): for which input, `links_text` says
abbrev pub short_text : List ℕ
short_text = line (ascii "short input")

-- the lengths that an answer's text asks for: the reply and the list hold what the outcome says, a reply has 500 octets at most, a list 192 recipients
pub record Room (o : Outcome) (r l t : List ℕ) : Type 0 where
  pub reply : length_of o ≤ length r
  pub longest : length_of o ≤ 500
  pub list : 3 * count_of o ≤ length l
  pub most : count_of o ≤ 192
  pub text : 2048 ≤ length t
