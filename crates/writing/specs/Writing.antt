-- Text as ASCII octets: digits, and pieces written into a lent buffer.
use Prim.Native.Char.{code}
use Prim.Native.String.{String, [] as empty, ◌∷◌ as ◌then◌}
use Rattle.std.specs.Prelude.{◌≡◌, cond, List, [], ◌∷◌, ◌++◌, ℕ, zero, suc, ◌+◌, ◌-◌, ◌/◌, ◌%◌, ◌≤◌, ltb, length}
use Rattle.std.proofs.lemmas.List.Edits.{sets}
use Rattle.rules.specs.Octets.{over}
use Rattle.writing.specs.declared.Text.{Text}

-- a text's octets
abbrev pub ascii : String → List ℕ
ascii empty = []
ascii (c then s) = code c ∷ ascii s

abbrev pub line : List ℕ → List ℕ
line s = s ++ ascii "\n"

-- a digit: 0 to 9, then A to F
unfoldable pub digit : ℕ → ℕ
digit d = cond (ltb d 10) (code "0" + d) (code "A" + (d - 10))

-- "two digits an octet"
abbrev pub hex_octet : ℕ → List ℕ
hex_octet o = digit (o / 16) ∷ digit (o % 16) ∷ []

-- a number's last k decimal digits, without leading zeros
abbrev pub digits : ℕ → ℕ → List ℕ
digits zero n = []
digits (suc k) n = cond (ltb n 10) (digit n ∷ []) (digits k (n / 10) ++ digit (n % 10) ∷ [])

-- a number in decimal: 64 bits have 20 digits at most
unfoldable pub decimal : ℕ → List ℕ
decimal n = digits 20 n

-- a word and a number
abbrev pub field : List ℕ → ℕ → List ℕ
field word n = word ++ decimal n

-- a piece that fits was written behind the text, in the same buffer
pub record Wrote (piece : List ℕ) (t u : Text) : Type 0 where
  pub buffer : u.octets.ghost_name ≡ t.octets.ghost_name
  pub fits : t.at + length piece ≤ length t.octets.now
  pub place : u.at ≡ t.at + length piece
  pub text : u.octets.now ≡ sets t.octets.now t.at piece

-- n octets more have room
abbrev pub HasRoom : ℕ → Text → Type 0
HasRoom n t = t.at + n ≤ length t.octets.now

-- a whole text stands over what the buffer held, and n is its length
abbrev pub Printed : List ℕ → List ℕ → ℕ → List ℕ → Type 0
Printed whole old n new = (n ≡ length whole) × (new ≡ over whole old)
