-- Octets, and 16-bit words of two octets, most significant first (document 01, The message). A word's top bit is its flag, the rest its number.
-- Places are counted from 0 in all definitions, and from 1 in the paper: its octet 4 stands at place 3.
use Rattle.std.specs.Prelude.{Bool, true, false, ◌&&◌, List, [], ◌∷◌, ◌++◌, ℕ, ◌+◌, ◌*◌, ◌/◌, ◌%◌, ◌^◌, eqb, leb, length, drop, get_or}
use Rattle.rules.specs.Lists.{all}

-- the octet at place i
abbrev pub octet : ℕ → List ℕ → ℕ
octet i s = get_or s i 0

-- bit k of an octet, the lowest being bit 0
unfoldable pub bit : ℕ → ℕ → ℕ
bit k o = o / 2 ^ k % 2

-- the word at places i and i + 1
unfoldable pub word : ℕ → List ℕ → ℕ
word i s = octet i s * 256 + octet (i + 1) s

-- a word's two octets
unfoldable pub octets : ℕ → List ℕ
octets w = w / 256 ∷ w % 256 ∷ []

unfoldable pub flag : ℕ → ℕ
flag w = w / 32768 % 2

unfoldable pub number : ℕ → ℕ
number w = w % 32768

-- flag and number joined
unfoldable pub joined : ℕ → ℕ → ℕ
joined f n = f * 32768 + n

-- the octets of an address in a payload whose top bit is ignored, and stored as 0 (document 01, Tables)
unfoldable pub ignore_top : List ℕ → List ℕ
ignore_top [] = []
ignore_top (o ∷ s) = o % 128 ∷ s

-- does s begin with want?
abbrev pub starts : List ℕ → List ℕ → Bool
starts [] s = true
starts (x ∷ want) [] = false
starts (x ∷ want) (y ∷ s) = eqb y x && starts want s

-- a written part over what stood there: octets past the written ones stay (document 01, Outcomes)
unfoldable pub over : List ℕ → List ℕ → List ℕ
over new old = new ++ drop (length new) old

-- is each of these an octet?
unfoldable pub octet_string : List ℕ → Bool
octet_string s = all (λ o. leb o 255) s
