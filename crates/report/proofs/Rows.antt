-- Texts as document 01 gives them, "Rows to try": first the sample of `links`, whole.
use Rattle.std.specs.Prelude.{Ok, Err}
use Rattle.words.specs.Basics.{◌≡◌, refl, List, [], ◌∷◌, flat_map, ℕ}
use Rattle.rules.specs.Types.{Outcome, Done, Forwarded, Nobody, NotAdmitted}
use Rattle.writing.specs.Writing.{ascii, digit, decimal}
use Rattle.report.specs.Text.{first_line, hex_line, recipient_lines, value_if, answer_text}

pub record Row : Type 0 where
  pub outcome : Outcome
  pub reply : List ℕ
  pub list : List ℕ
  pub text : List ℕ

abbrev row : Outcome → List ℕ → List ℕ → List ℕ → Row
row o r l t = record { outcome = o; reply = r; list = l; text = t }

abbrev pub rows : List Row
rows =
    row (Ok (Forwarded 2)) [] (0x00 ∷ 0x04 ∷ 0x02 ∷ 0x00 ∷ 0x05 ∷ 0x01 ∷ []) (ascii "outcome 1 count 2\n0004:02\n0005:01\n")
    -- octets past the count, and past the reply's length, are not printed
    ∷ row (Ok (Forwarded 1)) (0x01 ∷ []) (0x7F ∷ 0xFE ∷ 0xAB ∷ 0x00 ∷ 0x00 ∷ 0x00 ∷ []) (ascii "outcome 1 count 1\n7FFE:AB\n")
    ∷ row (Ok (Done 3)) (0x00 ∷ 0xC0 ∷ 0x9F ∷ 0x55 ∷ []) (0x00 ∷ 0x04 ∷ 0x02 ∷ []) (ascii "outcome 0 count 0\n00C09F\n")
    ∷ row (Ok Nobody) (0x01 ∷ []) (0x00 ∷ 0x04 ∷ 0x02 ∷ []) (ascii "outcome 2 count 0\n")
    ∷ row (Err NotAdmitted) [] [] (ascii "outcome 23 count 0\n")
    ∷ []

-- every row of a table comes out as it says
abbrev pub AsTold : List Row → Type 0
AsTold [] = Unit {0}
AsTold (x ∷ xs) = (answer_text x.outcome x.reply x.list ≡ x.text) × AsTold xs

pub as_told : AsTold rows
unfolding flat_map digit decimal first_line hex_line recipient_lines value_if answer_text
as_told = (refl, (refl, (refl, (refl, (refl, tt)))))

-- counts of one, two and three digits
pub counts : flat_map decimal (0 ∷ 9 ∷ 10 ∷ 99 ∷ 100 ∷ 192 ∷ []) ≡ ascii "091099100192"
unfolding flat_map digit decimal
counts = refl
