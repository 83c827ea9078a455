-- The lines of recipients: what the next turn of the loop writes, that nothing is left, and how long the whole is; the first line, and where it is alone.
use Rattle.std.specs.Prelude.{Err}
use lib.ListN.{get_or-append}
use Rattle.std.proofs.lemmas.List.{drop-take, get_or-take}
use Rattle.words.specs.Basics.{◌≡◌, refl, List, [], ◌++◌, ℕ, zero, suc, ◌+◌, ◌*◌, ◌/◌, ◌<◌, ◌≤◌, arith, length, take, drop}
use Rattle.words.specs.Basics.{get_or, append-nil, ne_eqb, length-append, length-take-le, drop_at}
use Rattle.words.specs.Outcomes.{number_of}
use Rattle.rules.specs.Types.{Refusal}
use Rattle.report.specs.Text.{recipient_line, recipient_lines, first_line, value_if, count_of, answer_text}
use Rattle.writing.specs.declared.Text.{Text}
use Rattle.writing.specs.Writing.{Wrote}
use Rattle.writing.proofs.Decimal.{at_most-three}

-- the lines of whole recipients
abbrev pub lines : List ℕ → List ℕ
lines l = recipient_lines (length l / 3) l

pub next_recipient : (r l : List ℕ) {t : List ℕ} → t ≡ r ++ l → length r ≡ 3
    → lines t ≡ recipient_line (get_or r 0 0) (get_or r 1 0) (get_or r 2 0) ++ lines l
unfolding recipient_lines
next_recipient r l e h =
    let n : length (r ++ l) / 3 ≡ suc (length l / 3) = omega (arith, length-append r l) in
    rw (e, n, drop_at r l 3 h, get_or-append r l 0 0 (omega arith), get_or-append r l 0 1 (omega arith), get_or-append r l 0 2 (omega arith))

pub no_recipient : (l : List ℕ) → length l < 3 → lines l ≡ []
unfolding recipient_lines
no_recipient l h =
    let e : length l / 3 ≡ 0 = omega arith in
    rw e

-- those of the first n are all that the octets of n recipients give

recipient_lines-take : (n : ℕ) (l : List ℕ) → recipient_lines n (take (3 * n) l) ≡ recipient_lines n l
unfolding recipient_lines
recipient_lines-take zero l = refl
recipient_lines-take (suc n) l =
    let m : 3 * suc n ≡ 3 + 3 * n = omega arith in
    rw (
      m,
      drop-take 3 (3 * n) l,
      recipient_lines-take n (drop 3 l),
      get_or-take (3 + 3 * n) l 0 0 (omega arith),
      get_or-take (3 + 3 * n) l 1 0 (omega arith),
      get_or-take (3 + 3 * n) l 2 0 (omega arith),
    )

pub lines_first : (n : ℕ) (l : List ℕ) → 3 * n ≤ length l → lines (take (3 * n) l) ≡ recipient_lines n l
lines_first n l h =
    let e : length (take (3 * n) l) / 3 ≡ n = omega (arith, length-take-le (3 * n) l h) in
    rw e (recipient_lines-take n l)

pub lines-length : (n : ℕ) (l : List ℕ) → length (recipient_lines n l) ≡ 8 * n
unfolding recipient_lines
lines-length zero l = refl
lines-length (suc n) l = let e = lines-length n (drop 3 l) in omega arith

-- the first line holds two numbers

first_line-length : (n c : ℕ) → n < 1000 → c < 1000 → length (first_line n c) ≤ 22
unfolding first_line
first_line-length n c h k =
    let a = at_most-three n h in
    let b = at_most-three c k in
    simp length-append (omega arith)

pub first_line-end : {n c : ℕ} {t u : Text} → Wrote (first_line n c) t u → n < 1000 → c < 1000 → u.at ≤ t.at + 22
first_line-end {n} {c} w h k = omega (arith, w.place, first_line-length n c h k)

-- a refusal's text is its first line alone

refused_number : (why : Refusal) → 10 ≤ number_of (Err why)
refused_number why = grind arith

pub refused_text : (why : Refusal) (r l : List ℕ) → answer_text (Err why) r l ≡ first_line (number_of (Err why)) (count_of (Err why))
unfolding answer_text value_if recipient_lines
refused_text why r l =
    let n = number_of (Err why) in
    let h = refused_number why in
    rw (ne_eqb n 0 (λ e. absurd (omega arith)), ne_eqb n 1 (λ e. absurd (omega arith)), append-nil)
