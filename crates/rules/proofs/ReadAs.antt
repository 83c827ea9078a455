-- What was read is known from the reading that it is, and what a call told from its answer.
use Rattle.std.specs.Prelude.{Option, Result, Ok, Err}
use Rattle.words.specs.Basics.{◌≡◌, refl, sym, ap, ◌∙◌, List, ℕ}
use Rattle.rules.specs.Types.{Fields, Refusal, Reason, Outcome, Told}
use Rattle.rules.specs.Frame.{Lent}
use Rattle.rules.specs.Message.{Reading, read_as}
use Rattle.rules.specs.Calls.{Answer, telling}

abbrev of_reading : Outcome → Fields → Result Fields Refusal
of_reading (Ok x) f = Ok f
of_reading (Err why) f = Err why

-- the fields of a reading, or why there are none
unfoldable pub was_read : Reading → Result Fields Refusal
was_read x = of_reading x.outcome x.fields

pub was_read_lem : (x : Result Fields Refusal) → was_read (read_as x) ≡ x
unfolding was_read
was_read_lem (Ok f) = refl
was_read_lem (Err why) = refl

pub read_as-once : (x y : Result Fields Refusal) → read_as x ≡ read_as y → x ≡ y
read_as-once x y e = sym (was_read_lem x) ∙ ap was_read e ∙ was_read_lem y

abbrev of_answer : Outcome → Option Reason → Result Told Refusal
of_answer (Ok a) f = Ok (record { accepted = a; reason = f })
of_answer (Err why) f = Err why

-- what a call told whose answer this is
unfoldable pub was_told : Answer → Result Told Refusal
was_told a = of_answer a.outcome a.reason

pub was_told_lem : (x : Result Told Refusal) (L : Lent) (r l : List ℕ) → was_told (telling x L r l) ≡ x
unfolding was_told
was_told_lem (Ok t) L r l = refl
was_told_lem (Err why) L r l = refl

pub telling-once : (x y : Result Told Refusal) (L M : Lent) (r s l k : List ℕ) → telling x L r l ≡ telling y M s k → x ≡ y
telling-once x y L M r s l k e = sym (was_told_lem x L r l) ∙ ap was_told e ∙ was_told_lem y M s k

-- .. and what it left

pub telling-reply : (x : Result Told Refusal) (L : Lent) (r l : List ℕ) → (telling x L r l).reply ≡ r
telling-reply (Ok t) L r l = refl
telling-reply (Err why) L r l = refl

pub telling-list : (x : Result Told Refusal) (L : Lent) (r l : List ℕ) → (telling x L r l).list ≡ l
telling-list (Ok t) L r l = refl
telling-list (Err why) L r l = refl
