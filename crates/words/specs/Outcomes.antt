-- The outcomes (document 01, Outcomes): the paper's number of each, and the count or length that goes with it.
use Rattle.std.specs.Prelude.{ℕ, ⊤, Result, Ok, Err}
use Rattle.words.specs.declared.Accepted.{Accepted}
use Rattle.words.specs.declared.Accepted.TheVariants.{Done, Forwarded, Nobody}
use Rattle.words.specs.declared.Refusal.{Refusal}
use Rattle.words.specs.declared.Refusal.TheVariants.{WrongLength, WrongDataLength, WrongType, NoSource, NoDestination, ResponseToMany, Unsound, NoRoom}
use Rattle.words.specs.declared.Refusal.TheVariants.{NotServed, NoCopy, OutOfRange, AlreadyAdmitted, NoFreeRecord, NotAdmitted}

-- what a public call answers: what it comes to, or why it is refused
abbrev pub Outcome : Type 0
Outcome = Result Accepted Refusal

abbrev pub number_of : Outcome → ℕ
number_of (Ok (Done n)) = 0
number_of (Ok (Forwarded n)) = 1
number_of (Ok Nobody) = 2
number_of (Err WrongLength) = 10
number_of (Err WrongDataLength) = 11
number_of (Err WrongType) = 12
number_of (Err NoSource) = 13
number_of (Err NoDestination) = 14
number_of (Err ResponseToMany) = 15
number_of (Err Unsound) = 16
number_of (Err NoRoom) = 17
number_of (Err NotServed) = 18
number_of (Err NoCopy) = 19
number_of (Err OutOfRange) = 20
number_of (Err AlreadyAdmitted) = 21
number_of (Err NoFreeRecord) = 22
number_of (Err NotAdmitted) = 23

-- "A returned count or length is 0 unless stated."
abbrev pub value_of : Outcome → ℕ
value_of (Ok (Done n)) = n
value_of (Ok (Forwarded n)) = n
value_of (Ok Nobody) = 0
value_of (Err why) = 0

-- what a call answers that tells no length
abbrev pub without_length : Result ⊤ Refusal → Outcome
without_length (Ok x) = Ok (Done 0)
without_length (Err why) = Err why

-- .. and one that tells its length
abbrev pub with_length : Result ℕ Refusal → Outcome
with_length (Ok n) = Ok (Done n)
with_length (Err why) = Err why
