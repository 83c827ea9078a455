-- The order of outcomes (document 01, Outcomes): the checks of each call as the paper lists them, and that the first which fails gives the outcome,
-- whatever is wrong behind it. The rows with several faults (`order` of `RowsOfRefusals`, those of `RowsOfCalls`, `not_carried`) are inputs that show it.
use Rattle.std.specs.Prelude.{Option, None, Some, Result, Err}
use Rattle.words.specs.Basics.{◌≡◌, refl, sym, Bool, true, false, not, false≢true, List, [], ◌∷◌, ◌++◌, ℕ, ◌*◌, eqb, length}
use Rattle.words.specs.Names.{no_fields}
use Rattle.words.specs.declared.Destination.{Destination}
use Rattle.rules.specs.Types.{NotServed, Refusal, Command}
use Rattle.rules.specs.Types.{DeviceAddress, Fields, Concentrator, BindAddress, Unit as One, Group, Devices, Groups, Outcome, WrongLength}
use Rattle.rules.specs.Types.{WrongDataLength, WrongType, NoSource, NoDestination, ResponseToMany, Unsound, NoRoom, NoCopy, OutOfRange, AlreadyAdmitted}
use Rattle.rules.specs.Types.{NoFreeRecord, NotAdmitted, Way}
use Rattle.rules.specs.Lists.{ask, ◌&◌}
use Rattle.rules.specs.Tables.{Rec, some_free}
use Rattle.rules.specs.Frame.{Lent, tables}
use Rattle.rules.specs.Message.{fields, destination, response, length_fits, data_length_fits, type_fits, reads, Reading, reading_of, reading}
use Rattle.rules.specs.Exists.{admitted, unit_exists, group_exists}
use Rattle.rules.specs.Sound.{device_in_range, sound}
use Rattle.rules.specs.Payloads.{command}
use Rattle.rules.specs.Copy.{copy_fits, CopyAnswer, copy_answer, copy}
use Rattle.rules.specs.Host.{settled, admission, admit, release}
use Rattle.rules.specs.Carry.{old_sound, times, carry_outcome, carried_over}
use Rattle.rules.specs.Calls.{roomy, to_many, asking, way_to, way_on, way, follow, message}

-- a check: does it pass, and the outcome where it does not
pub record Check : Type 0 where
  pub passes : Bool
  pub outcome : Outcome

abbrev pub check : Bool → Outcome → Check
check b o = record { passes = b; outcome = o }

-- the outcome is that of the first check which fails
abbrev pub FirstOf : List Check → Outcome → Type 0
FirstOf [] o = Unit {0}
FirstOf (c ∷ cs) o = (c.passes ≡ false → o ≡ c.outcome) × (c.passes ≡ true → FirstOf cs o)

-- The checks, in the paper's order

-- "10, 11, 12"
abbrev pub reading_checks : List ℕ → List Check
reading_checks m = check (length_fits m) (Err WrongLength) ∷ check (data_length_fits m) (Err WrongDataLength) ∷ check (type_fits m) (Err WrongType) ∷ []

abbrev pub is_command : Option Command → Bool
is_command (Some k) = true
is_command None = false

-- "then 18 for D'0:U'0 or 14 for the rest"
abbrev pub destination_checks : List Rec → List Rec → Fields → Destination → List Check
destination_checks ds gs f Concentrator = check (is_command (command f)) (Err NotServed) ∷ []
destination_checks ds gs f BindAddress = []
destination_checks ds gs f (One d u) = check (unit_exists ds d u) (Err NoDestination) ∷ []
destination_checks ds gs f (Group g) = check (group_exists gs g) (Err NoDestination) ∷ []

-- "Order for a message: 17, 16, 10, 11, 12, 13, 15, then .."
abbrev pub message_checks : Lent → List ℕ → List ℕ → List ℕ → List Check
message_checks L m r l =
    let f : Fields = fields m in
    check (roomy L.binds L.members r l) (Err NoRoom)
    ∷ check (sound L) (Err Unsound)
    ∷ reading_checks m
    ++ check (unit_exists (tables L Devices) f.source f.source_unit) (Err NoSource)
    ∷ check (not (response f & to_many (destination f))) (Err ResponseToMany)
    ∷ destination_checks (tables L Devices) (tables L Groups) f (destination f)

-- "Admit: 16, 20, 21, 22, else 0."
abbrev pub admit_checks : Lent → DeviceAddress → ℕ → List ℕ → List Check
admit_checks L d rights us =
    check (sound L) (Err Unsound)
    ∷ check (device_in_range d rights us) (Err OutOfRange)
    ∷ check (not (admitted (tables L Devices) d)) (Err AlreadyAdmitted)
    ∷ check (some_free (tables L Devices)) (Err NoFreeRecord)
    ∷ []

-- carrying over: "16 .., then 17" (document 02, request 2)
abbrev pub carry_checks : List ℕ → List ℕ → List Check
carry_checks old new = check (old_sound old) (Err Unsound) ∷ check (eqb (length new) (times * length old)) (Err NoRoom) ∷ []

-- "Release: 16, 23, else 0."
abbrev pub release_checks : Lent → DeviceAddress → List Check
release_checks L d = check (sound L) (Err Unsound) ∷ check (admitted (tables L Devices) d) (Err NotAdmitted) ∷ []

-- "Copy: 10, 11, 12, 19, else 0."
abbrev pub copy_checks : List ℕ → List ℕ → DeviceAddress → ℕ → List Check
copy_checks m room d u = reading_checks m ++ check (copy_fits m room d u) (Err NoCopy) ∷ []

-- The theorems

-- the same of an answer x, as a chain that grows by one check
data First {A : Type 0} (outcome : A → Outcome) : A → List Check → Type 0 where
  last : {x : A} → First outcome x []
  next : {x : A} {c : Check} {cs : List Check} → (c.passes ≡ false → outcome x ≡ c.outcome) → (c.passes ≡ true → First outcome x cs)
      → First outcome x (c ∷ cs)

module _ {A : Type 0} (outcome : A → Outcome) where
  first_of : {x : A} {cs : List Check} → First outcome x cs → FirstOf cs (outcome x)
  first_of last = tt
  first_of (next f g) = (f, λ h. first_of (g h))

  module _ (refuse : Refusal → A) (told : (why : Refusal) → outcome (refuse why) ≡ Err why) where
    one_more : {cs : List Check} {rest : A} (b : Bool) (why : Refusal) → First outcome rest cs
        → First outcome (ask b (refuse why) rest) (check b (Err why) ∷ cs)
    unfolding ask
    one_more true why f = next (λ h. absurd (false≢true (sym h))) (λ h. f)
    one_more false why f = next (λ h. told why) (λ h. absurd (false≢true h))

module _ (L : Lent) (m r l : List ℕ) where
  -- what a way comes to
  abbrev went : Result Way Refusal → Outcome
  went w = (follow w L m r l).outcome

  refused : (why : Refusal) → went (Err why) ≡ Err why
  unfolding follow
  refused why = refl

  before : {cs : List Check} {rest : Result Way Refusal} (b : Bool) (why : Refusal) → First went rest cs
      → First went (ask b (Err why) rest) (check b (Err why) ∷ cs)
  before = one_more went Err refused

  asking-order : (d : Option Command) → First went (asking d) (check (is_command d) (Err NotServed) ∷ [])
  unfolding asking follow
  asking-order (Some k) = next (λ h. absurd (false≢true (sym h))) (λ h. last)
  asking-order None = next (λ h. refl) (λ h. last)

  destination-order : (to : Destination)
      → First went (way_to (tables L Devices) (tables L Groups) to (fields m)) (destination_checks (tables L Devices) (tables L Groups) (fields m) to)
  unfolding way_to
  destination-order Concentrator = asking-order (command (fields m))
  destination-order BindAddress = last
  destination-order (One d u) = before _ NoDestination last
  destination-order (Group g) = before _ NoDestination last

  pub message-order : FirstOf (message_checks L m r l) (message L m r l).outcome
  unfolding message way reads way_on
  message-order =
      first_of went (before _ NoRoom (before _ Unsound (before _ WrongLength (before _ WrongDataLength (before _ WrongType
      (before _ NoSource (before _ ResponseToMany (destination-order (destination (fields m))))))))))

-- of the host's calls, which answer an outcome

hosted : {cs : List Check} {rest : Outcome} (b : Bool) (why : Refusal) → First (λ o. o) rest cs → First (λ o. o) (ask b (Err why) rest) (check b (Err why) ∷ cs)
hosted = one_more (λ o. o) Err (λ why. refl)

pub admit-order : (L : Lent) (d : DeviceAddress) (rights : ℕ) (us : List ℕ) → FirstOf (admit_checks L d rights us) (admit L d rights us).outcome
unfolding admit admission settled
admit-order L d rights us =
    first_of (λ o. o) (hosted _ Unsound (hosted _ OutOfRange (hosted _ AlreadyAdmitted (hosted _ NoFreeRecord last))))

pub carry_order : (old new : List ℕ) → FirstOf (carry_checks old new) (carried_over old new).outcome
unfolding carried_over carry_outcome
carry_order old new = first_of (λ o. o) (hosted _ Unsound (hosted _ NoRoom last))

pub release-order : (L : Lent) (d : DeviceAddress) → FirstOf (release_checks L d) (release L d).outcome
unfolding release settled
release-order L d = first_of (λ o. o) (hosted _ Unsound (hosted _ NotAdmitted last))

-- of reading and copying

pub read-order : (m : List ℕ) → FirstOf (reading_checks m) (reading m).outcome
unfolding reading reads
read-order m = first_of outcome (read _ WrongLength (read _ WrongDataLength (read _ WrongType last)))
  where
    outcome : Reading → Outcome
    outcome x = x.outcome

    read : {cs : List Check} {rest : Reading} (b : Bool) (why : Refusal) → First outcome rest cs
        → First outcome (ask b (reading_of (Err why) no_fields) rest) (check b (Err why) ∷ cs)
    read = one_more outcome (λ why. reading_of (Err why) no_fields) (λ why. refl)

pub copy-order : (m room : List ℕ) (d : DeviceAddress) (u : ℕ) → FirstOf (copy_checks m room d u) (copy m room d u).outcome
unfolding copy reads
copy-order m room d u = first_of outcome (copied _ WrongLength (copied _ WrongDataLength (copied _ WrongType (copied _ NoCopy last))))
  where
    outcome : CopyAnswer → Outcome
    outcome x = x.outcome

    copied : {cs : List Check} {rest : CopyAnswer} (b : Bool) (why : Refusal) → First outcome rest cs
        → First outcome (ask b (copy_answer (Err why) room) rest) (check b (Err why) ∷ cs)
    copied = one_more outcome (λ why. copy_answer (Err why) room) (λ why. refl)
