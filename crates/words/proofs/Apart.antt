-- The paper's number and value tell any two outcomes apart: from them the outcome can be read back, as a caller does who is told the two. Of a reason the
-- number alone.
use mathlib.Core.Path.{◌≡◌, refl, sym, ap, ap₂, ◌∙◌}
use mathlib.Core.Bool.{cond}
use Prim.Native.Nat.{ℕ}
use lib.Dec.{eqb}
use Rattle.std.specs.Prelude.{Option, None, Some, Ok, Err}
use Rattle.words.specs.Outcomes.{Outcome, number_of, value_of}
use Rattle.words.specs.declared.Accepted.TheVariants.{Done, Forwarded, Nobody}
use Rattle.words.specs.declared.Refusal.TheVariants.{WrongLength, WrongDataLength, WrongType, NoSource, NoDestination, ResponseToMany, Unsound, NoRoom}
use Rattle.words.specs.declared.Refusal.TheVariants.{NotServed, NoCopy, OutOfRange, AlreadyAdmitted, NoFreeRecord, NotAdmitted}
use Rattle.words.specs.Reasons.{reason_number}
use Rattle.words.specs.declared.Reason.{Reason}
use Rattle.words.specs.declared.Reason.TheVariants.{PayloadLength, NoSourceDevice, NoSourceUnit, DestinationUnitFF, NoDestinationDevice}
use Rattle.words.specs.declared.Reason.TheVariants.{NoDestinationUnit, NoGroup, BoundToItself, AlreadyPresent}

-- the outcome with this number and value
unfoldable pub read_back : ℕ → ℕ → Outcome
read_back n v =
    cond (eqb n 0) (Ok (Done v))
    (cond (eqb n 1) (Ok (Forwarded v))
    (cond (eqb n 2) (Ok Nobody)
    (cond (eqb n 10) (Err WrongLength)
    (cond (eqb n 11) (Err WrongDataLength)
    (cond (eqb n 12) (Err WrongType)
    (cond (eqb n 13) (Err NoSource)
    (cond (eqb n 14) (Err NoDestination)
    (cond (eqb n 15) (Err ResponseToMany)
    (cond (eqb n 16) (Err Unsound)
    (cond (eqb n 17) (Err NoRoom)
    (cond (eqb n 18) (Err NotServed)
    (cond (eqb n 19) (Err NoCopy)
    (cond (eqb n 20) (Err OutOfRange)
    (cond (eqb n 21) (Err AlreadyAdmitted)
    (cond (eqb n 22) (Err NoFreeRecord)
    (Err NotAdmitted))))))))))))))))

pub read_back_lem : (o : Outcome) → read_back (number_of o) (value_of o) ≡ o
unfolding read_back
read_back_lem (Ok (Done n)) = refl
read_back_lem (Ok (Forwarded n)) = refl
read_back_lem (Ok Nobody) = refl
read_back_lem (Err WrongLength) = refl
read_back_lem (Err WrongDataLength) = refl
read_back_lem (Err WrongType) = refl
read_back_lem (Err NoSource) = refl
read_back_lem (Err NoDestination) = refl
read_back_lem (Err ResponseToMany) = refl
read_back_lem (Err Unsound) = refl
read_back_lem (Err NoRoom) = refl
read_back_lem (Err NotServed) = refl
read_back_lem (Err NoCopy) = refl
read_back_lem (Err OutOfRange) = refl
read_back_lem (Err AlreadyAdmitted) = refl
read_back_lem (Err NoFreeRecord) = refl
read_back_lem (Err NotAdmitted) = refl

pub apart : (a b : Outcome) → number_of a ≡ number_of b → value_of a ≡ value_of b → a ≡ b
apart a b n v = sym (read_back_lem a) ∙ ap₂ read_back n v ∙ read_back_lem b

-- the reason with this number
unfoldable pub reason_back : ℕ → Option Reason
reason_back n =
    cond (eqb n 0) None
    (cond (eqb n 1) (Some PayloadLength)
    (cond (eqb n 2) (Some NoSourceDevice)
    (cond (eqb n 3) (Some NoSourceUnit)
    (cond (eqb n 4) (Some DestinationUnitFF)
    (cond (eqb n 5) (Some NoDestinationDevice)
    (cond (eqb n 6) (Some NoDestinationUnit)
    (cond (eqb n 7) (Some NoGroup)
    (cond (eqb n 8) (Some BoundToItself)
    (Some AlreadyPresent)))))))))

pub reason_back_lem : (f : Option Reason) → reason_back (reason_number f) ≡ f
unfolding reason_back
reason_back_lem None = refl
reason_back_lem (Some PayloadLength) = refl
reason_back_lem (Some NoSourceDevice) = refl
reason_back_lem (Some NoSourceUnit) = refl
reason_back_lem (Some DestinationUnitFF) = refl
reason_back_lem (Some NoDestinationDevice) = refl
reason_back_lem (Some NoDestinationUnit) = refl
reason_back_lem (Some NoGroup) = refl
reason_back_lem (Some BoundToItself) = refl
reason_back_lem (Some AlreadyPresent) = refl

pub reason_apart : (f g : Option Reason) → reason_number f ≡ reason_number g → f ≡ g
reason_apart f g n = sym (reason_back_lem f) ∙ ap reason_back n ∙ reason_back_lem g
