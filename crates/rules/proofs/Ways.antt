-- Which way a message goes, and what is known behind it: the one eliminator of `way` (document 01, Outcomes, "Order for a message").
use Rattle.std.specs.Prelude.{Option, None, Some, Result, Ok, Err}
use Rattle.words.specs.Basics.{◌≡◌, refl, ap, Bool, true, false, false≢true, List, ℕ, eqb}
use Rattle.words.specs.Outcomes.{number_of, value_of}
use Rattle.words.specs.declared.Destination.{Destination}
use Rattle.rules.specs.Types.{Fields, Concentrator, BindAddress, Unit as One, Group, Command, Devices, Groups, Outcome, WrongLength, Refusal}
use Rattle.rules.specs.Types.{WrongDataLength, WrongType, NoSource, NoDestination, ResponseToMany, Unsound, NoRoom, Way, Serve, Forward}
use Rattle.rules.specs.Lists.{ask}
use Rattle.rules.specs.Tables.{Rec}
use Rattle.rules.specs.Frame.{Lent, tables}
use Rattle.rules.specs.Message.{fields, destination, length_fits, data_length_fits, type_fits, reads}
use Rattle.rules.specs.Sound.{sound}
use Rattle.rules.specs.Payloads.{command}
use Rattle.rules.specs.Calls.{roomy, asking, way_to, way_on, way}

-- what a message that acts has passed
pub record Acting (L : Lent) (m r l : List ℕ) : Type 0 where
  pub roomy : roomy L.binds L.members r l ≡ true
  pub sound : sound L ≡ true
  pub length : length_fits m ≡ true
  pub told_length : data_length_fits m ≡ true
  pub type : type_fits m ≡ true

-- a refusal is not outcome 0, and has no count and no length
abbrev pub Refused : Outcome → Type 0
Refused o = (eqb (number_of o) 0 ≡ false) × (value_of o ≡ 0)

-- behind the checks P: refused, served as the command that it is, or handed on to where it says
pub data Ways (P : Type 0) (f : Fields) : Result Way Refusal → Type 0 where
  refuses : {why : Refusal} → Refused (Err why) → Ways P f (Err why)
  serves : {k : Command} → P → command f ≡ Some k → Ways P f (Ok (Serve k))
  forwards : {to : Destination} → P → destination f ≡ to → Ways P f (Ok (Forward to))

-- one check more
ways_ask : {P : Type 0} {f : Fields} {w : Result Way Refusal} (b : Bool) (why : Refusal) → Refused (Err why) → (b ≡ true → Ways P f w)
    → Ways P f (ask b (Err why) w)
unfolding ask
ways_ask true o n w = w refl
ways_ask false o n w = refuses n

module _ {P : Type 0} (p : P) (f : Fields) (ds gs : List Rec) where
  ways_asking : (d : Option Command) → command f ≡ d → Ways P f (asking d)
  unfolding asking
  ways_asking (Some k) e = serves p e
  ways_asking None e = refuses (refl, refl)

  ways_to : (to : Destination) → destination f ≡ to → Ways P f (way_to ds gs to f)
  unfolding way_to
  ways_to Concentrator e = ways_asking (command f) refl
  ways_to BindAddress e = forwards p e
  ways_to (One d u) e = ways_ask _ NoDestination (refl, refl) (λ h. forwards p e)
  ways_to (Group g) e = ways_ask _ NoDestination (refl, refl) (λ h. forwards p e)

  ways_on : Ways P f (way_on ds gs f)
  unfolding way_on
  ways_on = ways_ask _ NoSource (refl, refl) (λ h. ways_ask _ ResponseToMany (refl, refl) (λ g. ways_to (destination f) refl))

pub ways : (L : Lent) (m r l : List ℕ) → Ways (Acting L m r l) (fields m) (way L m r l)
unfolding way reads
ways L m r l =
    ways_ask _ NoRoom (refl, refl) (λ a. ways_ask _ Unsound (refl, refl) (λ b.
    ways_ask _ WrongLength (refl, refl) (λ c. ways_ask _ WrongDataLength (refl, refl) (λ d. ways_ask _ WrongType (refl, refl) (λ e.
    ways_on (record { roomy = a; sound = b; length = c; told_length = d; type = e }) (fields m) (tables L Devices) (tables L Groups))))))

-- does it serve, does it hand on?

abbrev serving : Result Way Refusal → Bool
serving (Err why) = false
serving (Ok (Serve k)) = true
serving (Ok (Forward to)) = false

abbrev forwarding : Result Way Refusal → Bool
forwarding (Err why) = false
forwarding (Ok (Serve k)) = false
forwarding (Ok (Forward to)) = true

module _ {P : Type 0} {f : Fields} where
  serve_ways : {w : Result Way Refusal} {k : Command} → Ways P f w → w ≡ Ok (Serve k) → P × (command f ≡ Some k)
  serve_ways (refuses n) e = absurd (false≢true (ap serving e))
  serve_ways (serves p c) e = (p, cc)
  serve_ways (forwards p d) e = absurd (false≢true (ap serving e))

  forward_ways : {w : Result Way Refusal} {to : Destination} → Ways P f w → w ≡ Ok (Forward to) → P × (destination f ≡ to)
  forward_ways (refuses n) e = absurd (false≢true (ap forwarding e))
  forward_ways (serves p c) e = absurd (false≢true (ap forwarding e))
  forward_ways (forwards p d) e = (p, cc)

-- a command that is served is the message's, a message that is handed on goes where it says

module _ {L : Lent} {m r l : List ℕ} where
  pub serve_known : {k : Command} → way L m r l ≡ Ok (Serve k) → Acting L m r l × (command (fields m) ≡ Some k)
  serve_known e = serve_ways (ways L m r l) e

  pub forward_known : {to : Destination} → way L m r l ≡ Ok (Forward to) → Acting L m r l × (destination (fields m) ≡ to)
  forward_known e = forward_ways (ways L m r l) e
