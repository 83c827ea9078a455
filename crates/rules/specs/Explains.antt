-- What a caller is promised of the reason (document 02, request 6): it is given where an Add Bind is answered 0x02, and only there, so that the code on the
-- air and the reason cannot disagree.
use Rattle.std.specs.Prelude.{◌≡◌, Bool, true, false, List, ℕ, eqb, Some}
use Rattle.words.specs.Names.{invalid_argument, header_length}
use Rattle.words.specs.Outcomes.{number_of}
use Rattle.words.specs.Reasons.{faultless}
use Rattle.rules.specs.Types.{AddBind}
use Rattle.rules.specs.Lists.{◌&◌}
use Rattle.rules.specs.Octets.{octet}
use Rattle.rules.specs.Frame.{Lent}
use Rattle.rules.specs.Message.{fields}
use Rattle.rules.specs.Payloads.{command}
use Rattle.rules.specs.Calls.{Answer, message}

-- was a command answered 0x02: outcome 0, and that code in octet 16 of the reply?
unfoldable pub refused_by : Answer → Bool
refused_by a = eqb (number_of a.outcome) 0 & eqb (octet header_length a.reply) invalid_argument.0

pub record Explains (L : Lent) (m r l : List ℕ) : Type 0 where
  -- Add Bind answered 0x02 has a reason
  pub given : command (fields m) ≡ Some AddBind → refused_by (message L m r l) ≡ true → faultless (message L m r l).reason ≡ false
  -- what has a reason is Add Bind, answered 0x02
  pub only : faultless (message L m r l).reason ≡ false → (command (fields m) ≡ Some AddBind) × (refused_by (message L m r l) ≡ true)

abbrev pub IsExplained : Type 0
IsExplained = (L : Lent) (m r l : List ℕ) → Explains L m r l
