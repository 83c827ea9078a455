-- The chain of a bind's faults (rules, Faults) in parts, as the code asks them: of a unit, of the source, of the destination.
use Rattle.std.specs.Prelude.{List, ℕ, Option, None, Some}
use Rattle.rules.specs.Types.{DeviceAddress, Reason, NoSourceDevice, NoSourceUnit, NoDestinationDevice, NoDestinationUnit, NoGroup, BoundToItself}
use Rattle.rules.specs.Lists.{ask}
use Rattle.rules.specs.Tables.{Rec}
use Rattle.rules.specs.Exists.{unit_exists, device_exists}
use Rattle.rules.specs.Faults.{has_source_device, has_source_unit, has_bound_device, has_bound_unit, has_bound_group, to_another}

-- this fault, or where it is none what the checks behind it say
unfoldable pub or_else : Option Reason → Option Reason → Option Reason
or_else None rest = rest
or_else (Some f) rest = Some f

unfoldable pub unit_fault : List Rec → DeviceAddress → ℕ → (no_device no_unit : Reason) → Option Reason
unit_fault ds d u no_device no_unit = ask (device_exists ds d) (Some no_device) (ask (unit_exists ds d u) (Some no_unit) None)

unfoldable pub source_fault : List Rec → Rec → Option Reason
source_fault ds b = ask (has_source_device ds b) (Some NoSourceDevice) (ask (has_source_unit ds b) (Some NoSourceUnit) None)

unfoldable pub destination_fault : List Rec → List Rec → Rec → Option Reason
destination_fault ds gs b =
    ask (has_bound_device ds b) (Some NoDestinationDevice)
    (ask (has_bound_unit ds b) (Some NoDestinationUnit)
    (ask (has_bound_group gs b) (Some NoGroup)
    (ask (to_another b) (Some BoundToItself)
    None)))
