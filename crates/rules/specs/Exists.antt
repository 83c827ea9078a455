-- What exists (document 01, Tables): units, devices, groups, rights.
use Rattle.std.specs.Prelude.{Bool, true, cond, List, ℕ, eqb}
use Rattle.words.specs.Names.{concentrator}
use Rattle.rules.specs.Types.{DeviceAddress, GroupAddress}
use Rattle.rules.specs.Lists.{any, ◌&◌}
use Rattle.rules.specs.Tables.{Rec, used, addressed}
use Rattle.rules.specs.Layout.{in_set, device_rights, device_units}

-- is the device in the table?
unfoldable pub admitted : List Rec → DeviceAddress → Bool
admitted ds d = any (addressed d.0) (used ds)

-- an admitted device has the units of its set (document 02, request 2)
unfoldable pub has_unit : DeviceAddress → ℕ → Rec → Bool
has_unit d u r = addressed d.0 r & in_set u (device_units r)

-- "D'0000 is the concentrator: never in the table, unit 0 only, rights 1."
unfoldable pub unit_exists : List Rec → DeviceAddress → ℕ → Bool
unit_exists ds d u = cond (eqb d.0 concentrator.0) (eqb u 0) (any (has_unit d u) (used ds))

-- the concentrator, or a device that is admitted
unfoldable pub device_exists : List Rec → DeviceAddress → Bool
device_exists ds d = cond (eqb d.0 concentrator.0) true (admitted ds d)

unfoldable pub may_command : DeviceAddress → Rec → Bool
may_command d r = addressed d.0 r & eqb (device_rights r) 1

unfoldable pub has_rights : List Rec → DeviceAddress → Bool
has_rights ds d = cond (eqb d.0 concentrator.0) true (any (may_command d) (used ds))

unfoldable pub group_exists : List Rec → GroupAddress → Bool
group_exists gs g = any (addressed g.0) (used gs)
