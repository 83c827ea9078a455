-- The two host calls (document 01, Outcomes): admit a device with its rights and its set of units, and release a device.
use Rattle.std.specs.Prelude.{Bool, cond, not, ◌||◌, List, ℕ, eqb, Ok, Err}
use Rattle.words.specs.Outcomes.{number_of}
use Rattle.rules.specs.Types.{DeviceAddress, Devices, Binds, Members, Sessions, Outcome, Done, Unsound, OutOfRange, AlreadyAdmitted, NoFreeRecord}
use Rattle.rules.specs.Types.{NotAdmitted}
use Rattle.rules.specs.Lists.{ask}
use Rattle.rules.specs.Tables.{Rec, some_free, addressed, store, wipe}
use Rattle.rules.specs.Layout.{device_record, from_device, to_device, of_device}
use Rattle.rules.specs.Frame.{Lent, Tables, tables, Effect, only, also, changed}
use Rattle.rules.specs.Exists.{admitted}
use Rattle.rules.specs.Sound.{device_in_range, sound}
use Rattle.rules.specs.Sessions.{closing}

-- what a host call answers, and what the tables then hold
pub record HostAnswer : Type 0 where
  pub outcome : Outcome
  pub tables : Lent

abbrev pub host_answer : Outcome → Lent → HostAnswer
host_answer o L = record { outcome = o; tables = L }

-- an outcome, and with outcome 0 the change: no other outcome changes a table
unfoldable pub settled : Effect → Lent → Outcome → HostAnswer
settled x L o = host_answer o (cond (eqb (number_of o) 0) (changed x L) L)

unfoldable pub admitting : DeviceAddress → ℕ → List ℕ → Effect
admitting d rights us = only Devices (store (device_record d rights us))

-- "Admit: 16, 20, 21, 22, else 0.": those behind 16 ask the devices alone
unfoldable pub admission : List Rec → DeviceAddress → ℕ → List ℕ → Outcome
admission ds d rights us =
    ask (device_in_range d rights us) (Err OutOfRange)
    (ask (not (admitted ds d)) (Err AlreadyAdmitted)
    (ask (some_free ds) (Err NoFreeRecord)
    (Ok (Done 0))))

unfoldable pub admit : Lent → DeviceAddress → ℕ → List ℕ → HostAnswer
admit L d rights us = settled (admitting d rights us) L (ask (sound L) (Err Unsound) (admission (tables L Devices) d rights us))

-- does the bind name the device "as source or individual destination"?
unfoldable pub names_device : DeviceAddress → Rec → Bool
names_device d b = from_device d b || to_device d b

-- "Release takes the device, its members and all binds that name it" (Commands and codes), and "closes that device's" session (document 02, request 1)
unfoldable pub taking : DeviceAddress → Effect
taking d =
    also Devices (wipe (addressed d.0))
    (also Members (wipe (of_device d))
    (also Sessions (wipe (addressed d.0))
    (only Binds (wipe (names_device d)))))

unfoldable pub releasing : Tables → DeviceAddress → Effect
releasing T d = closing T (taking d)

-- "Release: 16, 23, else 0."
unfoldable pub release : Lent → DeviceAddress → HostAnswer
release L d = settled (releasing (tables L) d) L (ask (sound L) (Err Unsound) (ask (admitted (tables L Devices) d) (Err NotAdmitted) (Ok (Done 0))))

-- .. behind 16: 23 asks the devices alone
unfoldable pub dismissal : List Rec → DeviceAddress → Outcome
dismissal ds d = ask (admitted ds d) (Err NotAdmitted) (Ok (Done 0))
