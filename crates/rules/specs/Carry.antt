-- Old device tables carried over (document 02, request 2). In an old record of 4 octets a device has units 0 to its highest; a new one has them as a set.
-- This call is made once, before the first call on the new table, and is no part of condition 3's runs.
use Rattle.std.specs.Prelude.{Bool, true, cond, List, map, ℕ, ◌*◌, eqb, leb, length, replicate, Ok, Err}
use Rattle.words.specs.Names.{device, concentrator, highest_unit}
use Rattle.words.specs.Outcomes.{number_of}
use Rattle.rules.specs.Types.{DeviceAddress, Devices, Outcome, Done, Unsound, NoRoom}
use Rattle.rules.specs.Lists.{ask, any, ◌&◌}
use Rattle.rules.specs.Octets.{octet, word}
use Rattle.rules.specs.Tables.{Rec, records, bytes, free, is_free, used, addressed}
use Rattle.rules.specs.Layout.{size, most, key, up_to, device_record}
use Rattle.rules.specs.Sound.{address_fits, sound_by}

-- The old record: address 2, rights 1, highest unit 1

abbrev pub old_size : ℕ
old_size = 4

abbrev pub old_address : Rec → DeviceAddress
old_address r = device (word 0 r)

abbrev pub old_rights : Rec → ℕ
old_rights r = octet 2 r

abbrev pub old_highest : Rec → ℕ
old_highest r = octet 3 r

-- address, rights 0 or 1, highest unit 0 to 254
unfoldable pub old_fits : Rec → Bool
old_fits r = address_fits (old_address r).0 & leb (old_rights r) 1 & leb (old_highest r) highest_unit

-- as many records as there may be devices, and no address twice
unfoldable pub old_sound : List ℕ → Bool
old_sound old = sound_by old_size (most Devices) (key Devices) old_fits old

-- which units existed by an old table, and who had rights: "An admitted device has units 0 to its highest." (document 01, Tables)

unfoldable pub old_has_unit : DeviceAddress → ℕ → Rec → Bool
old_has_unit d u r = addressed d.0 r & leb u (old_highest r)

unfoldable pub old_unit_exists : List ℕ → DeviceAddress → ℕ → Bool
old_unit_exists old d u = cond (eqb d.0 concentrator.0) (eqb u 0) (any (old_has_unit d u) (used (records old_size old)))

unfoldable pub old_has_rights : List ℕ → DeviceAddress → Bool
old_has_rights old d = cond (eqb d.0 concentrator.0) true (any (λ r. addressed d.0 r & eqb (old_rights r) 1) (used (records old_size old)))

-- The new table

-- "a call that sets units 0 to the highest": a free record stays free
unfoldable pub carried : Rec → Rec
carried r = cond (is_free r) (replicate (size Devices) free) (device_record (old_address r) (old_rights r) (up_to (old_highest r)))

-- record i of the old table is record i of the new one
unfoldable pub carried_table : List ℕ → List ℕ
carried_table old = bytes (map carried (records old_size old))

-- The call

-- what it answers, and what the new table then holds
pub record CarryAnswer : Type 0 where
  pub outcome : Outcome
  pub new : List ℕ

abbrev pub carry_answer : Outcome → List ℕ → CarryAnswer
carry_answer o new = record { outcome = o; new = new }

-- the new table is so many times as long as the old one
abbrev pub times : ℕ
times = 9

-- "16 for an unsound old table, then 17 where the new one isn't nine times its length"
unfoldable pub carry_outcome : List ℕ → List ℕ → Outcome
carry_outcome old new = ask (old_sound old) (Err Unsound) (ask (eqb (length new) (times * length old)) (Err NoRoom) (Ok (Done 0)))

-- with outcome 0 every octet is written, with any other none
unfoldable pub carried_over : List ℕ → List ℕ → CarryAnswer
carried_over old new = let o : Outcome = carry_outcome old new in carry_answer o (cond (eqb (number_of o) 0) (carried_table old) new)
