-- Where the octets of a device's record stand: the units behind four octets, in the record and in its table.
use Rattle.words.specs.Basics.{◌≡◌, ◌∙◌, List, ◌∷◌, append-nil, ℕ, ◌+◌, ◌/◌, ◌%◌, ◌<◌, ◌≤◌, arith, length, take, drop, replicate, set, get_or-drop}
use Rattle.words.specs.Basics.{sets, sets-eq}
use Rattle.rules.specs.Octets.{octets}
use Rattle.rules.specs.Types.{DeviceAddress, Devices}
use Rattle.rules.specs.Layout.{size, units_length, in_set, device_units, device_record}
use Rattle.rules.proofs.Records.{octet-at}

-- a unit of the record at `at`, by the octets of the table
pub unit_in_record : (at u : ℕ) (t : List ℕ) → u ≤ 255 → in_set u (device_units (take (size Devices) (drop at t))) ≡ in_set u (drop (at + 4) t)
unfolding in_set
unit_in_record at u t l =
    let e : at + (4 + u / 8) ≡ at + 4 + u / 8 = omega arith in
    let i : 4 + u / 8 < 36 = omega arith in
    rw (get_or-drop, octet-at (size Devices) at (4 + u / 8) t i, e, get_or-drop)

-- the units are written behind four octets of 0, and then the first three
pub record-placed : (d : DeviceAddress) (a : ℕ) (us : List ℕ) {x : List ℕ} {hi lo : ℕ} → length us ≡ units_length → x ≡ sets (replicate 36 0) 4 us
    → hi ≡ d.0 / 256 → lo ≡ d.0 % 256 → set (set (set x 0 hi) 1 lo) 2 a ≡ device_record d a us
unfolding device_record octets
record-placed d a us {x} h e p q =
    let z : x ≡ 0 ∷ 0 ∷ 0 ∷ 0 ∷ us = e ∙ sets-eq us (replicate 36 0) 4 (omega arith) ∙ rw (h, append-nil us) in
    rw (z, p, q)
