-- Rows: binds of any device, any unit, any interface (document 02, request 4; document 000, 6.2.1): with a scene switch one bind is for every room.
use Rattle.words.specs.Basics.{Bool, true, false, List, [], ◌∷◌, ◌++◌, map, ℕ}
use Rattle.words.specs.Names.{device}
use Rattle.rules.specs.Frame.{Lent}
use Rattle.rules.specs.Calls.{Answer}
use Rattle.rules.specs.Host.{HostAnswer}
use Rattle.rules.specs.Message.{fields}
use Rattle.rules.specs.History.{Call, sends, admits, releases, history, linked}
use Rattle.rules.proofs.Samples.{Row, row, run, filled, zero_to_two, device-table, D1, D3, D4, D5, devices, groups, members, holding, house, far_with}
use Rattle.rules.proofs.Samples.{a, three-one, concentrator, curtains, bind_management, group_management, letter, request, reply, list, Sent, sent}
use Rattle.rules.proofs.Samples.{unchanged, goes, grants, code, faulty}
use Rattle.rules.proofs.RowsOfDelivery.{bound}
use Rattle.rules.proofs.RowsOfBinds.{stores, wrong, gone}
use Rattle.rules.proofs.RowsOfCalls.{Releasing, releasing, hosted, not-released}

-- Who gets a message

-- with this one bind in the house, which leads to 4:02: a request of this unit at this interface goes there, or to nobody

abbrev with_bind : ℕ → Lent
with_bind b = house (run 8 b)

abbrev delivered : ℕ → ℕ → ℕ → Row Sent Answer
delivered b interface from = row (sent (with_bind b) (request (run 3 from) (run 2 interface))) (goes (with_bind b) 1 0x00_04_02)

abbrev unmatched : ℕ → ℕ → ℕ → Row Sent Answer
unmatched b interface from = row (sent (with_bind b) (request (run 3 from) (run 2 interface))) (unchanged (with_bind b) 2)

abbrev from_unit_one : ℕ
from_unit_one = 0x7F_FF_01_82_00_00_04_02

abbrev from-three : ℕ
from-three = 0x00_03_FF_82_00_00_04_02

abbrev at-any : ℕ
at-any = 0x00_03_01_FF_FF_00_04_02

abbrev for_all : ℕ
for_all = 0x7F_FF_FF_FF_FF_00_04_02

-- "A request matches if each field is equal or the bind says any."
abbrev pub any-matches : List (Row Sent Answer)
any-matches =
    -- any device: every unit 1, and no other unit; that UID and role alone
    map (delivered from_unit_one 0x82_00) (0x00_01_01 ∷ 0x00_03_01 ∷ 0x00_04_01 ∷ 0x00_05_01 ∷ [])
    ++ map (unmatched from_unit_one 0x82_00) (0x00_03_00 ∷ 0x00_03_02 ∷ 0x00_00_00 ∷ [])
    ++ map (λ i. unmatched from_unit_one i 0x00_03_01) (0x82_01 ∷ 0x83_00 ∷ 0xFF_FF ∷ 0x02_00 ∷ [])
    -- any unit: every unit of device 3, and of no other
    ++ map (delivered from-three 0x82_00) (0x00_03_00 ∷ 0x00_03_01 ∷ 0x00_03_02 ∷ [])
    ++ map (unmatched from-three 0x82_00) (0x00_01_00 ∷ 0x00_04_01 ∷ 0x00_05_01 ∷ 0x00_00_00 ∷ [])
    ++ map (λ i. unmatched from-three i 0x00_03_01) (0x82_01 ∷ 0xFF_FF ∷ 0x02_00 ∷ [])
    -- .. of device 5, which has no rights, and of the concentrator
    ++ map (delivered 0x00_05_FF_82_00_00_04_02 0x82_00) (0x00_05_00 ∷ 0x00_05_01 ∷ [])
    ++ delivered 0x00_00_FF_82_00_00_04_02 0x82_00 0x00_00_00
    ∷ unmatched 0x00_00_FF_82_00_00_04_02 0x82_00 0x00_01_00
    -- any interface: every UID, from 3:01 alone; "the interface type is always compared"
    ∷ map (λ i. delivered at-any i 0x00_03_01) (0x82_00 ∷ 0x80_00 ∷ 0x80_02 ∷ 0xFF_FE ∷ 0xFF_FF ∷ [])
    ++ map (λ i. unmatched at-any i 0x00_03_01) (0x02_00 ∷ 0x7F_FE ∷ 0x7F_FF ∷ [])
    ++ map (unmatched at-any 0x82_00) (0x00_03_00 ∷ 0x00_03_02 ∷ 0x00_04_01 ∷ [])
    ++ delivered 0x00_03_01_7F_FF_00_04_02 0x02_00 0x00_03_01
    ∷ unmatched 0x00_03_01_7F_FF_00_04_02 0x82_00 0x00_03_01
    -- all three: everyone, at every interface of that role, the concentrator too
    ∷ map (delivered for_all 0x82_00) (0x00_00_00 ∷ 0x00_01_00 ∷ 0x00_03_02 ∷ 0x00_04_00 ∷ 0x00_05_01 ∷ [])
    ++ map (λ i. delivered for_all i 0x00_05_01) (0x80_00 ∷ 0xFF_FF ∷ [])
    ++ map (λ i. unmatched for_all i 0x00_05_01) (0x02_00 ∷ 0x7F_FF ∷ [])
    -- two of them, and the third written out
    ++ delivered 0x7F_FF_FF_82_00_00_04_02 0x82_00 0x00_05_01
    ∷ unmatched 0x7F_FF_FF_82_00_00_04_02 0x82_01 0x00_05_01
    ∷ delivered 0x7F_FF_01_FF_FF_00_04_02 0x82_01 0x00_05_01
    ∷ unmatched 0x7F_FF_01_FF_FF_00_04_02 0x82_01 0x00_05_00
    ∷ delivered 0x00_03_FF_FF_FF_00_04_02 0x82_01 0x00_03_02
    ∷ unmatched 0x00_03_FF_FF_FF_00_04_02 0x82_01 0x00_05_01
    -- it is the bind that says any: a request at UID 0x7FFF matches no UID that is written out
    ∷ unmatched 0x00_03_01_82_00_00_04_02 0xFF_FF 0x00_03_01
    ∷ []

-- numbers beside these three say themselves: unit 0xFE, D'7FFE, UID 0x7FFE
abbrev pub next_to_any : List (Row Sent Answer)
next_to_any =
    far-goes 0x7F_FF_FE_82_00_00_34_01 0x7F_FE_FE
    ∷ far_nobody 0x7F_FF_FE_82_00_00_34_01 0x12_34_01
    ∷ far-goes 0x7F_FE_FE_82_00_00_34_01 0x7F_FE_FE
    ∷ far_nobody 0x7F_FE_01_82_00_00_34_01 0x12_34_01
    ∷ delivered 0x00_03_01_FF_FE_00_04_02 0xFF_FE 0x00_03_01
    ∷ unmatched 0x00_03_01_FF_FE_00_04_02 0x82_00 0x00_03_01
    ∷ []
  where
    far-goes : ℕ → ℕ → Row Sent Answer
    far-goes b from = row (sent (far_with (run 8 b)) (request (run 3 from) curtains)) (goes (far_with (run 8 b)) 1 0x00_34_01)

    far_nobody : ℕ → ℕ → Row Sent Answer
    far_nobody b from = row (sent (far_with (run 8 b)) (request (run 3 from) curtains)) (unchanged (far_with (run 8 b)) 2)

-- whom a scene switch reaches: the members of a group without the sender; each unit once, though several binds match; never the sender itself
abbrev pub scene_recipients : List (Row Sent Answer)
scene_recipients =
    bound (run 8 0x7F_FF_FF_FF_FF_80_01_00) three-one 2 0x00_04_02_00_05_01
    ∷ bound (run 8 0x7F_FF_FF_FF_FF_80_01_00) (run 3 0x00_01_00) 3 0x00_03_01_00_04_02_00_05_01
    ∷ bound (run 8 for_all ++ run 8 from-three ++ a ++ run 8 0x7F_FF_01_82_00_00_01_01) three-one 2 0x00_01_01_00_04_02
    ∷ bound (run 8 for_all ++ run 8 0x00_03_01_82_00_00_05_00) three-one 2 0x00_04_02_00_05_00
    ∷ bound (run 8 for_all ++ run 8 0x7F_FF_FF_82_00_00_05_00) (run 3 0x00_04_02) 1 0x00_05_00
    ∷ row (sent (with_bind for_all) (request (run 3 0x00_04_02) curtains)) (unchanged (with_bind for_all) 2)
    -- nobody sends as any device or any unit: 13
    ∷ row (sent (with_bind for_all) (request (run 3 0x7F_FF_01) curtains)) (unchanged (with_bind for_all) 13)
    ∷ row (sent (with_bind for_all) (request (run 3 0x00_03_FF) curtains)) (unchanged (with_bind for_all) 13)
    ∷ []

-- Add Bind

-- "Add Bind no longer gives 0x02 for these three values."
abbrev pub add-any : List (Row Sent Answer)
add-any =
    -- each alone, any interface at both roles; all three, to a unit, to a group, to the concentrator
    map stores
    (from_unit_one ∷ from-three ∷ at-any ∷ 0x00_03_01_7F_FF_00_04_02 ∷ for_all ∷ 0x7F_FF_FF_FF_FF_80_01_00 ∷ 0x7F_FF_FF_FF_FF_00_00_00
    -- "a unit written out beside any device may be 0 to 254": also one that no device has
    ∷ 0x7F_FF_00_82_00_00_04_02 ∷ 0x7F_FF_09_82_00_00_04_02 ∷ 0x7F_FF_FE_82_00_00_04_02
    -- any unit of a device without rights, and of the concentrator
    ∷ 0x00_05_FF_82_00_00_04_02 ∷ 0x00_00_FF_82_00_00_04_02
    -- "Binding a unit to itself is refused only where both are written out."
    ∷ 0x7F_FF_01_82_00_00_03_01 ∷ 0x00_03_FF_82_00_00_03_01 ∷ 0x00_00_FF_82_00_00_00_00 ∷ [])
    -- octet 1's top bit is ignored, and stored as 0
    ++ grants bind_management 0x01 (run 8 0xFF_FF_01_82_00_00_04_02) (house []) (with_bind from_unit_one)
    ∷ grants bind_management 0x01 (run 8 0xFF_FF_FF_FF_FF_00_04_02) (house []) (with_bind for_all)
    -- a device or a unit written out must be there: no such device with any unit, D'7FFE; no such unit of a device that is there, 254 and 3; unit 1 of the
    -- concentrator; a unit bound to itself, also at any interface
    ∷ map (wrong 2) (0x00_06_FF_82_00_00_04_02 ∷ 0x7F_FE_FF_82_00_00_04_02 ∷ 0x7F_FE_01_82_00_00_04_02 ∷ [])
    ++ map (wrong 3) (0x00_03_FE_82_00_00_04_02 ∷ 0x00_03_03_FF_FF_00_04_02 ∷ 0x00_00_01_FF_FF_00_04_02 ∷ [])
    ++ wrong 8 0x00_03_01_FF_FF_00_03_01
    -- nothing of the destination changes: unit 0xFF, also with D'7FFF, the bind address; D'7FFF, no such unit; G'7FFF, no such group
    ∷ map (wrong 4) (0x7F_FF_FF_FF_FF_00_04_FF ∷ 0x7F_FF_FF_FF_FF_7F_FF_FF ∷ [])
    ++ wrong 5 0x7F_FF_FF_FF_FF_7F_FF_00
    ∷ wrong 6 0x7F_FF_FF_FF_FF_00_04_03
    ∷ map (wrong 7) (0x7F_FF_FF_FF_FF_FF_FF_00 ∷ 0x7F_FF_FF_FF_FF_80_03_00 ∷ [])
    -- there already, also with the top bit; beside a bind that is written out it is another one, and so is that one beside it
    ++ faulty 9 (with_bind for_all) (run 8 for_all)
    ∷ faulty 9 (with_bind for_all) (run 8 0xFF_FF_FF_FF_FF_00_04_02)
    ∷ grants bind_management 0x01 (run 8 for_all) (house a) (house (a ++ run 8 for_all))
    ∷ grants bind_management 0x01 a (with_bind for_all) (house (run 8 for_all ++ a))
    -- no free record
    ∷ code 0xFE bind_management 0x01 (holding devices a groups members) (run 8 for_all)
    ∷ []

-- Removals

-- one bind that is written out, and four of any
abbrev four_of_any : Lent
four_of_any = house (a ++ run 8 from_unit_one ++ run 8 from-three ++ run 8 at-any ++ run 8 for_all)

abbrev leaves : ℕ → List ℕ → List ℕ → Row Sent Answer
leaves member p rest = grants bind_management member p four_of_any (house rest)

abbrev nothing : ℕ → List ℕ → Row Sent Answer
nothing member p = code 0x02 bind_management member four_of_any p

-- "Remove compares the stored octets, so any matches only any."
abbrev pub remove_any : List (Row Sent Answer)
remove_any =
    -- by source D'7FFF, the top bit ignored, only any device; by D'0003 only that device; D'0005 is in none
    leaves 0x03 (run 2 0x7F_FF) (a ++ gone ++ run 8 from-three ++ run 8 at-any ++ gone)
    ∷ leaves 0x03 (run 2 0xFF_FF) (a ++ gone ++ run 8 from-three ++ run 8 at-any ++ gone)
    ∷ leaves 0x03 (run 2 0x00_03) (gone ++ run 8 from_unit_one ++ gone ++ gone ++ run 8 for_all)
    ∷ nothing 0x03 (run 2 0x00_05)
    -- by source and unit
    ∷ leaves 0x04 (run 3 0x7F_FF_01) (a ++ gone ++ run 8 from-three ++ run 8 at-any ++ run 8 for_all)
    ∷ leaves 0x04 (run 3 0x7F_FF_FF) (a ++ run 8 from_unit_one ++ run 8 from-three ++ run 8 at-any ++ gone)
    ∷ leaves 0x04 (run 3 0x00_03_FF) (a ++ run 8 from_unit_one ++ gone ++ run 8 at-any ++ run 8 for_all)
    ∷ leaves 0x04 (run 3 0x00_03_01) (gone ++ run 8 from_unit_one ++ run 8 from-three ++ gone ++ run 8 for_all)
    ∷ nothing 0x04 (run 3 0x7F_FF_02)
    ∷ nothing 0x04 (run 3 0x00_05_FF)
    -- Remove Bind: that one alone
    ∷ leaves 0x02 a (gone ++ run 8 from_unit_one ++ run 8 from-three ++ run 8 at-any ++ run 8 for_all)
    ∷ leaves 0x02 (run 8 at-any) (a ++ run 8 from_unit_one ++ run 8 from-three ++ gone ++ run 8 for_all)
    ∷ leaves 0x02 (run 8 0xFF_FF_FF_FF_FF_00_04_02) (a ++ run 8 from_unit_one ++ run 8 from-three ++ run 8 at-any ++ gone)
    ∷ nothing 0x02 (run 8 0x00_05_01_82_00_00_04_02)
    ∷ nothing 0x02 (run 8 0x00_03_02_82_00_00_04_02)
    ∷ nothing 0x02 (run 8 0x00_03_01_83_00_00_04_02)
    -- by destination: no destination is any
    ∷ leaves 0x06 (run 3 0x00_04_02) (gone ++ gone ++ gone ++ gone ++ gone)
    ∷ nothing 0x05 (run 2 0x7F_FF)
    ∷ nothing 0x06 (run 3 0x7F_FF_FF)
    -- by source D'7FFF, where no bind says any device
    ∷ code 0x02 bind_management 0x03 (house (a ++ run 8 from-three)) (run 2 0x7F_FF)
    -- Delete Group takes a bind of any device to the group
    ∷ grants group_management 0x02 (run 2 0x00_02) (house (run 8 0x7F_FF_FF_FF_FF_80_02_00 ++ run 8 for_all)) (holding devices
    (gone ++ run 8 for_all ++ filled 32 []) (filled 48 (run 4 0x00_01_01_53 ++ run 12 0)) members)
    ∷ []

-- "any device" names no device: a release takes the device's binds, of any unit and any interface too, and leaves those
abbrev pub release-any : List (Row Releasing HostAnswer)
release-any =
    row (releasing four_of_any 3) (hosted 0 (holding
    (D1 ++ device-table 1 [] ++ D4 ++ D5 ++ device-table 1 [])
    (gone ++ run 8 from_unit_one ++ gone ++ gone ++ run 8 for_all ++ gone) groups
    (run 5 0x00_01_00_05_01 ++ run 5 0x00_01_00_04_02 ++ filled 10 [])))
    -- .. but for a destination of the device
    ∷ row (releasing four_of_any 4) (hosted 0 (holding
    (D1 ++ D3 ++ device-table 1 [] ++ D5 ++ device-table 1 []) (filled 48 []) groups
    (run 5 0x00_01_00_05_01 ++ filled 5 [] ++ run 5 0x00_01_00_03_01 ++ filled 5 [])))
    ∷ row (releasing four_of_any 1) (hosted 0 (holding (device-table 1 [] ++ D3 ++ D4 ++ D5 ++ device-table 1 []) four_of_any.binds groups members))
    ∷ not-released four_of_any 0x7FFF 23
    ∷ []

-- "Soundness allows the three values in binds": the tables of the rows above are sound. Not so: octet 1 with its top bit beside any device; a source or a unit
-- written out that is not there; a bind of any twice; the octets of a free record but for octet 1's top bit
abbrev pub unsound-any : List (Row Sent Answer)
unsound-any =
    map (λ b. refused (run 8 b))
    (0xFF_FF_01_82_00_00_04_02 ∷ 0x00_06_FF_82_00_00_04_02 ∷ 0x7F_FE_FF_82_00_00_04_02 ∷ 0x00_03_03_FF_FF_00_04_02 ∷ 0x00_00_01_FF_FF_00_04_02
    ∷ 0x00_03_01_FF_FF_00_03_01 ∷ 0x7F_FF_FF_FF_FF_00_04_FF ∷ 0x7F_FF_FF_FF_FF_7F_FF_FF ∷ 0x7F_FF_FF_FF_FF_FF_FF_FF ∷ [])
    ++ refused (run 8 for_all ++ gone ++ run 8 for_all)
    ∷ []
  where
    refused : List ℕ → Row Sent Answer
    refused bs = row (sent (house bs) (request three-one curtains)) (unchanged (house bs) 16)

-- By history

-- after these calls from free tables, the latest first: is the unit linked to who sends this?
pub record Asked : Type 0 where
  pub calls : List Call
  pub message : List ℕ
  pub unit : ℕ

abbrev pub linked_after : Asked → Bool
linked_after x = linked (history free_tables_lem x.calls) (fields x.message) x.unit
  where
    free_tables_lem : Lent
    free_tables_lem = holding (device-table 2 []) (filled 16 []) (filled 16 []) (filled 5 [])

-- devices 3, with rights, and 4; then a bind of everything to 4:02, and one of 3:01 to 4:01

abbrev commanding : ℕ → List ℕ → Call
commanding member p = sends (letter three-one concentrator 0x01 bind_management member p) reply list

abbrev admitted : List Call
admitted = admits (device 4) 0 zero_to_two ∷ admits (device 3) 1 zero_to_two ∷ []

abbrev bound_for_all : List Call
bound_for_all = commanding 0x01 (run 8 for_all) ∷ admitted

abbrev bound_twice : List Call
bound_twice = commanding 0x01 (run 8 0x00_03_01_82_00_00_04_01) ∷ bound_for_all

-- a request of this unit at this interface, after these calls
abbrev after : List Call → ℕ → ℕ → ℕ → Bool → Row Asked Bool
after cs from interface u due = row (record { calls = cs; message = request (run 3 from) (run 2 interface); unit = u }) due

-- what a bind of any links, and to whom; what it does not
abbrev pub linked_by_history : List (Row Asked Bool)
linked_by_history =
    map (λ i. after bound_for_all 0x00_03_01 i 0x00_04_02 true) (0x82_00 ∷ 0x81_23 ∷ 0xFF_FF ∷ [])
    ++ map (λ i. after bound_for_all 0x00_03_01 i 0x00_04_02 false) (0x02_00 ∷ 0x7F_FF ∷ [])
    ++ after bound_for_all 0x00_04_00 0x82_00 0x00_04_02 true
    ∷ after bound_for_all 0x00_03_01 0x82_00 0x00_04_01 false
    ∷ after admitted 0x00_03_01 0x82_00 0x00_04_02 false
    -- each alone
    ∷ after (commanding 0x01 (run 8 from_unit_one) ∷ admitted) 0x00_04_01 0x82_00 0x00_04_02 true
    ∷ after (commanding 0x01 (run 8 from_unit_one) ∷ admitted) 0x00_03_02 0x82_00 0x00_04_02 false
    ∷ after (commanding 0x01 (run 8 from-three) ∷ admitted) 0x00_03_02 0x82_00 0x00_04_02 true
    ∷ after (commanding 0x01 (run 8 from-three) ∷ admitted) 0x00_04_01 0x82_00 0x00_04_02 false
    ∷ after (commanding 0x01 (run 8 at-any) ∷ admitted) 0x00_03_01 0x81_23 0x00_04_02 true
    ∷ after (commanding 0x01 (run 8 at-any) ∷ admitted) 0x00_03_02 0x81_23 0x00_04_02 false
    -- a removal of device 3's binds leaves it, one of D'7FFF's takes it alone; a release of device 3 leaves it, one of its destination takes it
    ∷ after (commanding 0x03 (run 2 0x00_03) ∷ bound_twice) 0x00_03_01 0x82_00 0x00_04_02 true
    ∷ after (commanding 0x03 (run 2 0x00_03) ∷ bound_twice) 0x00_03_01 0x82_00 0x00_04_01 false
    ∷ after (commanding 0x03 (run 2 0x7F_FF) ∷ bound_twice) 0x00_03_01 0x82_00 0x00_04_02 false
    ∷ after (commanding 0x03 (run 2 0x7F_FF) ∷ bound_twice) 0x00_03_01 0x82_00 0x00_04_01 true
    ∷ after (releases (device 3) ∷ bound_twice) 0x00_04_00 0x82_00 0x00_04_02 true
    ∷ after (releases (device 4) ∷ bound_twice) 0x00_03_01 0x82_00 0x00_04_02 false
    ∷ []
