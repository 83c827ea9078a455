-- Rows: who gets a message (document 01, Recipients; the types of "The message").
use Rattle.words.specs.Basics.{List, [], ◌∷◌, ◌++◌, map, ℕ, replicate}
use Rattle.rules.specs.Frame.{Lent}
use Rattle.rules.specs.Calls.{Answer}
use Rattle.rules.proofs.Samples.{Row, row, run, filled, devices, groups, holding, house, far_with, far, three-one, four-one, concentrator}
use Rattle.rules.proofs.Samples.{to_bind_address, to_group-one, curtains, letter, request, Sent, sent, unchanged, goes}

-- from 3:01 at server interface 0x0200 to 4:02
abbrev one : Lent
one = house (run 8 0x00_03_01_82_00_00_04_02)

-- a request that this one bind does not match
abbrev unmatched : List ℕ → Row Sent Answer
unmatched m = row (sent one m) (unchanged one 2)

-- "binds whose source device, source unit, UID and interface type equal the message's"
abbrev pub matching : List (Row Sent Answer)
matching =
    row (sent one (request three-one curtains)) (goes one 1 0x00_04_02)
    -- another device, another unit, another UID, the client's role
    ∷ unmatched (request four-one curtains)
    ∷ unmatched (request (run 3 0x00_03_02) curtains)
    ∷ unmatched (request three-one (run 2 0x82_01))
    ∷ unmatched (request three-one (run 2 0x83_00))
    ∷ unmatched (request three-one (run 2 0x02_00))
    -- at a client interface
    ∷ row (sent client (request three-one (run 2 0x02_00))) (goes client 1 0x00_04_02)
    ∷ row (sent client (request three-one curtains)) (unchanged client 2)
    -- from D'1234, and not from D'0034
    ∷ row (sent high (request (run 3 0x12_34_01) curtains)) (goes high 1 0x00_34_01)
    ∷ row (sent high (request (run 3 0x00_34_01) curtains)) (unchanged high 2)
    ∷ []
  where
    high : Lent
    high = far_with (run 8 0x12_34_01_82_00_00_34_01)

    client : Lent
    client = house (run 8 0x00_03_01_02_00_00_04_02)

-- these binds are there, and a request of this unit goes to these n units
abbrev pub bound : List ℕ → List ℕ → ℕ → ℕ → Row Sent Answer
bound bs from n us = row (sent (house bs) (request from curtains)) (goes (house bs) n us)

-- "the named unit or the group's members, without the sender"; "Each unit stands once, by rising device, then unit"
abbrev pub binding : List (Row Sent Answer)
binding =
    -- 4:02 by a bind and by the group of another, 3:01 sends
    bound (run 8 0x00_03_01_82_00_80_01_00 ++ run 8 0x00_03_01_82_00_00_04_02) three-one 2 0x00_04_02_00_05_01
    -- the unit of a group bind plays no part; a sender that is no member is not missed
    ∷ bound (run 8 0x00_04_01_82_00_80_01_07) four-one 3 0x00_03_01_00_04_02_00_05_01
    -- a group without members
    ∷ row (sent (house (run 8 0x00_03_01_82_00_80_02_00)) (request three-one curtains)) (unchanged (house (run 8 0x00_03_01_82_00_80_02_00)) 2)
    -- units of one device by rising unit, the sender's other unit among them
    ∷ bound (run 8 0x00_03_01_82_00_00_04_02 ++ run 8 0x00_03_01_82_00_00_03_02 ++ run 8 0x00_03_01_82_00_00_04_00) three-one 3 0x00_03_02_00_04_00_00_04_02
    -- a bind to D'0001 goes to that device, and not to the members of G'0001
    ∷ bound (run 8 0x00_03_01_82_00_00_01_01) three-one 1 0x00_01_01
    -- from and to the concentrator
    ∷ bound (run 8 0x00_00_00_82_00_00_04_02) concentrator 1 0x00_04_02
    ∷ bound (run 8 0x00_03_01_82_00_00_00_00) three-one 1 0x00_00_00
    ∷ []

abbrev plain : Lent
plain = house []

-- to this destination, from this unit
abbrev to_it : List ℕ → List ℕ → Answer → Row Sent Answer
to_it from to a = row (sent plain (letter from to 0x01 curtains 0x01 [])) a

-- "Group: its members without the sender; the unit octet is ignored." "Individual destination ..: that unit alone."
abbrev pub addressing : List (Row Sent Answer)
addressing =
    -- from a member, from outside, with another unit octet; a group without members
    to_it three-one to_group-one (goes plain 2 0x00_04_02_00_05_01)
    ∷ to_it four-one to_group-one (goes plain 3 0x00_03_01_00_04_02_00_05_01)
    ∷ to_it four-one (run 3 0x80_01_00) (goes plain 3 0x00_03_01_00_04_02_00_05_01)
    ∷ to_it three-one (run 3 0x80_02_FF) (unchanged plain 2)
    -- a unit, the sender itself, the unit of a device with a group's number
    ∷ to_it three-one (run 3 0x00_05_00) (goes plain 1 0x00_05_00)
    ∷ to_it three-one three-one (goes plain 1 0x00_03_01)
    ∷ to_it three-one (run 3 0x00_01_01) (goes plain 1 0x00_01_01)
    -- addresses of two octets, members in no order
    ∷ row (sent far (letter (run 3 0x7F_FE_FD) (run 3 0x92_34_FF) 0x01 curtains 0x01 [])) (goes far 3 0x00_34_01_12_34_02_7F_FE_FE)
    -- the concentrator as a member, and as the sender
    ∷ row (sent hub_in (letter three-one to_group-one 0x01 curtains 0x01 [])) (goes hub_in 2 0x00_00_00_00_05_01)
    ∷ row (sent hub_in (letter concentrator to_group-one 0x01 curtains 0x01 [])) (goes hub_in 1 0x00_05_01)
    -- the reserved bits of octets 1 and 14, and transport, are ignored
    ∷ row (sent one (run 15 0x80_03_01_7F_FF_FF_AA_BB_07_01_82_00_01_FE_00)) (goes one 1 0x00_04_02)
    -- 256 octets of payload, and 485, the most
    ∷ to_it_with 256
    ∷ to_it_with 485
    ∷ []
  where
    hub_in : Lent
    hub_in = holding devices (filled 48 []) groups (run 5 0x00_01_00_05_01 ++ run 5 0x00_01_00_00_00)

    to_it_with : ℕ → Row Sent Answer
    to_it_with n = row (sent plain (letter three-one (run 3 0x00_05_00) 0x01 curtains 0x01 (replicate n 0x00))) (goes plain 1 0x00_05_00)

-- "the other ten are requests": each is delivered by binds
abbrev pub requests : List (Row Sent Answer)
requests =
    map (λ t. row (sent one (letter three-one to_bind_address t curtains 0x01 [])) (goes one 1 0x00_04_02))
    (0x01 ∷ 0x02 ∷ 0x04 ∷ 0x06 ∷ 0x07 ∷ 0x09 ∷ 0x0B ∷ 0x0C ∷ 0x0E ∷ 0x0F ∷ [])

-- .. and a response goes to one unit, of each of the six types
abbrev pub responses : List (Row Sent Answer)
responses =
    map (λ t. row (sent plain (letter three-one (run 3 0x00_05_00) t curtains 0x01 [])) (goes plain 1 0x00_05_00))
    (0x03 ∷ 0x05 ∷ 0x08 ∷ 0x0A ∷ 0x0D ∷ 0x10 ∷ [])
