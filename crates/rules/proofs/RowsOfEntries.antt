-- Rows: the five Get Bind Entries commands (document 02, request 1; document 000, 6.2.5.9 to 6.2.5.13).
use Rattle.words.specs.Basics.{List, [], ◌∷◌, ◌++◌, map, flat_map, ℕ, zero, suc, ◌+◌, ◌*◌, length, take, drop}
use Rattle.rules.specs.Frame.{Lent}
use Rattle.rules.specs.Calls.{Answer}
use Rattle.rules.proofs.RowsOfBinds.{gone}
use Rattle.rules.proofs.RowsOfSessions.{S3, S4, from}
use Rattle.rules.proofs.Samples.{Row, row, run, lending, with_sessions, in_session_of, devices, groups, members, holding, house, far, plain, a, b, c, d}
use Rattle.rules.proofs.Samples.{e, five}
use Rattle.rules.proofs.Samples.{three-one, four-one, concentrator, bind_management, letter, Sent, told, reply}

-- 0x00, how many, and each as it is stored
abbrev lists : List (List ℕ) → List ℕ
lists es = 0x00 ∷ length es ∷ flat_map (λ x. x) es

-- a read of 3:01 in its session: the table's binds, member, payload, the entries
abbrev read : Lent → ℕ → List ℕ → List (List ℕ) → Row Sent Answer
read L member p es = from three-one member p (in_session_of S3 L) (in_session_of S3 L) (lists es)

-- by index: start index and number

abbrev at : ℕ → List (List ℕ) → Row Sent Answer
at p es = read five 0x09 (run 3 p) es

-- free records before, between and behind are not counted
abbrev holed : Lent
holed = house (gone ++ b ++ gone ++ d ++ e)

abbrev pub by_index : List (Row Sent Answer)
by_index =
    at 0x00_00_05 (a ∷ b ∷ c ∷ d ∷ e ∷ [])
    ∷ at 0x00_00_FF (a ∷ b ∷ c ∷ d ∷ e ∷ [])
    ∷ at 0x00_00_02 (a ∷ b ∷ [])
    ∷ at 0x00_01_01 (b ∷ [])
    ∷ at 0x00_03_02 (d ∷ e ∷ [])
    ∷ at 0x00_04_06 (e ∷ [])
    -- none asked, an index past the end, and both octets of it count
    ∷ at 0x00_00_00 []
    ∷ at 0x00_05_01 []
    ∷ at 0x01_00_05 []
    ∷ at 0x80_00_05 []
    ∷ at 0xFF_FF_FF []
    ∷ read plain 0x09 (run 3 0x00_00_05) []
    ∷ map (λ i. read holed 0x09 (run 2 i ++ 0x02 ∷ []) (take 2 (drop i (b ∷ d ∷ e ∷ [])))) (0 ∷ 1 ∷ 2 ∷ 3 ∷ 4 ∷ [])

-- by address, as a removal by the same octets matches

abbrev any-source : List ℕ
any-source = run 8 0x7F_FF_01_82_00_00_04_02

abbrev with_any : Lent
with_any = house (a ++ any-source ++ run 8 0x00_03_FF_82_00_80_01_00)

abbrev pub by_address : List (Row Sent Answer)
by_address =
    -- source device, its top bit ignored
    read five 0x0A (run 2 0x00_03) (a ∷ b ∷ e ∷ [])
    ∷ read five 0x0A (run 2 0x80_03) (a ∷ b ∷ e ∷ [])
    ∷ read five 0x0A (run 2 0x00_04) (c ∷ d ∷ [])
    ∷ read five 0x0A (run 2 0x00_05) []
    ∷ read five 0x0A (run 2 0x03_00) []
    -- with unit
    ∷ read five 0x0B (run 3 0x00_03_01) (a ∷ e ∷ [])
    ∷ read five 0x0B (run 3 0x80_03_02) (b ∷ [])
    ∷ read five 0x0B (run 3 0x00_03_00) []
    -- destination, its flag counts
    ∷ read five 0x0C (run 2 0x00_04) (a ∷ b ∷ [])
    ∷ read five 0x0C (run 2 0x80_04) []
    ∷ read five 0x0C (run 2 0x00_01) (e ∷ [])
    ∷ read five 0x0C (run 2 0x80_01) (d ∷ [])
    -- with unit, also of a group
    ∷ read five 0x0D (run 3 0x00_04_02) (a ∷ [])
    ∷ read five 0x0D (run 3 0x00_04_00) []
    ∷ read five 0x0D (run 3 0x80_01_00) (d ∷ [])
    ∷ read five 0x0D (run 3 0x80_01_01) []
    -- any is any, and nothing else
    ∷ read with_any 0x0A (run 2 0x7F_FF) (any-source ∷ [])
    ∷ read with_any 0x0A (run 2 0x00_03) (a ∷ run 8 0x00_03_FF_82_00_80_01_00 ∷ [])
    ∷ read with_any 0x0B (run 3 0x00_03_FF) (run 8 0x00_03_FF_82_00_80_01_00 ∷ [])
    ∷ read with_any 0x0B (run 3 0x7F_FF_FF) []
    -- in table order, not in the order of their making; free records are no match, not even of 0xFFFF
    ∷ read (house (e ++ gone ++ b ++ a)) 0x0A (run 2 0x00_03) (e ∷ b ∷ a ∷ [])
    ∷ read holed 0x0C (run 2 0xFF_FF) []
    ∷ []

-- A read without a session

abbrev reads : List (Row ℕ (List ℕ))
reads =
    row 0x09 (run 3 0x00_00_05) ∷ row 0x0A (run 2 0x00_03) ∷ row 0x0B (run 3 0x00_03_01) ∷ row 0x0C (run 2 0x00_04) ∷ row 0x0D (run 3 0x00_04_01) ∷ []

-- .. also one with the same lower octet
abbrev others : Lent
others = in_session_of (run 2 0x12_34) far

abbrev pub without_session : List (Row Sent Answer)
without_session =
    map (λ x. from three-one x.asked x.due five five (0x20 ∷ [])) reads
    -- another device's is none
    ++ map (λ x. from three-one x.asked x.due (in_session_of S4 five) (in_session_of S4 five) (0x20 ∷ [])) reads
    ++ map (λ x. from concentrator x.asked x.due (in_session_of S3 five) (in_session_of S3 five) (0x20 ∷ [])) reads
    ++ map (λ x. from (run 3 0x00_34_00) x.asked x.due others others (0x20 ∷ [])) reads
    -- nor are rights asked: 0x20 and not 0x01
    ++ map (λ x. from four-one x.asked x.due five five (0x20 ∷ [])) reads

-- A session is the device's, and rights are not asked: device 4, whose rights are 0, and another unit of it
abbrev pub within_session : List (Row Sent Answer)
within_session =
    map (λ unit. from unit 0x09 (run 3 0x00_02_01) both both (lists (c ∷ []))) (four-one ∷ run 3 0x00_04_02 ∷ [])
    ++ map (λ unit. from unit 0x0C (run 2 0x80_01) (in_session_of S4 five) (in_session_of S4 five) (lists (d ∷ []))) (four-one ∷ run 3 0x00_04_00 ∷ [])
  where
    both : Lent
    both = in_session_of (S3 ++ S4) five

-- "as many whole ones as a payload of 485 octets holds": sixty of a table of 62

-- binds from 3:01 to 4:02 at the interfaces i, i + 1 ..
abbrev interfaces : ℕ → ℕ → List (List ℕ)
interfaces zero i = []
interfaces (suc n) i = run 8 (0x00_03_01_80_00_00_04_02 + i * 0x01_00_00_00) ∷ interfaces n (suc i)

abbrev sixty-two : Lent
sixty-two = with_sessions S3 (holding devices (flat_map (λ x. x) (interfaces 62 0)) groups members)

abbrev sixty : ℕ → List ℕ → List (List ℕ) → Row Sent Answer
sixty member p es =
    row (record { tables = sixty-two; message = letter three-one concentrator 0x01 bind_management member p; reply = reply; list = lending 198 [] })
    (told 0 (17 + 8 * length es) sixty-two (lending 500
    (run 3 0x00_00_00 ++ three-one ++ run 4 0x00_00_07_03 ++ bind_management ++ member ∷ run 2 (2 + 8 * length es) ++ lists es)) (lending 198 []))

abbrev pub no_more_than_fit : List (Row Sent Answer)
no_more_than_fit =
    sixty 0x09 (run 3 0x00_00_3D) (interfaces 60 0)
    ∷ sixty 0x09 (run 3 0x00_00_80) (interfaces 60 0)
    ∷ sixty 0x09 (run 3 0x00_01_3C) (interfaces 60 1)
    ∷ sixty 0x09 (run 3 0x00_01_3B) (interfaces 59 1)
    ∷ sixty 0x09 (run 3 0x00_3C_FF) (interfaces 2 60)
    ∷ sixty 0x0A (run 2 0x00_03) (interfaces 60 0)
    ∷ sixty 0x0D (run 3 0x00_04_02) (interfaces 60 0)
    ∷ []
