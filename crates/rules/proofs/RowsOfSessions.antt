-- Rows: read sessions (document 02, request 1; document 000, 6.2.5.7 and 6.2.5.8), opened, ended, and closed by what changes the binds.
use Rattle.words.specs.Basics.{List, [], ◌∷◌, ◌++◌, map, ℕ}
use Rattle.rules.specs.Frame.{Lent}
use Rattle.rules.specs.Calls.{Answer}
use Rattle.rules.specs.Host.{HostAnswer}
use Rattle.rules.proofs.RowsOfBinds.{gone}
use Rattle.rules.proofs.RowsOfCalls.{hosted, Admitting, admitting, not-admitted, Releasing, releasing, not-released}
use Rattle.rules.proofs.Samples.{Row, row, run, filled, zero_to_two, zero_to_254, device-table, D1, D3, D4, D5, known, devices, named, groups, members}
use Rattle.rules.proofs.Samples.{with_sessions}
use Rattle.rules.proofs.Samples.{in_session_of, session_table, holding, house, far, plain, a, b, c, d, e, five, three-one, four-one, concentrator}
use Rattle.rules.proofs.Samples.{curtains}
use Rattle.rules.proofs.Samples.{bind_management, group_management, letter, request, Sent, sent, unchanged, goes, replied, command, code, faulty}

-- sessions of devices 1, 3, 4, 5 and of the concentrator; a free record

abbrev S1 : List ℕ
S1 = run 2 0x00_01

abbrev pub S3 : List ℕ
S3 = run 2 0x00_03

abbrev pub S4 : List ℕ
S4 = run 2 0x00_04

abbrev S5 : List ℕ
S5 = run 2 0x00_05

abbrev S0 : List ℕ
S0 = run 2 0x00_00

abbrev none : List ℕ
none = filled 2 []

-- a command of Bind Management from this unit
abbrev pub from : List ℕ → ℕ → List ℕ → Lent → Lent → List ℕ → Row Sent Answer
from unit member p before after answer =
    row (sent before (letter unit concentrator 0x01 bind_management member p)) (replied after unit bind_management member answer)

-- Start

-- from 3:01: the sessions before and after it, on these tables, and what is answered
abbrev starts : Lent → List ℕ → List ℕ → List ℕ → Row Sent Answer
starts L before after answer = from three-one 0x07 [] (with_sessions before L) (with_sessions after L) answer

abbrev pub start_session_rows : List (Row Sent Answer)
start_session_rows =
    -- the first free record, and the number of binds that are used
    starts five (session_table []) (session_table S3) (run 3 0x00_00_05)
    ∷ starts plain (session_table []) (session_table S3) (run 3 0x00_00_00)
    ∷ starts (house (gone ++ b ++ gone ++ d)) (session_table []) (session_table S3) (run 3 0x00_00_02)
    ∷ starts five (none ++ S4 ++ none) (S3 ++ S4 ++ none) (run 3 0x00_00_05)
    ∷ starts five (S1 ++ S4 ++ none) (S1 ++ S4 ++ S3) (run 3 0x00_00_05)
    -- a second one changes no octet, also where no record is free
    ∷ starts five (S4 ++ S3 ++ none) (S4 ++ S3 ++ none) (run 3 0x00_00_05)
    ∷ starts five (none ++ S3 ++ none) (none ++ S3 ++ none) (run 3 0x00_00_05)
    ∷ starts five (S1 ++ S4 ++ S3) (S1 ++ S4 ++ S3) (run 3 0x00_00_05)
    -- "0xFE at Start exactly when no session record is free and the device has none"
    ∷ starts five (S1 ++ S4 ++ S5) (S1 ++ S4 ++ S5) (0xFE ∷ [])
    ∷ starts five [] [] (0xFE ∷ [])
    ∷ starts five S3 S3 (run 3 0x00_00_05)
    -- from another unit of the device, and from the concentrator
    ∷ from (run 3 0x00_03_02) 0x07 [] five (in_session_of S3 five) (run 3 0x00_00_05)
    ∷ from (run 3 0x00_03_02) 0x07 [] (in_session_of S3 five) (in_session_of S3 five) (run 3 0x00_00_05)
    ∷ from concentrator 0x07 [] (in_session_of S3 five) (in_session_of (S3 ++ S0) five) (run 3 0x00_00_05)
    -- rights are asked, also of who has a session, and before 0xFE
    ∷ from four-one 0x07 [] five five (0x01 ∷ [])
    ∷ from four-one 0x07 [] (in_session_of S4 five) (in_session_of S4 five) (0x01 ∷ [])
    ∷ from four-one 0x07 [] (with_sessions S1 five) (with_sessions S1 five) (0x01 ∷ [])
    -- an address of two octets
    ∷ from (run 3 0x7F_FE_00) 0x07 [] far (in_session_of (run 2 0x7F_FE) far) (run 3 0x00_00_00)
    -- as type 0x02
    ∷ row (sent five (letter three-one concentrator 0x02 bind_management 0x07 []))
    (replied (in_session_of S3 five) three-one bind_management 0x07 (run 3 0x00_00_05))
    ∷ []

-- End

abbrev pub end_session_rows : List (Row Sent Answer)
end_session_rows =
    -- its own record becomes free, and no other
    from three-one 0x08 [] (in_session_of S3 five) five (0x00 ∷ [])
    ∷ from three-one 0x08 [] (in_session_of (S4 ++ S3 ++ S1) five) (in_session_of (S4 ++ none ++ S1) five) (0x00 ∷ [])
    ∷ from (run 3 0x00_03_02) 0x08 [] (in_session_of (S3 ++ S4) five) (in_session_of (none ++ S4) five) (0x00 ∷ [])
    ∷ from concentrator 0x08 [] (in_session_of (S3 ++ S0) five) (in_session_of S3 five) (0x00 ∷ [])
    -- rights are not asked
    ∷ from four-one 0x08 [] (in_session_of S4 five) five (0x00 ∷ [])
    -- of two addresses with one lower octet
    ∷ from (run 3 0x12_34_00) 0x08 [] (in_session_of (run 2 0x00_34 ++ run 2 0x12_34) far) (in_session_of (run 2 0x00_34) far) (0x00 ∷ [])
    ∷ from (run 3 0x12_34_00) 0x08 [] (in_session_of (run 2 0x00_34) far) (in_session_of (run 2 0x00_34) far) (0xFF ∷ [])
    -- without one: 0xFF
    ∷ from three-one 0x08 [] five five (0xFF ∷ [])
    ∷ from three-one 0x08 [] (in_session_of (S4 ++ S1) five) (in_session_of (S4 ++ S1) five) (0xFF ∷ [])
    ∷ from concentrator 0x08 [] (in_session_of S3 five) (in_session_of S3 five) (0xFF ∷ [])
    ∷ from four-one 0x08 [] five five (0xFF ∷ [])
    ∷ []

-- "any change to the bind table closes all sessions": devices 3 and 4 read while 3:01 commands

abbrev both : Lent → Lent
both L = in_session_of (S3 ++ S4) L

-- granted, and all are closed, or none

abbrev closes : List ℕ → ℕ → List ℕ → Lent → Lent → Row Sent Answer
closes interface member p before after = command interface member p (both before) after (0x00 ∷ [])

abbrev leaves : List ℕ → ℕ → List ℕ → Lent → Lent → List ℕ → Row Sent Answer
leaves interface member p before after answer = command interface member p (both before) (both after) answer

-- answered with a code
abbrev refused : ℕ → List ℕ → ℕ → List ℕ → Row Sent Answer
refused answer interface member p = code answer interface member (both five) p

abbrev pub closings : List (Row Sent Answer)
closings =
    closes bind_management 0x01 a plain (house a)
    ∷ closes bind_management 0x02 a five (house (gone ++ b ++ c ++ d ++ e))
    ∷ closes bind_management 0x03 (run 2 0x00_04) five (house (a ++ b ++ gone ++ gone ++ e))
    ∷ closes bind_management 0x04 (run 3 0x00_03_02) five (house (a ++ gone ++ c ++ d ++ e))
    ∷ closes bind_management 0x05 (run 2 0x80_01) five (house (a ++ b ++ c ++ gone ++ e))
    ∷ closes bind_management 0x06 (run 3 0x00_05_01) five (house (a ++ b ++ gone ++ d ++ e))
    -- Delete Group, where a bind to the group was there
    ∷ closes group_management 0x02 (run 2 0x00_01) (house d) (holding devices (filled 48 []) (filled 48 (gone ++ gone ++ named 2 [])) (filled 20 []))
    ∷ leaves group_management 0x02 (run 2 0x00_02) five
    (holding devices (filled 48 (a ++ b ++ c ++ d ++ e)) (filled 48 (named 1 (0x53 ∷ []))) members) (0x00 ∷ [])
    ∷ leaves group_management 0x02 (run 2 0x00_01) (house (a ++ e))
    (holding devices (filled 48 (a ++ e)) (filled 48 (gone ++ gone ++ named 2 [])) (filled 20 [])) (0x00 ∷ [])
    -- what changes no bind leaves all
    ∷ leaves group_management 0x01 (run 2 0x01_41) five
    (holding devices (filled 48 (a ++ b ++ c ++ d ++ e)) (named 1 (0x53 ∷ []) ++ named 2 [] ++ named 3 (0x41 ∷ [])) members) (run 3 0x00_00_03)
    ∷ leaves group_management 0x03 (run 5 0x00_02_00_05_01) five
    (holding devices (filled 48 (a ++ b ++ c ++ d ++ e)) groups
    (run 5 0x00_01_00_05_01 ++ run 5 0x00_01_00_04_02 ++ run 5 0x00_01_00_03_01 ++ run 5 0x00_02_00_05_01)) (0x00 ∷ [])
    ∷ leaves group_management 0x04 (run 5 0x00_01_00_05_01) five
    (holding devices (filled 48 (a ++ b ++ c ++ d ++ e)) groups (filled 5 [] ++ run 5 0x00_01_00_04_02 ++ run 5 0x00_01_00_03_01 ++ filled 5 [])) (0x00 ∷ [])
    ∷ leaves group_management 0x05 (run 2 0x00_02) five five (run 4 0)
    ∷ leaves bind_management 0x0A (run 2 0x00_05) five five (run 2 0x00_00)
    ∷ leaves bind_management 0x07 [] five five (run 3 0x00_00_05)
    -- nor does a command that is refused, nor a message that is handed on
    ∷ faulty 9 (both five) a
    ∷ refused 0x02 bind_management 0x02 (run 8 0x00_03_01_82_00_00_04_01)
    ∷ refused 0x02 bind_management 0x03 (run 2 0x00_05)
    ∷ refused 0x02 bind_management 0x05 (run 2 0x00_03)
    ∷ refused 0x02 group_management 0x02 (run 2 0x00_03)
    ∷ row (sent (both five) (letter four-one concentrator 0x01 bind_management 0x02 a)) (replied (both five) four-one bind_management 0x02 (0x01 ∷ []))
    ∷ row (sent (both five) (request four-one curtains)) (goes (both five) 1 0x00_05_01)
    ∷ []

-- "a release closes that device's": all where a bind named it, else its own alone

abbrev without-five : List ℕ → List ℕ → Lent
without-five bs ss =
    with_sessions ss (holding (device-table 5 (D1 ++ D3 ++ D4)) (filled 48 bs) groups
    (filled 5 [] ++ run 5 0x00_01_00_04_02 ++ run 5 0x00_01_00_03_01 ++ filled 5 []))

abbrev five_with : List ℕ → List ℕ → Lent
five_with bs ss = with_sessions ss (house bs)

abbrev releases : List ℕ → List ℕ → List ℕ → List ℕ → Row Releasing HostAnswer
releases before ss after rest = row (releasing (five_with before ss) 5) (hosted 0 (without-five after rest))

abbrev pub released-sessions : List (Row Releasing HostAnswer)
released-sessions =
    releases (a ++ d) (S3 ++ S5 ++ S4) (a ++ d) (S3 ++ none ++ S4)
    ∷ releases [] (S5 ++ none ++ S0) [] (none ++ none ++ S0)
    ∷ releases (a ++ d) (S3 ++ S4 ++ none) (a ++ d) (S3 ++ S4 ++ none)
    -- a bind to it, a bind from it
    ∷ releases (a ++ c) (S3 ++ S5 ++ S4) a (session_table [])
    ∷ releases (a ++ c) (S3 ++ S4 ++ S0) a (session_table [])
    ∷ releases (run 8 0x00_05_01_82_00_80_01_00 ++ a) (S3 ++ S4 ++ S1) (gone ++ a) (session_table [])
    -- of two addresses with one lower octet
    ∷ row (releasing (in_session_of (run 2 0x00_34 ++ run 2 0x12_34) far) 0x0034)
    (hosted 0 (in_session_of (none ++ run 2 0x12_34) (holding (known 0x7FFE 1 zero_to_254 ++ known 0x1234 0 zero_to_two ++ device-table 1 []) (filled 16 [])
    far.groups (run 5 0x12_34_12_34_02 ++ filled 5 [] ++ run 5 0x12_34_7F_FE_FE ++ filled 5 []))))
    -- 23: nothing changes
    ∷ not-released (five_with a (S3 ++ S4)) 6 23
    ∷ []

-- "One lent record per reading device .. (device address, 2 octets, at most 8, free ones 0xFF, none twice, each admitted or D'0000)"

-- a device's session twice, also behind a free record and of the concentrator; no such device, one with the top bit, D'7FFF; half a record; nine records
abbrev unsound : List Lent
unsound =
    map (λ ss. with_sessions ss plain)
    ((S3 ++ S3) ∷ (S3 ++ none ++ S3) ∷ (S0 ++ S0) ∷ run 2 0x00_02 ∷ run 2 0x80_03 ∷ run 2 0x7F_FF ∷ run 2 0xFF_00 ∷ run 2 0x00_FF ∷ (S3 ++ 0xFF ∷ [])
    ∷ (0x00 ∷ []) ∷ filled 18 S3 ∷ filled 18 [] ∷ [])

abbrev pub unsound-sessions : List (Row Sent Answer)
unsound-sessions = map (λ L. row (sent L (request three-one curtains)) (unchanged L 16)) unsound

abbrev pub not-admitted-unsound : List (Row Admitting HostAnswer)
not-admitted-unsound = map (λ L. not-admitted L 6 1 zero_to_two 16) unsound

abbrev pub not-released-unsound : List (Row Releasing HostAnswer)
not-released-unsound = map (λ L. not-released L 3 16) unsound

-- sound: no record at all, eight of them, each of a device that is there or of the concentrator
abbrev pub sound-sessions : List (Row Sent Answer)
sound-sessions =
    map (λ ss. row (sent (with_sessions ss plain) (request three-one curtains)) (unchanged (with_sessions ss plain) 2))
    ([] ∷ none ∷ filled 16 (S1 ++ S3 ++ S4 ++ S5 ++ S0) ∷ (none ++ S0 ++ none ++ S5) ∷ [])

-- admit leaves them
abbrev pub admitted-sessions : List (Row Admitting HostAnswer)
admitted-sessions =
    row (admitting (both plain) 6 0 zero_to_two)
    (hosted 0 (both (holding (D1 ++ D3 ++ D4 ++ D5 ++ known 6 0 zero_to_two) (filled 48 []) groups members)))
    ∷ []
