-- Rows: what all commands share, rights, the length of the payload and the server interface (document 01, Commands and codes), each of all eighteen.
use Rattle.words.specs.Basics.{List, [], ◌∷◌, ◌++◌, map, flat_map, ℕ, length, take, drop, replicate}
use Rattle.rules.specs.Frame.{Lent}
use Rattle.rules.specs.Calls.{Answer}
use Rattle.rules.proofs.Samples.{Row, row, run, with_sessions, in_session_of, house, plain, a, five, full_of_binds, full_of_members, three-one, four-one}
use Rattle.rules.proofs.Samples.{concentrator}
use Rattle.rules.proofs.Samples.{bind_management, group_management, letter, Sent, sent, because, unchanged, replied, code, faulty}

-- interface, member and a payload of the right length; the reason that is given where the length is wrong
pub record Given : Type 0 where
  pub interface : List ℕ
  pub member : ℕ
  pub payload : List ℕ
  pub reason : ℕ

abbrev given : List ℕ → ℕ → List ℕ → Given
given i m p = record { interface = i; member = m; payload = p; reason = 0 }

abbrev add_bind_rows : List ℕ → Given
add_bind_rows p = record { interface = bind_management; member = 0x01; payload = p; reason = 1 }

-- those that ask rights
abbrev asking : List Given
asking =
    add_bind_rows (run 8 0x00_03_02_82_00_80_01_00)
    ∷ given bind_management 0x02 a
    ∷ given bind_management 0x03 (run 2 0x00_03)
    ∷ given bind_management 0x04 (run 3 0x00_03_01)
    ∷ given bind_management 0x05 (run 2 0x00_04)
    ∷ given bind_management 0x06 (run 3 0x00_04_01)
    ∷ given bind_management 0x07 []
    ∷ given group_management 0x01 (run 3 0x02_41_42)
    ∷ given group_management 0x02 (run 2 0x00_01)
    ∷ given group_management 0x03 (run 5 0x00_01_00_05_00)
    ∷ given group_management 0x04 (run 5 0x00_01_00_05_01)
    ∷ []

-- .. and those that do not: Get Group Info (document 01), End and the reads (document 000, Tables 48 to 67)
abbrev unasked : List Given
unasked =
    given group_management 0x05 (run 2 0x00_01)
    ∷ given bind_management 0x08 []
    ∷ given bind_management 0x09 (run 3 0x00_00_05)
    ∷ given bind_management 0x0A (run 2 0x00_03)
    ∷ given bind_management 0x0B (run 3 0x00_03_01)
    ∷ given bind_management 0x0C (run 2 0x00_04)
    ∷ given bind_management 0x0D (run 3 0x00_04_01)
    ∷ []

abbrev eighteen : List Given
eighteen = asking ++ unasked

-- "0x02 payload length": one octet too long, one too short; for End and the reads before their session is asked, with one and without
abbrev pub payload-lengths : List (Row Sent Answer)
payload-lengths =
    flat_map (λ L. flat_map (λ g. wrong L g (g.payload ++ 0x00 ∷ []) ∷ shorter L g g.payload) eighteen) (five ∷ in_session_of (run 2 0x00_03) five ∷ [])
  where
    wrong : Lent → Given → List ℕ → Row Sent Answer
    wrong L g p = let x : Row Sent Answer = code 0x02 g.interface g.member L p in row x.asked (because g.reason x.due)

    shorter : Lent → Given → List ℕ → List (Row Sent Answer)
    shorter L g [] = []
    shorter L g (o ∷ p) = wrong L g (take (length p) (o ∷ p)) ∷ []

-- .. before 0xFE: in full tables
abbrev pub length_first : List (Row Sent Answer)
length_first =
    faulty 1 full_of_binds (run 9 0x00_03_01_82_00_00_05_01_00)
    ∷ code 0x02 group_management 0x03 full_of_members (run 6 0x00_01_00_05_00_00)
    ∷ code 0x02 bind_management 0x07 (with_sessions [] five) (0x00 ∷ [])
    ∷ []

-- 18 for a client interface
abbrev pub clients : List (Row Sent Answer)
clients = map (λ g. row (sent five (letter three-one concentrator 0x01 (0x00 ∷ drop 1 g.interface) g.member g.payload)) (unchanged five 18)) eighteen

-- "0x01 sender's rights are 0.": from device 4, also with a payload of a wrong length, which is asked behind it
abbrev pub rights : List (Row Sent Answer)
rights =
    map (λ g. unauthorized g g.payload) asking
    ++ map (λ g. unauthorized g (0x00 ∷ g.payload)) asking
    ++ map (λ g. unauthorized g []) asking
    -- .. and with one that is wrong by the command's own checks
    ++ map (λ p. unauthorized (add_bind_rows []) p) (a ∷ run 8 0x00_03_01_82_00_00_05_02 ∷ [])
    ++ unauthorized (given bind_management 0x02 []) (run 8 0x00_03_01_82_00_00_04_01)
    ∷ unauthorized (given group_management 0x01 []) (0x0E ∷ replicate 14 0x41)
    ∷ unauthorized (given group_management 0x02 []) (run 2 0x00_03)
    ∷ unauthorized (given group_management 0x03 []) (run 5 0x00_01_00_05_01)
    ∷ unauthorized (given group_management 0x04 []) (run 5 0x00_01_00_04_01)
    -- "Not applied to Get Group Info."
    ∷ row (sent plain (letter four-one concentrator 0x01 group_management 0x05 (run 2 0x00_02))) (replied plain four-one group_management 0x05 (run 4 0))
    -- the concentrator's are 1; "Commands of type 0x01 and 0x02 both get it."
    ∷ bound_by concentrator (letter concentrator concentrator 0x01 bind_management 0x01 a)
    ∷ bound_by three-one (letter three-one concentrator 0x02 bind_management 0x01 a)
    -- reserved bits and transport are ignored, and 0 in the reply
    ∷ bound_by three-one (run 15 0x80_03_01_00_00_00_AA_BB_07_01_80_02_01_FE_08 ++ a)
    ∷ []
  where
    unauthorized : Given → List ℕ → Row Sent Answer
    unauthorized g p =
        row (sent five (letter four-one concentrator 0x01 g.interface g.member p)) (replied five four-one g.interface g.member (0x01 ∷ []))

    bound_by : List ℕ → List ℕ → Row Sent Answer
    bound_by from m = row (sent plain m) (replied (house a) from bind_management 0x01 (0x00 ∷ []))
