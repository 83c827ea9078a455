-- Rows: units with gaps in their numbers, and old tables carried over (document 02, request 2).
use Rattle.words.specs.Basics.{Bool, true, false, List, [], ◌∷◌, ◌++◌, map, ℕ, zero, suc, ◌+◌, ◌*◌, ◌/◌, ◌%◌, replicate}
use Rattle.words.specs.Names.{device}
use Rattle.words.proofs.Apart.{read_back}
use Rattle.rules.specs.Frame.{Lent}
use Rattle.rules.specs.Calls.{Answer}
use Rattle.rules.specs.Carry.{CarryAnswer, carry_answer, carried_over}
use Rattle.rules.specs.History.{Call, admits, releases, history, existing}
use Rattle.rules.proofs.Samples.{Row, row, run, lending, filled, units, only_zero, zero-to_one, zero_to_254, valance, valance-without-zero, with_255}
use Rattle.rules.proofs.Samples.{known, device-table, D3, named, holding}
use Rattle.rules.proofs.Samples.{three-one, curtains, bind_management, group_management, letter, request, Sent, sent, unchanged, goes, grants, code}
use Rattle.rules.proofs.Samples.{faulty}

-- A house with gaps: device 3, with rights, has units 0 to 2; device 6, the valance, has 0, 1, 2 and 9; device 7 has 0, 7, 8, 16, 100, 248 and 254

abbrev edges : List ℕ
edges = 0x81 ∷ 0x01 ∷ 0x01 ∷ replicate 9 0x00 ++ 0x10 ∷ replicate 18 0x00 ++ 0x41 ∷ []

abbrev with_gaps : List ℕ → List ℕ → Lent
with_gaps bs ms = holding (D3 ++ known 6 0 valance ++ known 7 0 edges) (filled 8 bs) (named 1 []) (filled 5 ms)

abbrev gaps : Lent
gaps = with_gaps [] []

-- units that are there, and neighbours of theirs that are not: one below, one above, eight on, mirrored in their octet; a unit of the other device; 255

abbrev there : List ℕ
there =
    0x00_06_00 ∷ 0x00_06_01 ∷ 0x00_06_02 ∷ 0x00_06_09 ∷ 0x00_07_00 ∷ 0x00_07_07 ∷ 0x00_07_08 ∷ 0x00_07_10 ∷ 0x00_07_64 ∷ 0x00_07_F8
    ∷ 0x00_07_FE ∷ []

abbrev absent : List ℕ
absent =
    0x00_06_03 ∷ 0x00_06_05 ∷ 0x00_06_06 ∷ 0x00_06_07 ∷ 0x00_06_08 ∷ 0x00_06_0A ∷ 0x00_06_0E ∷ 0x00_06_11 ∷ 0x00_06_10 ∷ 0x00_06_F8 ∷ 0x00_06_FF
    ∷ 0x00_07_01 ∷ 0x00_07_02 ∷ 0x00_07_06 ∷ 0x00_07_09 ∷ 0x00_07_0F ∷ 0x00_07_11 ∷ 0x00_07_18 ∷ 0x00_07_5C ∷ 0x00_07_63 ∷ 0x00_07_65 ∷ 0x00_07_6C
    ∷ 0x00_07_F0 ∷ 0x00_07_F9 ∷ 0x00_07_FD ∷ 0x00_07_FF ∷ []

-- as senders, and as destinations
abbrev pub units_with_gaps : List (Row Sent Answer)
units_with_gaps =
    map (λ u. row (sent gaps (request (run 3 u) curtains)) (unchanged gaps 2)) there
    ++ map (λ u. row (sent gaps (request (run 3 u) curtains)) (unchanged gaps 13)) absent
    ++ map (λ u. row (sent gaps (letter three-one (run 3 u) 0x01 curtains 0x01 [])) (goes gaps 1 u)) there
    ++ map (λ u. row (sent gaps (letter three-one (run 3 u) 0x01 curtains 0x01 [])) (unchanged gaps 14)) absent

-- in binds and groups: 0x00 for unit 9 of the valance, 0x02 for unit 8 and for unit 7, which device 7 has; a bind that was made is followed; a bind or a
-- member in the tables with a unit in a gap makes them not sound
abbrev pub gaps_in_commands : List (Row Sent Answer)
gaps_in_commands =
    grants bind_management 0x01 to_nine gaps (with_gaps to_nine [])
    ∷ grants bind_management 0x01 from_nine gaps (with_gaps from_nine [])
    ∷ map (λ b. faulty 6 gaps (run 8 b)) (0x00_03_01_82_00_00_06_08 ∷ 0x00_03_01_82_00_00_06_07 ∷ [])
    ++ map (λ b. faulty 3 gaps (run 8 b)) (0x00_06_08_82_00_00_03_01 ∷ 0x00_06_0A_82_00_00_03_01 ∷ [])
    ++ grants group_management 0x03 member_nine gaps (with_gaps [] member_nine)
    ∷ code 0x02 group_management 0x03 gaps (run 5 0x00_01_00_06_08)
    ∷ row (sent (with_gaps to_nine []) (request three-one curtains)) (goes (with_gaps to_nine []) 1 0x00_06_09)
    ∷ row (sent (with_gaps from_nine []) (request (run 3 0x00_06_09) curtains)) (goes (with_gaps from_nine []) 1 0x00_03_01)
    ∷ map (λ L. row (sent L (request three-one curtains)) (unchanged L 16))
    (with_gaps (run 8 0x00_03_01_82_00_00_06_08) [] ∷ with_gaps (run 8 0x00_06_0A_82_00_00_03_01) [] ∷ with_gaps [] (run 5 0x00_01_00_06_08) ∷ [])
  where
    to_nine : List ℕ
    to_nine = run 8 0x00_03_01_82_00_00_06_09

    from_nine : List ℕ
    from_nine = run 8 0x00_06_09_82_00_00_03_01

    member_nine : List ℕ
    member_nine = run 5 0x00_01_00_06_09

-- By history, and in its runs

-- a unit, after these calls from free tables: the latest call stands first
pub record Asked : Type 0 where
  pub calls : List Call
  pub unit : ℕ

abbrev asked : List Call → ℕ → Asked
asked cs u = record { calls = cs; unit = u }

abbrev pub exists_after : Asked → Bool
exists_after x = existing (history free_tables_lem x.calls) (device (x.unit / 256)) (x.unit % 256)
  where
    free_tables_lem : Lent
    free_tables_lem = holding (device-table 2 []) (filled 8 []) (filled 16 []) (filled 5 [])

abbrev admitted : List Call
admitted = admits (device 6) 0 valance ∷ []

abbrev pub existing_by_history : List (Row Asked Bool)
existing_by_history =
    map (λ u. row (asked admitted u) true) (0x00_06_00 ∷ 0x00_06_01 ∷ 0x00_06_02 ∷ 0x00_06_09 ∷ 0x00_00_00 ∷ [])
    ++ map (λ u. row (asked admitted u) false) (0x00_06_03 ∷ 0x00_06_08 ∷ 0x00_06_0A ∷ 0x00_06_FF ∷ 0x00_07_00 ∷ 0x00_00_01 ∷ [])
    -- released; released and admitted with another set; refused, since unit 0 is not set
    ++ row (asked (releases (device 6) ∷ admitted) 0x00_06_09) false
    ∷ row (asked (admits (device 6) 0 zero-to_one ∷ releases (device 6) ∷ admitted) 0x00_06_01) true
    ∷ row (asked (admits (device 6) 0 zero-to_one ∷ releases (device 6) ∷ admitted) 0x00_06_09) false
    ∷ row (asked (admits (device 6) 0 valance-without-zero ∷ []) 0x00_06_09) false
    ∷ []

-- condition 3 speaks of every set of 32 octets, in range or not, and of no other list
abbrev pub sets_of_a-run : List (Row Call Bool)
sets_of_a-run =
    map (λ us. row (admits (device 6) 0 us) true) (valance ∷ edges ∷ zero_to_254 ∷ valance-without-zero ∷ with_255 ∷ [])
    ++ map (λ us. row (admits (device 6) 0 us) false) ((0x07 ∷ replicate 30 0x00) ∷ (0x07 ∷ replicate 32 0x00) ∷ units (0x100 ∷ []) ∷ [])

-- Old tables carried over

pub record CarryingOver : Type 0 where
  pub old : List ℕ
  pub new : List ℕ

abbrev pub carry_of : CarryingOver → CarryAnswer
carry_of x = carried_over x.old x.new

-- into a table of n octets: the outcome's number, and what the table then holds
abbrev into : List ℕ → ℕ → ℕ → List ℕ → Row CarryingOver CarryAnswer
into old n number octets = row (record { old = old; new = lending n [] }) (carry_answer (read_back number 0) octets)

-- one device
abbrev carries : ℕ → List ℕ → Row CarryingOver CarryAnswer
carries old new = into (run 4 old) 36 0 new

-- refused, and no octet written
abbrev refuses : List ℕ → ℕ → ℕ → Row CarryingOver CarryAnswer
refuses old n number = into old n number (lending n [])

-- a table of these devices that is not sound, and a new one of the length that would do
abbrev unsound : ℕ → List ℕ → Row CarryingOver CarryAnswer
unsound n old = refuses old (36 * n) 16

abbrev pub carried-over : List (Row CarryingOver CarryAnswer)
carried-over =
    -- units 0 to the highest, which is 0, 1, 7, 8, 9, 100, 127, 128, 253 and 254; addresses of two octets
    carries 0x00_03_01_00 (known 3 1 only_zero)
    ∷ carries 0x00_05_00_01 (known 5 0 zero-to_one)
    ∷ carries 0x00_05_00_07 (known 5 0 (units (0xFF ∷ [])))
    ∷ carries 0x00_05_00_08 (known 5 0 (units (0xFF ∷ 0x01 ∷ [])))
    ∷ carries 0x00_05_00_09 (known 5 0 (units (0xFF ∷ 0x03 ∷ [])))
    ∷ carries 0x00_05_00_64 (known 5 0 (units (replicate 12 0xFF ++ 0x1F ∷ [])))
    ∷ carries 0x00_05_00_7F (known 5 0 (units (replicate 16 0xFF)))
    ∷ carries 0x00_05_00_80 (known 5 0 (units (replicate 16 0xFF ++ 0x01 ∷ [])))
    ∷ carries 0x12_34_00_FD (known 0x1234 0 (replicate 31 0xFF ++ 0x3F ∷ []))
    ∷ carries 0x7F_FE_01_FE (known 0x7FFE 1 zero_to_254)
    -- record by record, and free ones free; no record; 64 free ones, and 64 used ones
    ∷ into (filled 4 [] ++ run 4 0x00_03_01_02 ++ filled 4 [] ++ run 4 0x00_01_00_01) 144
    0 (device-table 1 [] ++ D3 ++ device-table 1 [] ++ known 1 0 zero-to_one)
    ∷ into [] 0 0 []
    ∷ into (filled 256 []) 2304 0 (device-table 64 [])
    ∷ into (old_devices 64) 2304 0 (new-devices 64)
    ∷ []
  where
    old_devices : ℕ → List ℕ
    old_devices zero = []
    old_devices (suc n) = old_devices n ++ run 4 (0x00_01_00_01 + n * 0x1_00_00)

    new-devices : ℕ → List ℕ
    new-devices zero = []
    new-devices (suc n) = new-devices n ++ known (1 + n) 0 zero-to_one

abbrev pub not_carried : List (Row CarryingOver CarryAnswer)
not_carried =
    -- 16: one octet more, one record more than the limit
    refuses (run 4 0x00_03_01_02 ++ 0xFF ∷ []) 45 16
    ∷ unsound 65 (filled 260 [])
    -- D'0000, D'7FFF, the top bit; rights 2; highest unit 255; not free; an address twice
    ∷ map (λ r. unsound 1 (run 4 r)) (0x00_00_01_02 ∷ 0x7F_FF_01_02 ∷ 0x80_03_01_02 ∷ 0x00_03_02_02 ∷ 0x00_03_01_FF ∷ 0xFF_FF_FF_FE ∷ [])
    ++ unsound 3 (run 4 0x00_03_01_02 ++ filled 4 [] ++ run 4 0x00_03_00_01)
    -- 17: one octet less and one more, none, as many as the old one, ten times as many; one where there should be none
    ∷ map (λ n. refuses (run 4 0x00_03_01_02) n 17) (35 ∷ 37 ∷ 0 ∷ 4 ∷ 40 ∷ [])
    ++ refuses [] 1 17
    -- 16 before 17
    ∷ refuses (run 4 0x00_03_02_02) 35 16
    ∷ []
