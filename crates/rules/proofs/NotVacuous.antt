-- Condition 3 speaks of something: the run of docs/HISTORY.md, with both binds and both members in it, meets all that it asks, and this is what it then
-- says of that run; and so of what is read back. A condition that no run could meet, or a request that nobody could send, would have no proof here.
use Rattle.std.specs.Prelude.{Some, Ok}
use Rattle.words.specs.Basics.{◌≡◌, refl, sym, Bool, true, false, not, ◌&&◌, ◌||◌, List, [], ◌∷◌, ◌++◌, flat_map, ℕ, arith, eqb, ne_eqb, eqb-true, eqb-false}
use Rattle.words.specs.Names.{device}
use Rattle.rules.specs.Types.{StartSession, GetEntries, Filter, Index, Part, Source, GetGroupInfo, Forwarded}
use Rattle.rules.specs.Lists.{all}
use Rattle.rules.specs.Message.{fields}
use Rattle.rules.specs.Payloads.{command}
use Rattle.rules.specs.Octets.{octet_string, over}
use Rattle.rules.specs.Units.{three_octets, unit_octets}
use Rattle.rules.specs.Calls.{roomy, message, answer, forwarded}
use Rattle.rules.specs.History.{Call, sends, admits, said, after, Event, history, octets_only, granted, free_tables, Request, Exactly, member_count}
use Rattle.rules.specs.Tables.{Rec}
use Rattle.rules.specs.Sheet.{bind_count, entries_read, NoStart}
use Rattle.rules.proofs.Lists.{and-false}
use Rattle.rules.proofs.Whole.{whole}
use Rattle.rules.proofs.Condition3.{condition3}
use Rattle.rules.proofs.Samples.{run, lending, zero_to_two, valance, three-one, four-one, concentrator, curtains, bind_management, group_management}
use Rattle.rules.proofs.Samples.{letter, request, reply}
use Rattle.rules.proofs.Worked.{Line, list, asked, A, B, start, linking}

-- the calls to the place where both binds and both members stand, the latest first, and their history

unfoldable pub calls : List Call
calls = reversed [] linking
  where
    reversed : List Call → List Line → List Call
    reversed cs [] = cs
    reversed cs (x ∷ xs) = reversed (x.call ∷ cs) xs

abbrev pub events : List Event
events = history start calls

-- 4:02 and 5:01, each as one number
abbrev both : List ℕ
both = 0x00_04_02 ∷ 0x00_05_01 ∷ []

-- Get Group Info of group 1, from 4:01
abbrev info : List ℕ
info = letter four-one concentrator 0x01 group_management 0x05 (run 2 0x00_01)

-- The hypotheses

pub record Meets : Type 0 where
  -- of `Condition3`
  pub free : free_tables start ≡ true
  pub octets : all octets_only calls ≡ true
  -- of `delivered`
  pub request : Request events asked
  pub room : roomy start.binds start.members reply list ≡ true
  pub exactly : Exactly events (fields asked) both
  -- of `counts`
  pub info-octets : octet_string info ≡ true
  pub asks : command (fields info) ≡ Some GetGroupInfo
  pub granted : granted (sends info reply list) (said (after start calls) (sends info reply list)) ≡ true

-- 4:02 by the bind A and by the group of B, 5:01 by the group alone; 3:01, the sender, by none
linked-both : (u : ℕ) → (eqb u 0x00_04_02 || (eqb u 0x00_05_01 || false))
    ≡ (not (eqb u 0x00_03_01) && ((eqb 0x00_05_01 u || (eqb 0x00_04_02 u || false)) || (eqb 0x00_04_02 u || false)))
linked-both u = step (eqb u 0x00_04_02) (eqb u 0x00_05_01) refl refl
  where
    step : (a b : Bool) → eqb u 0x00_04_02 ≡ a → eqb u 0x00_05_01 ≡ b → (eqb u 0x00_04_02 || (eqb u 0x00_05_01 || false))
        ≡ (not (eqb u 0x00_03_01) && ((eqb 0x00_05_01 u || (eqb 0x00_04_02 u || false)) || (eqb 0x00_04_02 u || false)))
    step true b e f = rw (eqb-true u 0x00_04_02 e) refl
    step false true e f = rw (eqb-true u 0x00_05_01 f) refl
    step false false e f =
        rw (e, f, ne_eqb 0x00_05_01 u (λ z. eqb-false u 0x00_05_01 f (sym z)), ne_eqb 0x00_04_02 u (λ z. eqb-false u 0x00_04_02 e (sym z)))
        (sym (and-false (not (eqb u 0x00_03_01))))

pub meets : Meets
unfolding whole calls
meets = record {
  free = refl;
  octets = refl;
  request = record { octets = refl; length = refl; told_length = refl; type = refl; request = refl; sent = refl; to_bind_address = refl };
  room = refl;
  exactly = record { order = refl; exact = linked-both };
  info-octets = refl;
  asks = refl;
  granted = refl;
}

-- What condition 3 then says

-- the request goes to 4:02 and 5:01, no octet of the tables and of the reply changes, and of the list only six
pub delivers : message (after start calls) asked reply list ≡ answer (Ok (Forwarded 2)) (after start calls) reply (lending 12 (run 6 0x00_04_02_00_05_01))
unfolding flat_map forwarded over unit_octets three_octets
delivers = (condition3 start meets.free calls meets.octets).delivered asked reply list both meets.request meets.room meets.exactly

-- Get Group Info counts the two members
pub counts-two : member_count (said (after start calls) (sends info reply list)) ≡ 2
unfolding whole calls
counts-two = (condition3 start meets.free calls meets.octets).counts info reply list meets.info-octets meets.asks meets.granted

-- Further runs, each with a request that goes to one unit

-- what condition 3 asks of these calls, of this request, and that the request goes to u
pub record MeetsOne (cs : List Call) (m : List ℕ) (u : ℕ) : Type 0 where
  pub octets : all octets_only cs ≡ true
  pub request : Request (history start cs) m
  pub exactly : Exactly (history start cs) (fields m) (u ∷ [])

-- u alone is linked, and is not the sender s
linked-one : (s u : ℕ) → eqb u s ≡ false → (v : ℕ) → (eqb v u || false) ≡ (not (eqb v s) && (eqb u v || false))
linked-one s u n v = step (eqb v u) refl
  where
    step : (w : Bool) → eqb v u ≡ w → (eqb v u || false) ≡ (not (eqb v s) && (eqb u v || false))
    step true e = rw (eqb-true v u e, n) refl
    step false e = rw (e, ne_eqb u v (λ z. eqb-false v u e (sym z))) (sym (and-false (not (eqb v s))))

-- then that unit is listed, and nothing else changes
delivers_one : (cs : List Call) (m : List ℕ) (u : ℕ) → MeetsOne cs m u
    → message (after start cs) m reply list ≡ answer (Ok (Forwarded 1)) (after start cs) reply (over (three_octets u) list)
unfolding flat_map forwarded unit_octets three_octets
delivers_one cs m u w = (condition3 start meets.free cs w.octets).delivered m reply list (u ∷ []) w.request meets.room w.exactly

-- Units with gaps: 3:01 and the valance are admitted, the valance's unit 9 is bound to 3:01, and sends

abbrev with_valance : List Call
with_valance =
    sends (letter three-one concentrator 0x01 bind_management 0x01 (run 8 0x00_06_09_82_00_00_03_01)) reply list
    ∷ admits (device 6) 0 valance
    ∷ admits (device 3) 1 zero_to_two
    ∷ []

abbrev from_nine : List ℕ
from_nine = request (run 3 0x00_06_09) curtains

pub meets_with_gaps : MeetsOne with_valance from_nine 0x00_03_01
unfolding whole
meets_with_gaps = record {
  octets = refl;
  request = record { octets = refl; length = refl; told_length = refl; type = refl; request = refl; sent = refl; to_bind_address = refl };
  exactly = record { order = refl; exact = linked-one 0x00_06_09 0x00_03_01 refl };
}

-- the request goes to 3:01
pub delivers_with_gaps : message (after start with_valance) from_nine reply list
    ≡ answer (Ok (Forwarded 1)) (after start with_valance) reply (lending 12 (run 3 0x00_03_01))
unfolding over three_octets
delivers_with_gaps = delivers_one with_valance from_nine 0x00_03_01 meets_with_gaps

-- A scene switch: any device, any unit and any interface are bound to 3:01; then the valance is admitted, and its unit 9 sends at an interface that no
-- bind names

abbrev with_scene : List Call
with_scene =
    admits (device 6) 0 valance
    ∷ sends (letter three-one concentrator 0x01 bind_management 0x01 (run 8 0x7F_FF_FF_FF_FF_00_03_01)) reply list
    ∷ admits (device 3) 1 zero_to_two
    ∷ []

abbrev elsewhere : List ℕ
elsewhere = request (run 3 0x00_06_09) (run 2 0x81_23)

pub meets_with_any : MeetsOne with_scene elsewhere 0x00_03_01
unfolding whole
meets_with_any = record {
  octets = refl;
  request = record { octets = refl; length = refl; told_length = refl; type = refl; request = refl; sent = refl; to_bind_address = refl };
  exactly = record { order = refl; exact = linked-one 0x00_06_09 0x00_03_01 refl };
}

-- the request goes to 3:01
pub delivers_with_any : message (after start with_scene) elsewhere reply list
    ≡ answer (Ok (Forwarded 1)) (after start with_scene) reply (lending 12 (run 3 0x00_03_01))
unfolding over three_octets
delivers_with_any = delivers_one with_scene elsewhere 0x00_03_01 meets_with_any

-- Reading back: at the place where both binds stand, 3:01 starts a session, its request is handed on, and 3:01 reads

abbrev start_session_rows : List ℕ
start_session_rows = letter three-one concentrator 0x01 bind_management 0x07 []

abbrev within_session : List Call
within_session = sends start_session_rows reply list ∷ calls

abbrev meanwhile : List Call
meanwhile = sends asked reply list ∷ []

-- a read by index from 0 on, of up to 255; one by source
abbrev page : List ℕ
page = letter three-one concentrator 0x01 bind_management 0x09 (run 3 0x00_00_FF)

abbrev by_source : List ℕ
by_source = letter three-one concentrator 0x01 bind_management 0x0A (run 2 0x00_03)

-- what `is_the_sheet` asks of a read m by the filter f, and what its reply then says
pub record MeetsRead (f : Filter) (m : List ℕ) (es : List Rec) : Type 0 where
  pub free : free_tables start ≡ true
  pub octets : all octets_only within_session ≡ true
  pub later : all octets_only meanwhile ≡ true
  pub no_start : NoStart (fields m).source meanwhile
  pub message : octet_string m ≡ true
  pub asks : command (fields m) ≡ Some (GetEntries f)
  pub granted : granted (sends m reply list) (said (after start (meanwhile ++ within_session)) (sends m reply list)) ≡ true
  pub says : entries_read (said (after start (meanwhile ++ within_session)) (sends m reply list)) ≡ es

-- a request to the bind address is no Start
not_start : command (fields asked) ≡ Some StartSession → ⊥
unfolding whole
not_start e = let z : ◌≡◌ {A = ℕ} 0 1 = cc in absurd (omega arith)

pub reads-page : MeetsRead Index page (A ∷ B ∷ [])
unfolding whole calls
reads-page = record {
  free = refl;
  octets = refl;
  later = refl;
  no_start = (λ e. not_start e.0, tt);
  message = refl;
  asks = refl;
  granted = refl;
  says = refl;
}

pub reads_by_source : MeetsRead (Part Source) by_source (A ∷ B ∷ [])
unfolding whole calls
reads_by_source = record {
  free = refl;
  octets = refl;
  later = refl;
  no_start = (λ e. not_start e.0, tt);
  message = refl;
  asks = refl;
  granted = refl;
  says = refl;
}

-- .. and Start counts two
pub starts-two : (octet_string start_session_rows ≡ true) × (command (fields start_session_rows) ≡ Some StartSession)
    × (granted (sends start_session_rows reply list) (said (after start calls) (sends start_session_rows reply list)) ≡ true)
    × (bind_count (said (after start calls) (sends start_session_rows reply list)) ≡ 2)
unfolding whole calls
starts-two = (refl, refl, refl, refl)
