-- The run of docs/HISTORY.md, call by call: whether it was granted, what stands after it, and where a request then goes. One theorem.
use Rattle.std.specs.Prelude.{Ok}
use Rattle.words.specs.Basics.{◌≡◌, refl, ap, ◌∙◌, Bool, true, false, cond, List, [], ◌∷◌, ◌++◌, map, ℕ}
use Rattle.words.specs.Names.{device}
use Rattle.rules.specs.Types.{Kind, Binds, Members, Outcome, Forwarded, Nobody}
use Rattle.rules.specs.Tables.{Rec}
use Rattle.rules.specs.Frame.{Lent}
use Rattle.rules.specs.Calls.{message}
use Rattle.rules.specs.History.{Call, sends, admits, releases, said, left, after, history, granted, stand, standing, entries}
use Rattle.rules.proofs.Whole.{whole}
use Rattle.rules.proofs.Samples.{run, lending, filled, zero-to_one, zero_to_two, device-table, D3, D4, D5, named, holding, three-one, concentrator}
use Rattle.rules.proofs.Samples.{curtains, bind_management, group_management, letter, request, reply}

-- what is known at one place of a run: the tables, and the binds and members that stand by history
pub record Place : Type 0 where
  pub tables : Lent
  pub binds : List Rec
  pub group : List Rec

abbrev place : Lent → List Rec → List Rec → Place
place L bs ms = record { tables = L; binds = bs; group = ms }

-- a call, whether it is granted, the place after it, and the outcome and the list of a request made there
pub record Line : Type 0 where
  pub call : Call
  pub given : Bool
  pub place : Place
  pub outcome : Outcome
  pub sent : List ℕ

-- the list that is lent: three octets for each of two bind records and two member records
abbrev pub list : List ℕ
list = lending 12 []

abbrev line : Call → Bool → Place → Outcome → List ℕ → Line
line c g p o us = record { call = c; given = g; place = p; outcome = o; sent = lending 12 us }

abbrev pub asked : List ℕ
asked = request three-one curtains

-- a page behind a call
abbrev entered : Call → Bool → Kind → List Rec → List Rec
entered c granted k page = cond granted (stand (entries c k) page) page

-- the line that a call makes at a place
abbrev worked : Place → Call → Line
worked p c =
    let g : Bool = granted c (said p.tables c) in
    let L : Lent = left p.tables c in
    record {
      call = c;
      given = g;
      place = place L (entered c g Binds p.binds) (entered c g Members p.group);
      outcome = (message L asked reply list).outcome;
      sent = (message L asked reply list).list;
    }

abbrev Computing : Place → List Line → Type 0
Computing p [] = Unit {0}
Computing p (x ∷ xs) = (worked p x.call ≡ x) × Computing x.place xs

-- what docs/HISTORY.md says of a line, after the calls cs
pub record AsSaid (L : Lent) (cs : List Call) (x : Line) : Type 0 where
  pub answered : granted x.call (said (after L cs) x.call) ≡ x.given
  pub binds : standing Binds (history L (x.call ∷ cs)) ≡ x.place.binds
  pub group : standing Members (history L (x.call ∷ cs)) ≡ x.place.group
  pub outcome : (message (after L (x.call ∷ cs)) asked reply list).outcome ≡ x.outcome
  pub sent : (message (after L (x.call ∷ cs)) asked reply list).list ≡ x.sent

abbrev pub Saying : Lent → List Call → List Line → Type 0
Saying L cs [] = Unit {0}
Saying L cs (x ∷ xs) = AsSaid L cs x × Saying L (x.call ∷ cs) xs

-- the run cs is at this place
record At (L : Lent) (cs : List Call) (p : Place) : Type 0 where
  tables : after L cs ≡ p.tables
  binds : standing Binds (history L cs) ≡ p.binds
  group : standing Members (history L cs) ≡ p.group

module _ (L : Lent) where
  step : (cs : List Call) (p : Place) (x : Line) → At L cs p → worked p x.call ≡ x → At L (x.call ∷ cs) x.place
  unfolding after history standing
  step cs p x a e = record {
    tables = rw a.tables (ap (λ (l : Line). l.place.tables) e);
    binds = rw a.tables (ap (page Binds) a.binds ∙ ap (λ (l : Line). l.place.binds) e);
    group = rw a.tables (ap (page Members) a.group ∙ ap (λ (l : Line). l.place.group) e);
  }
    where
      page : Kind → List Rec → List Rec
      page k l = entered x.call (granted x.call (said p.tables x.call)) k l

  saying : (cs : List Call) (p : Place) (xs : List Line) → At L cs p → Computing p xs → Saying L cs xs
  unfolding after
  saying cs p [] a c = tt
  saying cs p (x ∷ xs) a c =
      let b = step cs p x a c.0 in (
        record {
          answered = rw a.tables (ap (λ (l : Line). l.given) c.0);
          binds = b.binds;
          group = b.group;
          outcome = rw a.tables (ap (λ (l : Line). l.outcome) c.0);
          sent = rw a.tables (ap (λ (l : Line). l.sent) c.0);
        },
        saying (x.call ∷ cs) x.place xs b c.1,
      )

-- The run: devices 3, 4 and 5; a bind table of two records, room for one group and for two members

abbrev S : Rec
S = named 1 (0x53 ∷ [])

abbrev pub A : Rec
A = run 8 0x00_03_01_82_00_00_04_02

abbrev pub B : Rec
B = run 8 0x00_03_01_82_00_80_01_00

abbrev four : Rec
four = run 5 0x00_01_00_04_02

abbrev five : Rec
five = run 5 0x00_01_00_05_01

-- tables that hold these octets, the other records free
abbrev tables : List ℕ → List ℕ → List ℕ → List ℕ → Lent
tables ds bs gs ms = holding (device-table 3 ds) (filled 16 bs) (filled 16 gs) (filled 10 ms)

abbrev pub start : Lent
start = tables [] [] [] []

-- three devices are there, and these binds, groups and members
abbrev three : List ℕ → List ℕ → List ℕ → List Rec → List Rec → Place
three bs gs ms binds group = place (tables (D3 ++ D4 ++ D5) bs gs ms) binds group

-- a command from 3:01: interface, member, payload
abbrev gives : List ℕ → ℕ → List ℕ → Call
gives interface member p = sends (letter three-one concentrator 0x01 interface member p) reply list

abbrev gone : List ℕ → List ℕ
gone r = map (λ o. 0xFF) r

abbrev to_four : List ℕ
to_four = run 3 0x00_04_02

abbrev to_five : List ℕ
to_five = run 3 0x00_05_01

-- to the place where both binds and both members stand
abbrev pub linking : List Line
linking =
    line (admits (device 3) 1 zero_to_two) true (place (tables D3 [] [] []) [] []) (Ok Nobody) []
    ∷ line (admits (device 4) 0 zero_to_two) true (place (tables (D3 ++ D4) [] [] []) [] []) (Ok Nobody) []
    ∷ line (admits (device 5) 0 zero-to_one) true (three [] [] [] [] []) (Ok Nobody) []
    -- Create Group "S"; Add to Group 4:02 and 5:01
    ∷ line (gives group_management 0x01 (run 2 0x01_53)) true (three [] S [] [] []) (Ok Nobody) []
    ∷ line (gives group_management 0x03 four) true (three [] S four [] (four ∷ [])) (Ok Nobody) []
    ∷ line (gives group_management 0x03 five) true (three [] S (four ++ five) [] (five ∷ four ∷ [])) (Ok Nobody) []
    -- Add Bind A and B, and B again: 0x02
    ∷ line (gives bind_management 0x01 A) true (three A S (four ++ five) (A ∷ []) (five ∷ four ∷ [])) (Ok (Forwarded 1)) to_four
    ∷ line (gives bind_management 0x01 B) true (three (A ++ B) S (four ++ five) (B ∷ A ∷ []) (five ∷ four ∷ [])) (Ok (Forwarded 2)) (to_four ++ to_five)
    ∷ line (gives bind_management 0x01 B) false (three (A ++ B) S (four ++ five) (B ∷ A ∷ []) (five ∷ four ∷ [])) (Ok (Forwarded 2)) (to_four ++ to_five)
    ∷ []

-- and from there
abbrev unlinking : List Line
unlinking =
    -- Remove from Group 4:02, Remove Bind by destination D'4
    line (gives group_management 0x04 four) true (three (A ++ B) S (gone four ++ five) (B ∷ A ∷ []) (five ∷ [])) (Ok (Forwarded 2)) (to_four ++ to_five)
    ∷ line (gives bind_management 0x05 (run 2 0x00_04)) true (three (gone A ++ B) S (gone four ++ five) (B ∷ []) (five ∷ [])) (Ok (Forwarded 1)) to_five
    -- Release and admit device 5
    ∷ line (releases (device 5)) true (place (tables (D3 ++ D4) (gone A ++ B) S []) (B ∷ []) []) (Ok Nobody) []
    ∷ line (admits (device 5) 0 zero-to_one) true (three (gone A ++ B) S [] (B ∷ []) []) (Ok Nobody) []
    -- Delete Group 1, Create Group "S"
    ∷ line (gives group_management 0x02 (run 2 0x00_01)) true (three [] [] [] [] []) (Ok Nobody) []
    ∷ line (gives group_management 0x01 (run 2 0x01_53)) true (three [] S [] [] []) (Ok Nobody) []
    ∷ []

line_by_line : Computing (place start [] []) (linking ++ unlinking)
unfolding whole
line_by_line = (refl, (refl, (refl, (refl, (refl, (refl, (refl, (refl, (refl, (refl, (refl, (refl, (refl, (refl, (refl, tt)))))))))))))))

pub as_worked : Saying start [] (linking ++ unlinking)
unfolding after history standing
as_worked = saying start [] (place start [] []) (linking ++ unlinking) (record { tables = refl; binds = refl; group = refl }) line_by_line
