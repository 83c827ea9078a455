-- The commands (document 01, Commands and codes): a row for each, with its checks and codes in the paper's order, what it changes, and what its
-- reply has behind 0x00.
use Rattle.std.specs.Prelude.{Bool, true, false, cond, not, ◌||◌, List, [], ◌∷◌, ◌++◌, ℕ, zero, suc, ◌+◌, eqb, leb, length, Option, None}
use Rattle.words.specs.Names.{ok, not_authorized, invalid_argument, no_read_session, not_enough_resources, unknown_reason, group, lowest}
use Rattle.words.specs.Reasons.{faultless}
use Rattle.rules.specs.Types.{DeviceAddress, GroupAddress, Code, Reason, Command, AddBind, RemoveBinds, StartSession, EndSession, GetEntries}
use Rattle.rules.specs.Types.{CreateGroup, DeleteGroup, AddToGroup, RemoveFromGroup, GetGroupInfo, Devices, Binds, Groups, Members, Sessions}
use Rattle.rules.specs.Lists.{any, first_of, ask}
use Rattle.rules.specs.Octets.{octet, octets}
use Rattle.rules.specs.Units.{unit_octets, ordered}
use Rattle.rules.specs.Tables.{Rec, used, some_free, matches, addressed, store, wipe}
use Rattle.rules.specs.Layout.{size, address_length, part_is, part_length, longest_name, name_length, group_name, group_record, to_this_group, in_group}
use Rattle.rules.specs.Layout.{session_record}
use Rattle.rules.specs.Frame.{Tables, Effect, nothing, only, also}
use Rattle.rules.specs.Exists.{has_rights, group_exists}
use Rattle.rules.specs.Sound.{member_fits}
use Rattle.rules.specs.Recipients.{members_of}
use Rattle.rules.specs.Payloads.{bind_of, wanted, member_of, group_named}
use Rattle.rules.specs.Faults.{add_fault}
use Rattle.rules.specs.Sessions.{in_session, closing, filter_length, entries_by, listing}

-- Checks that several commands share

-- an addition: 0xFE if and only if no record is free
abbrev pub room_in : List Rec → Code
room_in t = ask (some_free t) not_enough_resources ok

-- .. and before it 0x02 where the record is there
unfoldable pub addition : Rec → List Rec → Code
addition r t = ask (not (any (matches 0 r) (used t))) invalid_argument (room_in t)

-- a removal: 0x02 where nothing matches
unfoldable pub removal : (Rec → Bool) → List Rec → Code
removal q t = ask (any q (used t)) invalid_argument ok

-- a group that is named: 0x02 where it is absent
unfoldable pub naming : GroupAddress → List Rec → Code
naming g gs = ask (group_exists gs g) invalid_argument ok

-- a session that is opened: "0xFE at Start exactly when no session record is free and the device has none"
unfoldable pub opening : DeviceAddress → List Rec → Code
opening s ss = ask (in_session ss s || some_free ss) not_enough_resources ok

-- a session that is used: this code where the device has none
unfoldable pub session_or : Code → DeviceAddress → List Rec → Code
session_or c s ss = ask (in_session ss s) c ok

-- Create Group

-- "0xFE for a name over 13 octets or no free record"
unfoldable pub creation : List ℕ → List Rec → Code
creation p gs = ask (leb (octet 0 p) longest_name) not_enough_resources (room_in gs)

-- "The address is the smallest from 0x0001 not in use.": of n + 1 addresses one is not
unfoldable pub smallest : (ℕ → Bool) → ℕ → ℕ → ℕ
smallest is_in_use zero a = a
smallest is_in_use (suc n) a = cond (is_in_use a) (smallest is_in_use n (suc a)) a

unfoldable pub new_group : List Rec → GroupAddress
new_group gs = group (smallest (λ a. group_exists gs (group a)) (length gs) lowest)

-- Get Group Info: name length, name, number of members, members by rising device and unit

unfoldable pub info_head : Rec → ℕ → List ℕ
info_head r n = name_length r ∷ group_name r ++ octets n

unfoldable pub info : Rec → List ℕ → List ℕ
info r us = info_head r (length us) ++ unit_octets us

unfoldable pub group_info : List Rec → List Rec → GroupAddress → List ℕ
group_info gs ms g = info (first_of [] (addressed g.0) (used gs)) (ordered (members_of ms g))

-- A command's row

pub record Row : Type 0 where
  -- does it ask the sender's rights?
  pub rights : Bool
  -- how long should this payload be?
  pub length : List ℕ → ℕ
  -- what its caller is told of a payload that it answers 0x02 (document 02, request 6: of Add Bind alone)
  pub fault : Tables → List ℕ → Option Reason
  -- the code of the checks behind these, by the tables, the sender's device and the payload
  pub verdict : Tables → DeviceAddress → List ℕ → Code
  -- what it changes, answered 0x00
  pub effect : Tables → DeviceAddress → List ℕ → Effect
  -- what its reply has behind 0x00
  pub behind : Tables → List ℕ → List ℕ

-- nothing is told
abbrev pub unexplained : Tables → List ℕ → Option Reason
unexplained T p = None

abbrev pub row : Command → Row
row AddBind =
    record {
      rights = true;
      length = λ p. size Binds;
      fault = λ T p. add_fault (T Devices) (T Binds) (T Groups) p;
      verdict = λ T s p. room_in (T Binds);
      effect = λ T s p. only Binds (store (bind_of p));
      behind = λ T p. [];
    }
row (RemoveBinds q) =
    record {
      rights = true;
      length = λ p. part_length q;
      fault = unexplained;
      verdict = λ T s p. removal (part_is q (wanted q p)) (T Binds);
      effect = λ T s p. only Binds (wipe (part_is q (wanted q p)));
      behind = λ T p. [];
    }
row StartSession =
    record {
      rights = true;
      length = λ p. 0;
      fault = unexplained;
      verdict = λ T s p. opening s (T Sessions);
      -- a second Start changes nothing
      effect = λ T s p. cond (in_session (T Sessions) s) nothing (only Sessions (store (session_record s)));
      behind = λ T p. octets (length (used (T Binds)));
    }
row EndSession =
    record {
      rights = false;
      length = λ p. 0;
      fault = unexplained;
      verdict = λ T s p. session_or unknown_reason s (T Sessions);
      effect = λ T s p. only Sessions (wipe (addressed s.0));
      behind = λ T p. [];
    }
row (GetEntries f) =
    record {
      rights = false;
      length = λ p. filter_length f;
      fault = unexplained;
      verdict = λ T s p. session_or no_read_session s (T Sessions);
      effect = λ T s p. nothing;
      behind = λ T p. listing (entries_by f p (T Binds));
    }
row CreateGroup =
    record {
      rights = true;
      -- name length and name, "so an empty payload is wrong"
      length = λ p. 1 + octet 0 p;
      fault = unexplained;
      verdict = λ T s p. creation p (T Groups);
      effect = λ T s p. only Groups (store (group_record (new_group (T Groups)) p));
      behind = λ T p. octets (new_group (T Groups)).0;
    }
row DeleteGroup =
    record {
      rights = true;
      length = λ p. address_length;
      fault = unexplained;
      verdict = λ T s p. naming (group_named p) (T Groups);
      effect = λ T s p.
          also Groups (wipe (addressed (group_named p).0)) (also Members (wipe (in_group (group_named p))) (only Binds (wipe (to_this_group (group_named p)))));
      behind = λ T p. [];
    }
row AddToGroup =
    record {
      rights = true;
      length = λ p. size Members;
      fault = unexplained;
      verdict = λ T s p. ask (member_fits (T Devices) (T Groups) (member_of p)) invalid_argument (addition (member_of p) (T Members));
      effect = λ T s p. only Members (store (member_of p));
      behind = λ T p. [];
    }
row RemoveFromGroup =
    record {
      rights = true;
      length = λ p. size Members;
      fault = unexplained;
      verdict = λ T s p. removal (matches 0 (member_of p)) (T Members);
      effect = λ T s p. only Members (wipe (matches 0 (member_of p)));
      behind = λ T p. [];
    }
row GetGroupInfo =
    record {
      rights = false;
      length = λ p. address_length;
      fault = unexplained;
      verdict = λ T s p. naming (group_named p) (T Groups);
      effect = λ T s p. nothing;
      behind = λ T p. group_info (T Groups) (T Members) (group_named p);
    }

-- A command whole

-- "0x01 sender's rights are 0. Not applied to Get Group Info." Nor to End and to reads (document 000, Tables 48 to 67)
unfoldable pub rights_fit : List Rec → DeviceAddress → Command → Bool
rights_fit ds s k = cond (row k).rights (has_rights ds s) true

-- "0x02 payload length"
unfoldable pub payload_fits : Command → List ℕ → Bool
payload_fits k p = eqb (length p) ((row k).length p)

-- the code of a command k with payload p from the device s: 0x01, 0x02 for its length and for what its caller is told, then its own
unfoldable pub judge : Tables → DeviceAddress → Command → List ℕ → Code
judge T s k p =
    ask (rights_fit (T Devices) s k) not_authorized
    (ask (payload_fits k p) invalid_argument
    (ask (faultless ((row k).fault T p)) invalid_argument
    ((row k).verdict T s p)))

-- "With any other code .. reason and octet are 0."
unfoldable pub explained : Tables → Command → List ℕ → Code → Option Reason
explained T k p c = cond (eqb c.0 invalid_argument.0) ((row k).fault T p) None

-- the first where the code is 0x00, else the second
unfoldable pub on_ok : {A : Type 0} → Code → A → A → A
on_ok c a b = cond (eqb c.0 ok.0) a b

-- "A code other than 0x00 .., and the tables stay"
unfoldable pub done : Tables → DeviceAddress → Command → List ℕ → Code → Effect
done T s k p c = on_ok c (closing T ((row k).effect T s p)) nothing

-- "A code other than 0x00 is a one-octet reply ..; 0x00 is one octet too unless more is named."
unfoldable pub reply_payload : Tables → Command → List ℕ → Code → List ℕ
reply_payload T k p c = c.0 ∷ on_ok c ((row k).behind T p) []
