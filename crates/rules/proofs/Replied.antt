-- Every reply can be read (document 01, The message; Commands and codes): a sender that is answered a length has in so many octets a message again, from
-- the concentrator to it, with its own App Ref and interface, and behind the header the payload that its command made.
use Rattle.std.specs.Prelude.{Some, Result, Ok}
use lib.Seq.{take_at}
use Rattle.words.specs.Basics.{◌≡◌, refl, sym, ap, ◌∙◌, Bool, true, false, cond, false≢true, List, [], ◌∷◌, ℕ, ◌+◌, ◌-◌, ◌*◌, ◌≤◌, arith, eqb, length, take}
use Rattle.words.specs.Basics.{drop, length-append, length-take, eqb-true, leb-true}
use Rattle.words.specs.Names.{code, ok, header_length, longest}
use Rattle.words.specs.Outcomes.{number_of, value_of}
use Rattle.rules.specs.Types.{DeviceAddress, GroupAddress, Fields, Command, AddBind, RemoveBinds, StartSession, EndSession, GetEntries, CreateGroup, Refusal}
use Rattle.rules.specs.Types.{DeleteGroup, AddToGroup, RemoveFromGroup, GetGroupInfo, Binds, Groups, Members, Outcome, Done, Way}
use Rattle.rules.specs.Lists.{first_of}
use Rattle.rules.specs.Octets.{octets, over}
use Rattle.rules.specs.Units.{unit_octets, ordered}
use Rattle.rules.specs.Tables.{Rec, used, addressed}
use Rattle.rules.specs.Layout.{size, full, name_length, group_name}
use Rattle.rules.specs.Frame.{Lent, tables}
use Rattle.rules.specs.Message.{fields, payload, reading_of, reading, answering, reply}
use Rattle.rules.specs.Exists.{group_exists}
use Rattle.rules.specs.Sound.{whole_records, group_fits, fits, sound_table, sound}
use Rattle.rules.specs.Recipients.{recipients, members_of}
use Rattle.rules.specs.Payloads.{command, group_named}
use Rattle.rules.specs.Commands.{row, info_head, info, group_info, judge, on_ok, reply_payload}
use Rattle.rules.specs.Calls.{answered, handled, forwarded, follow, message}
use Rattle.rules.proofs.Lists.{split, first_passes}
use Rattle.rules.proofs.Records.{each-records}
use Rattle.rules.proofs.Order.{length-unit_octets}
use Rattle.rules.proofs.Kept.{sound-at, whole-at}
use Rattle.rules.proofs.Granted.{info-granted}
use Rattle.rules.proofs.Ways.{Acting, Ways, refuses, serves, forwards, ways}
use Rattle.rules.proofs.Counts.{few-members, name-fits}
use Rattle.rules.proofs.Entries.{entries_by_lem}
use Rattle.rules.proofs.RoundTrip.{reply-read, reply-length, reply_payload_lem}

-- How long it is

-- Get Group Info: name length, name, number of members, and 3 octets a member

pub length-info_head : (r : Rec) (n : ℕ) → length (info_head r n) ≡ 3 + length (group_name r)
unfolding info_head octets
length-info_head r n = omega (arith, length-append (group_name r) (octets n))

pub length-info : (r : Rec) (us : List ℕ) → length (info r us) ≡ 3 + length (group_name r) + 3 * length us
unfolding info
length-info r us = length-append (info_head r (length us)) (unit_octets us) ∙ omega (arith, length-info_head r (length us), length-unit_octets us)

-- every command's payload leaves room for the header, where the tables are sound
module _ (L : Lent) (h : sound L ≡ true) where
  short_info : (g : GroupAddress) → group_exists (tables L Groups) g ≡ true
      → header_length + length (ok.0 ∷ group_info (tables L Groups) (tables L Members) g) ≤ longest
  unfolding group_info group_exists sound_table fits whole_records
  short_info g e =
      let r : Rec = first_of [] (addressed g.0) (used (tables L Groups)) in
      let us : List ℕ = ordered (members_of (tables L Members) g) in
      let fit : group_fits r ≡ true = first_passes [] (addressed g.0) group_fits (used (tables L Groups)) e (split (split (sound-at L h Groups)).0).1 in
      omega (
        arith,
        length-info r us,
        length-take (name_length r) (drop 3 r),
        name-fits r fit,
        few-members g L.members (leb-true (length L.members) (full Members) (split (whole-at L h Members)).1),
      )

  short_granted : (s : DeviceAddress) (k : Command) (p : List ℕ) → judge (tables L) s k p ≡ ok
      → header_length + length (ok.0 ∷ (row k).behind (tables L) p) ≤ longest
  unfolding octets sound_table
  short_granted s AddBind p j = omega arith
  short_granted s (RemoveBinds q) p j = omega arith
  short_granted s StartSession p j = omega arith
  short_granted s EndSession p j = omega arith
  short_granted s (GetEntries f) p j = (entries_by_lem f p (tables L Binds) (each-records (size Binds) L.binds) (split (sound-at L h Binds)).1).short
  short_granted s CreateGroup p j = omega arith
  short_granted s DeleteGroup p j = omega arith
  short_granted s AddToGroup p j = omega arith
  short_granted s RemoveFromGroup p j = omega arith
  short_granted s GetGroupInfo p j = short_info (group_named p) (info-granted (tables L) s p j)

  pub reply_short : (s : DeviceAddress) (k : Command) (p : List ℕ) → header_length + length (reply_payload (tables L) k p (judge (tables L) s k p)) ≤ longest
  unfolding reply_payload on_ok
  reply_short s k p = step (eqb (judge (tables L) s k p).0 ok.0) (λ e. short_granted s k p (ap code (eqb-true _ _ e)))
    where
      step : (b : Bool) → (b ≡ true → header_length + length (ok.0 ∷ (row k).behind (tables L) p) ≤ longest)
          → header_length + length ((judge (tables L) s k p).0 ∷ cond b ((row k).behind (tables L) p) []) ≤ longest
      step true f = f refl
      step false f = omega arith

-- What its first n octets are

pub record Replied (L : Lent) (m reply : List ℕ) (n : ℕ) : Type 0 where
  -- the message's command
  pub served : Command
  pub asks : command (fields m) ≡ Some served
  -- a message, and its fields
  pub reads : reading (take n reply) ≡ reading_of (Ok (Done 0)) (answering (fields m) (n - header_length))
  -- the payload that was written
  pub says : payload (take n reply) ≡ reply_payload (tables L) served (payload m) (judge (tables L) (fields m).source served (payload m))

-- a list of recipients is no reply
no_reply : (us : List ℕ) (L : Lent) (r l : List ℕ) → eqb (number_of (forwarded us L r l).outcome) 0 ≡ false
unfolding forwarded
no_reply [] L r l = refl
no_reply (u ∷ us) L r l = refl

not_done : {o : Outcome} {n : ℕ} → eqb (number_of o) 0 ≡ false → o ≡ Ok (Done n) → ⊥
not_done h e = false≢true (sym h ∙ ap (λ (o : Outcome). eqb (number_of o) 0) e)

module _ (L : Lent) (m r l : List ℕ) where
  pub reply_again : (n : ℕ) → (message L m r l).outcome ≡ Ok (Done n) → Replied L m (message L m r l).reply n
  unfolding message follow handled answered over
  reply_again n = by (ways L m r l)
    where
      by : {w : Result Way Refusal} → Ways (Acting L m r l) (fields m) w → (follow w L m r l).outcome ≡ Ok (Done n) → Replied L m (follow w L m r l).reply n
      by (refuses x) e = absurd (not_done x.0 e)
      by (serves {k = k} a c) e =
          let f : Fields = fields m in
          let q : List ℕ = reply_payload (tables L) k (payload m) (judge (tables L) f.source k (payload m)) in
          let w : header_length + length q ≡ n = ap value_of e in
          let t : take n (over (reply f q) r) ≡ reply f q = take_at (reply f q) _ n (reply-length f q ∙ w) in
          let z : length q ≡ n - header_length = omega arith in
          record {
            served = k;
            asks = c;
            reads = ap reading t ∙ reply-read m q (reply_short L a.sound f.source k (payload m)) ∙ ap (λ (i : ℕ). reading_of (Ok (Done 0)) (answering f i)) z;
            says = ap payload t ∙ reply_payload_lem f q;
          }
      by (forwards {to = to} a d) e = absurd (not_done (no_reply (recipients (tables L Binds) (tables L Members) to (fields m)) L r l) e)
