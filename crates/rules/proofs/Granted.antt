-- Every command answered 0x00 changes the tables in order, and changes them as the history's entries say.
use Rattle.words.specs.Basics.{◌≡◌, refl, sym, ap, ◌∙◌, Bool, true, false, cond, false≢true, List, ℕ, ◌+◌, ◌*◌, ◌<◌, ◌≤◌, arith, length, take, take_all}
use Rattle.words.specs.Basics.{not, ◌||◌, eqb, not-true, eq-eqb, eqb-true, leb-true}
use Rattle.words.specs.Names.{ok}
use Rattle.rules.specs.Types.{DeviceAddress, GroupAddress, Command, AddBind, RemoveBinds, StartSession, EndSession, GetEntries, CreateGroup}
use Rattle.rules.specs.Types.{DeleteGroup, AddToGroup, RemoveFromGroup, GetGroupInfo, Kind, Devices, Binds, Groups, Members, Sessions}
use Rattle.rules.specs.Lists.{any, ◌&◌}
use Rattle.rules.specs.Octets.{octet, octets, octet_string}
use Rattle.rules.specs.Tables.{Rec, used, some_free, matches, addressed, Change, none, store, wipe}
use Rattle.rules.specs.Layout.{size, key, longest_name, member_group, to_group, bound_group, group_record, to_this_group, in_group, session_record}
use Rattle.rules.specs.Frame.{Lent, Tables, tables, also, Effect, nothing, only}
use Rattle.rules.specs.Exists.{admitted, device_exists, may_command, has_rights, group_exists}
use Rattle.rules.specs.Sound.{whole_records, device_fits, bind_fits, session_fits, fits, sound_table}
use Rattle.rules.specs.Payloads.{bind_of, member_of, group_named}
use Rattle.rules.specs.Faults.{add_fault}
use Rattle.rules.specs.Sessions.{in_session, alters, closing}
use Rattle.rules.specs.Commands.{room_in, addition, naming, opening, creation, new_group, row, rights_fit, judge}
use Rattle.rules.specs.History.{Entry, Entries, has_page, silence, group_said, lines}
use Rattle.rules.proofs.Lists.{never, split, join, pass, any_weaken, any_with}
use Rattle.rules.proofs.Frames.{also-all, also-both}
use Rattle.rules.proofs.Records.{length-records}
use Rattle.rules.proofs.Words.{shaped, addressed-word, word_of, to_group_lem, apart}
use Rattle.rules.proofs.Numbers.{bind_said_lem, group_said_lem, member_said_lem, bind_named_lem, member_named_lem}
use Rattle.rules.proofs.Changes.{Storable, New, spares}
use Rattle.rules.proofs.Distinct.{lone}
use Rattle.rules.proofs.Fresh.{new_low, new_high, new_fresh}
use Rattle.rules.proofs.Judged.{invalid, full, Passed, passed}
use Rattle.rules.proofs.Faults.{meets, by_fields, fits_all}
use Rattle.rules.proofs.Kept.{Sane, InOrder, Allowed, order-none, order-wipe, sound-at, whole-at, bind-kept, member_kept, session_kept, ok-nothing}
use Rattle.rules.proofs.Standing.{Says, says_nothing, says_stored, says_withdrawn}
use Rattle.rules.proofs.Stored.{Stored, bind_stored, member_stored, named_small, group_stored, group_meets, device_high, session_stored, session_key}
use Rattle.rules.proofs.Stored.{session_device_lem, source-flag}

-- What a call does is what the history says of it

-- on every page that the sheet has
pub record Told (x : Effect) (e : Entries) : Type 0 where
  pub page : (k : Kind) → has_page k ≡ true → Says (size k) (x k) (e k)

pub told-nothing : Told nothing silence
unfolding nothing silence
told-nothing = record { page = λ k h. says_nothing }

-- one more table and its line
pub told-also : (k : Kind) {c : Change} {a : Entry} {x : Effect} {e : Entries} → Says (size k) c a → Told x e → Told (also k c x) (also k a e)
told-also k {c} {a} {x} {e} s t =
    record { page = also-both (λ j d b. has_page j ≡ true → Says (size j) d b) k c a x e (λ h. s) t.page }

-- one more table that has no page
pub told_apart : (k : Kind) (c : Change) {x : Effect} {e : Entries} → has_page k ≡ false → Told x e → Told (also k c x) e
told_apart k c {x} {e} n t =
    record { page = also-all (λ j d. has_page j ≡ true → Says (size j) d (e j)) k c x (λ h. absurd (false≢true (sym n ∙ h))) t.page }

-- Devices that are there

-- an admitted device has an address of 15 bits
pub admitted_small : (L : Lent) (d : DeviceAddress) → Sane L → admitted (tables L Devices) d ≡ true → d.0 < 32768
unfolding admitted sound_table fits
admitted_small L d S h = any_with (addressed d.0) device_fits small (used (tables L Devices)) h (split (split (sound-at L S.sound Devices)).0).1
  where
    small : (r : Rec) → addressed d.0 r ≡ true → device_fits r ≡ true → d.0 < 32768
    small r e f = omega (arith, word_of d.0 r e, device_high r f)

-- one that has rights exists, and has such an address
with_rights : (L : Lent) (d : DeviceAddress) → Sane L → has_rights (tables L Devices) d ≡ true
    → (device_exists (tables L Devices) d ≡ true) × (d.0 < 32768)
unfolding has_rights device_exists admitted may_command
with_rights L d S h = step (eqb d.0 0) refl h
  where
    step : (b : Bool) → eqb d.0 0 ≡ b → cond b true (any (may_command d) (used (tables L Devices))) ≡ true
        → (cond b true (admitted (tables L Devices) d) ≡ true) × (d.0 < 32768)
    step true e h = (refl, omega (arith, eqb-true d.0 0 e))
    step false e h =
        let a : admitted (tables L Devices) d ≡ true = any_weaken (may_command d) (addressed d.0) (λ r m. (split m).0) (used (tables L Devices)) h in
        (a, admitted_small L d S a)

-- Changes in order

-- where no device and no group goes
pub ok-adding : (L : Lent) (x : Effect) → ((k : Kind) → InOrder k L (x k)) → ((r : Rec) → spares (x Devices) r ≡ true)
    → ((r : Rec) → spares (x Groups) r ≡ true)
    → Allowed L x
unfolding fits
ok-adding L x o d g = record {
  order = o;
  binds = λ b s w h. bind-kept (x Devices) (x Groups) _ _ (o Devices).room (o Groups).room b (λ r e. d r) (λ t r e. d r) (λ t r e. g r) h;
  members = λ m s w h. member_kept (x Devices) (x Groups) _ _ (o Devices).room (o Groups).room m (λ r e. d r) (λ r e. g r) h;
  sessions = λ m s w h. session_kept (x Devices) _ m (o Devices).room (λ r e. d r) h;
}

-- one table changes, in order
pub orders_only : (k : Kind) (L : Lent) (c : Change) → InOrder k L c → (j : Kind) → InOrder j L (only k c j)
unfolding nothing
orders_only k L c o = also-all (λ j x. InOrder j L x) k c nothing o (λ j. order-none j L)

-- .. and besides others
pub orders_wipe : (k : Kind) (L : Lent) (q : Rec → Bool) (x : Effect) → ((j : Kind) → InOrder j L (x j)) → (j : Kind) → InOrder j L (also k (wipe q) x j)
orders_wipe k L q x o = also-all (λ j c. InOrder j L c) k (wipe q) x (order-wipe k L q) o

-- a record is stored where none begins with its key: of a device or a group its address, of a bind or a member the whole
pub order-store : (k : Kind) (L : Lent) (r : Rec) (w : List ℕ) → take (key k) r ≡ w → some_free (tables L k) ≡ true → Stored (size k) r
    → fits k (tables L Devices) (tables L Groups) r ≡ true → any (matches 0 w) (used (tables L k)) ≡ false → InOrder k L (store r)
unfolding Storable New lone
order-store k L r w e f s m a = record { room = (f, s.used); shape = s.shape; meets = m; alone = rw (e, a) }

-- Add Bind and Add to Group: a record that is stored whole and must not be there
order-added : (k : Kind) (L : Lent) (r : Rec) → key k ≡ size k → Stored (size k) r → fits k (tables L Devices) (tables L Groups) r ≡ true
    → not (any (matches 0 r) (used (tables L k))) ≡ true → room_in (tables L k) ≡ ok → InOrder k L (store r)
unfolding shaped
order-added k L r e s m a v =
    let n = eqb-true (length r) (size k) (split s.shape).0 in
    order-store k L r r (rw e (take_all (size k) r (omega arith))) (pass full v).0 s m (not-true _ a)

-- "any change to the bind table closes all sessions": what is in order and told stays so, since sessions have no page

module _ (T : Tables) {x : Effect} where
  -- what holds of the effect, and of it with all sessions closed, holds of the effect that closes them
  pub closing-all : (P : Effect → Type 0) → P x → P (also Sessions (wipe (λ r. true)) x) → P (closing T x)
  unfolding closing
  closing-all P h g = elim (alters (x Binds) (T Binds)) as (λ b. P (cond b (also Sessions (wipe (λ r. true)) x) x)) [ true ↦ g | false ↦ h ]

  pub told-closing : {e : Entries} → Told x e → Told (closing T x) e
  unfolding has_page
  told-closing {e} t = closing-all (λ y. Told y e) t (told_apart Sessions _ refl t)

  pub ok-closing : {L : Lent} → Allowed L x → Allowed L (closing T x)
  unfolding also spares
  ok-closing {L} o = closing-all (Allowed L) o (record {
    order = orders_wipe Sessions L _ x o.order;
    binds = o.binds;
    members = o.members;
    sessions = λ r s w h. absurd (false≢true w);
  })

-- Each command

-- what is known of a command answered 0x00
pub record Granted (L : Lent) (s : DeviceAddress) (k : Command) (p : List ℕ) : Type 0 where
  pub ok : Allowed L ((row k).effect (tables L) s p)
  pub told : Told ((row k).effect (tables L) s p) (lines k p)

module _ (L : Lent) (p : List ℕ) (o : octet_string p ≡ true) where
  ok-binds : (c : Change) → InOrder Binds L c → Allowed L (only Binds c)
  unfolding spares nothing also
  ok-binds c i = ok-adding L (only Binds c) (orders_only Binds L c i) (λ r. refl) (λ r. refl)

  ok-members : (c : Change) → InOrder Members L c → Allowed L (only Members c)
  unfolding spares nothing also
  ok-members c i = ok-adding L (only Members c) (orders_only Members L c i) (λ r. refl) (λ r. refl)

  ok-sessions : (c : Change) → InOrder Sessions L c → Allowed L (only Sessions c)
  unfolding spares nothing also
  ok-sessions c i = ok-adding L (only Sessions c) (orders_only Sessions L c i) (λ r. refl) (λ r. refl)

  -- a session that is opened takes the first free record, where its device has none
  ok-start : (s : DeviceAddress) → Sane L → has_rights (tables L Devices) s ≡ true → opening s (tables L Sessions) ≡ ok
      → Allowed L ((row StartSession).effect (tables L) s p)
  unfolding opening in_session addressed fits session_fits
  ok-start s S a v = step (in_session (tables L Sessions) s) refl (pass full v).0
    where
      new : in_session (tables L Sessions) s ≡ false → some_free (tables L Sessions) ≡ true → InOrder Sessions L (store (session_record s))
      new e f =
          let w = with_rights L s S a in
          order-store Sessions L (session_record s) (octets s.0) (session_key s) f (session_stored s w.1) (rw (session_device_lem s) (w.0)) e

      step : (b : Bool) → in_session (tables L Sessions) s ≡ b → (b || some_free (tables L Sessions)) ≡ true
          → Allowed L (cond b nothing (only Sessions (store (session_record s))))
      step true e f = ok-nothing L
      step false e f = ok-sessions _ (new e f)

  few-groups : Sane L → length (tables L Groups) ≤ 16
  unfolding whole_records
  few-groups S = omega (arith, length-records 16 L.groups, leb-true (length L.groups) (16 * 16) (split (whole-at L S.sound Groups)).1)

  ok_create : Sane L → length p ≡ 1 + octet 0 p → creation p (tables L Groups) ≡ ok
      → Allowed L (only Groups (store (group_record (new_group (tables L Groups)) p)))
  unfolding creation spares nothing also fits group_record octets group_exists addressed
  ok_create S long v =
      let a = pass full v in
      let b = pass full a.1 in
      let g : GroupAddress = new_group (tables L Groups) in
      let low : 1 ≤ g.0 = new_low (tables L Groups) in
      let high : g.0 ≤ 32766 = omega (arith, new_high (tables L Groups), few-groups S) in
      let name : octet 0 p ≤ longest_name = leb-true (octet 0 p) longest_name a.0 in
      let new : InOrder Groups L (store (group_record g p)) =
      order-store Groups L (group_record g p) (octets g.0) (group-key g) b.0 (group_stored g p high (omega arith) o) (group_meets g p low high long name)
      (new_fresh (tables L Groups)) in
      ok-adding L _ (orders_only Groups L _ new) (λ r. refl) (λ r. refl)
    where
      group-key : (g : GroupAddress) → take (key Groups) (group_record g p) ≡ octets g.0
      group-key g = refl

  -- Delete Group

  abbrev g : GroupAddress
  g = group_named p

  small : g.0 < 32768
  small = named_small p o

  abbrev deletes : Effect
  deletes = also Groups (wipe (addressed g.0)) (also Members (wipe (in_group g)) (only Binds (wipe (to_this_group g))))

  ok_delete : Allowed L deletes
  unfolding nothing also spares fits Storable
  ok_delete = record {
    order = orders_wipe Groups L _ _ (orders_wipe Members L _ _ (orders_only Binds L _ (order-wipe Binds L _)));
    binds = λ b s w h. bind-kept none (wipe (addressed g.0)) _ _ tt tt b (λ x e. refl) (λ t x e. refl)
        (λ t x e. apart (bound_group b).0 g.0 x (λ z. never _ w (to_group_lem g b small s ∙ join t (eq-eqb (bound_group b).0 g.0 z))) e) h;
    members = λ m s w h. member_kept none (wipe (addressed g.0)) _ _ tt tt m (λ x e. refl)
        (λ x e. apart (member_group m).0 g.0 x
        (λ z. never _ w (addressed-word (size Members) g.0 m (omega arith) s ∙ eq-eqb (member_group m).0 g.0 z)) e) h;
    sessions = λ m s w h. session_kept none _ m tt (λ x e. refl) h;
  }

  told_delete : Told deletes (lines DeleteGroup p)
  unfolding lines has_page
  told_delete =
      told_apart Groups _ refl
      (told-also Members (says_withdrawn (λ x s. addressed-word (size Members) g.0 x (omega arith) s ∙ ap (λ w. eqb (member_group x).0 w) said))
      (told-also Binds (says_withdrawn (λ b s. to_group_lem g b small s ∙ ap (λ w. to_group b & eqb (bound_group b).0 w) said)) told-nothing))
    where
      said : g.0 ≡ (group_said p).0
      said = ap (λ (g : GroupAddress). g.0) (group_said_lem p o)

  told-start : (s : DeviceAddress) → Told ((row StartSession).effect (tables L) s p) silence
  unfolding has_page
  told-start s =
      elim (in_session (tables L Sessions) s) as (λ b. Told (cond b nothing (only Sessions (store (session_record s)))) silence)
      [ true ↦ told-nothing | false ↦ told_apart Sessions _ refl told-nothing ]

  -- the bind of a payload has a source of 15 bits, and met the field rules
  order-bind : {s : DeviceAddress} → Passed (tables L) s AddBind p → InOrder Binds L (store (bind_of p))
  unfolding add_fault fits bind_fits
  order-bind c =
      let m = meets c.fault in
      order-added Binds L (bind_of p) refl (bind_stored p c.length o) (join (source-flag p o) (fits_all (by_fields m))) m.absent c.verdict

  order_member : {s : DeviceAddress} → Passed (tables L) s AddToGroup p → InOrder Members L (store (member_of p))
  unfolding addition fits
  order_member c =
      let a = pass invalid c.verdict in
      let b = pass invalid a.1 in
      order-added Members L (member_of p) refl (member_stored p c.length o) a.0 b.0 b.1

  granted_by_lem : (s : DeviceAddress) (k : Command) → Sane L → Passed (tables L) s k p → Granted L s k p
  unfolding lines silence has_page rights_fit
  granted_by_lem s AddBind S c =
      record { ok = ok-binds _ (order-bind c); told = told-also Binds (says_stored (bind_said_lem p o c.length)) told-nothing }
  granted_by_lem s (RemoveBinds q) S c =
      record { ok = ok-binds _ (order-wipe Binds L _); told = told-also Binds (says_withdrawn (bind_named_lem p o q c.length)) told-nothing }
  granted_by_lem s StartSession S c =
      record { ok = ok-start s S c.rights c.verdict; told = told-start s }
  granted_by_lem s EndSession S c =
      record { ok = ok-sessions _ (order-wipe Sessions L _); told = told_apart Sessions _ refl told-nothing }
  granted_by_lem s (GetEntries f) S c =
      record { ok = ok-nothing L; told = told-nothing }
  granted_by_lem s CreateGroup S c =
      record { ok = ok_create S c.length c.verdict; told = told_apart Groups _ refl told-nothing }
  granted_by_lem s DeleteGroup S c =
      record { ok = ok_delete; told = told_delete }
  granted_by_lem s AddToGroup S c =
      record { ok = ok-members _ (order_member c); told = told-also Members (says_stored (member_said_lem p o c.length)) told-nothing }
  granted_by_lem s RemoveFromGroup S c =
      record { ok = ok-members _ (order-wipe Members L _); told = told-also Members (says_withdrawn (member_named_lem p o c.length)) told-nothing }
  granted_by_lem s GetGroupInfo S c =
      record { ok = ok-nothing L; told = told-nothing }

  pub granted-command : (s : DeviceAddress) (k : Command) → Sane L → judge (tables L) s k p ≡ ok → Granted L s k p
  granted-command s k S j = granted_by_lem s k S (passed (tables L) s k p j)

-- Get Group Info is answered 0x00 only of a group that exists
pub info-granted : (T : Tables) (s : DeviceAddress) (p : List ℕ) → judge T s GetGroupInfo p ≡ ok → group_exists (T Groups) (group_named p) ≡ true
unfolding naming
info-granted T s p j = (pass invalid (passed T s GetGroupInfo p j).verdict).0
