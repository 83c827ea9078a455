-- Soundness (document 01, Tables) and "every element of a table is an octet" are kept by every change that is in order.
use Rattle.words.specs.Basics.{◌≡◌, refl, ap, ◌∙◌, Bool, true, false, cond, not, ◌||◌, List, ℕ, ◌%◌, eqb, length, eqb-true}
use Rattle.rules.specs.Types.{DeviceAddress, GroupAddress, Kind, Devices, Binds, Groups, Members, Sessions}
use Rattle.rules.specs.Lists.{any, all}
use Rattle.rules.specs.Octets.{octet_string}
use Rattle.rules.specs.Tables.{Rec, records, used, addressed, Change, none, wipe, change}
use Rattle.rules.specs.Layout.{size, most, key, bind_source, bind_source_unit, from_any_device, from_any_unit, to_group, bound_group, bound_device, bind_unit}
use Rattle.rules.specs.Layout.{member_group, member_device, member_unit, session_device}
use Rattle.rules.specs.Frame.{Lent, lent_of, tables, Effect, nothing, changed}
use Rattle.rules.specs.Exists.{admitted, has_unit, unit_exists, device_exists, group_exists}
use Rattle.rules.specs.Sound.{whole_records, bind_fits, member_fits, session_fits, fits, distinct, sound_table, sound}
use Rattle.rules.proofs.Lists.{split, join}
use Rattle.rules.proofs.Frames.{shapes, every_at, every_of, lent-changed}
use Rattle.rules.proofs.Words.{shaped}
use Rattle.rules.proofs.Changes.{Storable, New, spares, any-change, every_change, shaped-records, records-written, octets-written, length-written}
use Rattle.rules.proofs.Distinct.{lone, distinct-change}
use Rattle.rules.proofs.Faults.{meets, fits_all}

-- one table's soundness of all, and back

pub sound-at : (L : Lent) → sound L ≡ true → (k : Kind) → sound_table k (tables L Devices) (tables L Groups) (lent_of k L) ≡ true
unfolding sound
sound-at L h k = every_at (λ k. sound_table k (tables L Devices) (tables L Groups) (lent_of k L)) h k

pub sound_of : (L : Lent) → ((k : Kind) → sound_table k (tables L Devices) (tables L Groups) (lent_of k L) ≡ true) → sound L ≡ true
unfolding sound
sound_of L h = every_of (λ k. sound_table k (tables L Devices) (tables L Groups) (lent_of k L)) h

-- sound tables of octets
pub record Sane (L : Lent) : Type 0 where
  pub sound : sound L ≡ true
  pub octets : (k : Kind) → octet_string (lent_of k L) ≡ true

-- What must hold of a change

-- .. of one table: what it stores finds room, has the table's size and fields, and is not there
pub record InOrder (k : Kind) (L : Lent) (c : Change) : Type 0 where
  pub room : Storable c (tables L k)
  pub shape : New c (shaped (size k))
  pub meets : New c (fits k (tables L Devices) (tables L Groups))
  pub alone : New c (lone (key k) (tables L k))

-- a record of the table k that the changes spare names nothing that they take away
abbrev pub Keeps : Kind → Lent → Effect → Type 0
Keeps k L x =
    (r : Rec) → shaped (size k) r ≡ true → spares (x k) r ≡ true → fits k (tables L Devices) (tables L Groups) r ≡ true
    → fits k (change (x Devices) (tables L Devices)) (change (x Groups) (tables L Groups)) r ≡ true

-- .. of every table, and besides of the three whose records name others
pub record Allowed (L : Lent) (x : Effect) : Type 0 where
  pub order : (k : Kind) → InOrder k L (x k)
  pub binds : Keeps Binds L x
  pub members : Keeps Members L x
  pub sessions : Keeps Sessions L x

pub order-none : (k : Kind) (L : Lent) → InOrder k L none
unfolding Storable New
order-none k L = record { room = tt; shape = tt; meets = tt; alone = tt }

pub order-wipe : (k : Kind) (L : Lent) (q : Rec → Bool) → InOrder k L (wipe q)
unfolding Storable New
order-wipe k L q = record { room = tt; shape = tt; meets = tt; alone = tt }

-- Then soundness is kept

pub whole_length : (k : Kind) (t : List ℕ) → whole_records (size k) (most k) t ≡ true → length t % size k ≡ 0
unfolding whole_records
whole_length k t h = eqb-true (length t % size k) 0 (split h).0

pub whole-at : (L : Lent) → sound L ≡ true → (k : Kind) → whole_records (size k) (most k) (lent_of k L) ≡ true
unfolding sound_table
whole-at L s k = (split (split (sound-at L s k)).0).0

module _ (L : Lent) (x : Effect) (o : Allowed L x) (S : Sane L) where
  pub table-changed : (k : Kind) → tables (changed x L) k ≡ change (x k) (tables L k)
  table-changed k =
      ap (records (size k)) (lent-changed x L k)
      ∙ records-written (size k) (shapes k).0 (x k) (lent_of k L) (o.order k).shape (S.octets k)

  pub length-changed : (k : Kind) → length (lent_of k (changed x L)) ≡ length (lent_of k L)
  length-changed k =
      ap length (lent-changed x L k)
      ∙ length-written (size k) (shapes k).0 (x k) (lent_of k L) (o.order k).shape (S.octets k) (whole_length k (lent_of k L) (whole-at L S.sound k))

  keeps : (k : Kind) → Keeps k L x
  unfolding fits
  keeps Devices = λ r s w h. h
  keeps Binds = o.binds
  keeps Groups = λ r s w h. h
  keeps Members = o.members
  keeps Sessions = o.sessions

  all-shaped : (k : Kind) → all (shaped (size k)) (tables L k) ≡ true
  all-shaped k = shaped-records (size k) (lent_of k L) (S.octets k)

  whole-kept : (k : Kind) → whole_records (size k) (most k) (lent_of k (changed x L)) ≡ true
  unfolding whole_records
  whole-kept k = rw (length-changed k) (whole-at L S.sound k)

  fits_kept : (k : Kind) → all (fits k (tables (changed x L) Devices) (tables (changed x L) Groups)) (used (tables (changed x L) k)) ≡ true
  unfolding sound_table
  fits_kept k =
      rw (table-changed Devices, table-changed Groups, table-changed k)
      (every_change (shaped (size k)) _ _ (tables L k) (all-shaped k) (split (split (sound-at L S.sound k)).0).1
      (x k) (o.order k).room (o.order k).shape (o.order k).meets (keeps k))

  distinct-kept : (k : Kind) → distinct (key k) (tables (changed x L) k) ≡ true
  unfolding sound_table
  distinct-kept k =
      rw (table-changed k)
      (distinct-change (size k) (key k) (x k) (tables L k) (o.order k).room (o.order k).shape (o.order k).alone (all-shaped k)
      (split (sound-at L S.sound k)).1)

  sound-kept : (k : Kind) → sound_table k (tables (changed x L) Devices) (tables (changed x L) Groups) (lent_of k (changed x L)) ≡ true
  unfolding sound_table
  sound-kept k = join (join (whole-kept k) (fits_kept k)) (distinct-kept k)

  pub sane_changed : Sane (changed x L)
  sane_changed = record {
    sound = sound_of (changed x L) sound-kept;
    octets = λ k. rw (lent-changed x L k) (octets-written (size k) (shapes k).0 (x k) (lent_of k L) (o.order k).shape (S.octets k));
  }

-- What exists and is spared exists afterwards

pub unit_kept : (c : Change) (ds : List Rec) (d : DeviceAddress) (u : ℕ) → Storable c ds → ((r : Rec) → addressed d.0 r ≡ true → spares c r ≡ true)
    → unit_exists ds d u ≡ true → unit_exists (change c ds) d u ≡ true
unfolding unit_exists has_unit
unit_kept c ds d u f s h = step (eqb d.0 0) h
  where
    step : (b : Bool) → cond b (eqb u 0) (any (has_unit d u) (used ds)) ≡ true → cond b (eqb u 0) (any (has_unit d u) (used (change c ds))) ≡ true
    step true h = h
    step false h = any-change c ds (has_unit d u) f (λ r e. s r (split e).0) h

pub device-kept : (c : Change) (ds : List Rec) (d : DeviceAddress) → Storable c ds → ((r : Rec) → addressed d.0 r ≡ true → spares c r ≡ true)
    → device_exists ds d ≡ true → device_exists (change c ds) d ≡ true
unfolding device_exists admitted
device-kept c ds d f s h = step (eqb d.0 0) h
  where
    step : (b : Bool) → cond b true (any (addressed d.0) (used ds)) ≡ true → cond b true (any (addressed d.0) (used (change c ds))) ≡ true
    step true h = refl
    step false h = any-change c ds (addressed d.0) f s h

pub group-kept : (c : Change) (gs : List Rec) (g : GroupAddress) → Storable c gs → ((r : Rec) → addressed g.0 r ≡ true → spares c r ≡ true)
    → group_exists gs g ≡ true → group_exists (change c gs) g ≡ true
unfolding group_exists
group-kept c gs g f s h = any-change c gs (addressed g.0) f s h

-- what was asked behind "or" and holds still

unless : (w : Bool) {v v' : Bool} → (w ≡ false → v ≡ true → v' ≡ true) → (w || v) ≡ true → (w || v') ≡ true
unless true f h = refl
unless false f h = f refl h

either : (w : Bool) {v v' : Bool} → (v ≡ true → v' ≡ true) → (w || v) ≡ true → (w || v') ≡ true
either w f = unless w (λ e. f)

when : (w : Bool) {v v' : Bool} → (w ≡ true → v ≡ true → v' ≡ true) → (not w || v) ≡ true → (not w || v') ≡ true
when true f h = f refl h
when false f h = refl

module _ (cd cg : Change) (ds gs : List Rec) (fd : Storable cd ds) (fg : Storable cg gs) where
  pub bind-kept : (b : Rec) → ((r : Rec) → addressed (bind_source b).0 r ≡ true → spares cd r ≡ true)
      → (to_group b ≡ false → (r : Rec) → addressed (bound_device b).0 r ≡ true → spares cd r ≡ true)
      → (to_group b ≡ true → (r : Rec) → addressed (bound_group b).0 r ≡ true → spares cg r ≡ true)
      → bind_fits ds gs b ≡ true → bind_fits (change cd ds) (change cg gs) b ≡ true
  unfolding bind_fits
  bind-kept b src dst grp h =
      let a = split h in
      let m = meets a.1 in
      join a.0 (fits_all (record {
        length = refl;
        source-device = either (from_any_device b) (device-kept cd ds (bind_source b) fd src) m.source-device;
        source_unit_lem = either (from_any_device b || from_any_unit b) (unit_kept cd ds (bind_source b) (bind_source_unit b) fd src) m.source_unit_lem;
        a_unit = m.a_unit;
        device = unless (to_group b) (λ e. device-kept cd ds (bound_device b) fd (dst e)) m.device;
        unit = unless (to_group b) (λ e. unit_kept cd ds (bound_device b) (bind_unit b) fd (dst e)) m.unit;
        group = when (to_group b) (λ e. group-kept cg gs (bound_group b) fg (grp e)) m.group;
        another = m.another;
        absent = refl;
      }))

  pub member_kept : (m : Rec) → ((r : Rec) → addressed (member_device m).0 r ≡ true → spares cd r ≡ true)
      → ((r : Rec) → addressed (member_group m).0 r ≡ true → spares cg r ≡ true)
      → member_fits ds gs m ≡ true → member_fits (change cd ds) (change cg gs) m ≡ true
  unfolding member_fits
  member_kept m dev grp h =
      let a = split h in
      join (group-kept cg gs (member_group m) fg grp a.0) (unit_kept cd ds (member_device m) (member_unit m) fd dev a.1)

pub session_kept : (c : Change) (ds : List Rec) (r : Rec) → Storable c ds → ((x : Rec) → addressed (session_device r).0 x ≡ true → spares c x ≡ true)
    → session_fits ds r ≡ true → session_fits (change c ds) r ≡ true
unfolding session_fits
session_kept c ds r f s h = device-kept c ds (session_device r) f s h

pub ok-nothing : (L : Lent) → Allowed L nothing
unfolding nothing spares change
ok-nothing L = record { order = λ k. order-none k L; binds = λ r s w h. h; members = λ r s w h. h; sessions = λ r s w h. h }
