-- Laws of the host's calls: where a check fails, nothing changes; where none does, the octets written are the call's change.
use Rattle.std.specs.Prelude.{Ok, Err}
use Rattle.words.specs.Basics.{◌≡◌, refl, sym, ap, ◌∙◌, Bool, true, false, cond, not, ◌||◌, List, ℕ, ◌%◌, ◌<◌, arith, length, not-true}
use Rattle.words.specs.Basics.{not-false}
use Rattle.words.specs.declared.BindPart.TheVariants.{Source, Destination}
use Rattle.rules.specs.Types.{DeviceAddress, Kind, Devices, Binds, Members, Sessions, Done, Unsound, OutOfRange, AlreadyAdmitted, NoFreeRecord}
use Rattle.rules.specs.Types.{Refusal, NotAdmitted}
use Rattle.rules.specs.Lists.{ask, any}
use Rattle.rules.specs.Octets.{octets}
use Rattle.rules.specs.Tables.{Rec, records, used, some_free, matches, addressed, clear, store, wipe, written}
use Rattle.rules.specs.Layout.{size, part_start, part_is, device_record}
use Rattle.rules.specs.Frame.{Lent, lent_of, tables, also, nothing, changed}
use Rattle.rules.specs.Exists.{admitted}
use Rattle.rules.specs.Sound.{device_in_range, sound}
use Rattle.rules.specs.Sessions.{alters, closing}
use Rattle.rules.specs.Host.{host_answer, settled, admitting, admission, admit, names_device, taking, releasing, dismissal, release}
use Rattle.rules.proofs.Changes.{any-or}
use Rattle.rules.proofs.Frames.{replaced}
use Rattle.rules.proofs.Records.{each-records, each-clear, records-bytes, clear_twice}
use Rattle.rules.proofs.Kept.{whole-at, whole_length}
use Rattle.soundness.proofs.Refused.{refusal-number}

-- a check that the code made, and how it came out
module _ {b w : Bool} (e : b ≡ w) where
  pub failed : not b ≡ true → w ≡ false
  failed n = sym e ∙ not-true b n

  pub passed : not b ≡ false → w ≡ true
  passed n = sym e ∙ not-false b n

-- tables that are sound are whole records
pub whole-table : (L : Lent) {b : Bool} → b ≡ sound L → not b ≡ false → (k : Kind) → length (lent_of k L) % size k ≡ 0
whole-table L e n k = whole_length k (lent_of k L) (whole-at L (passed e n) k)

-- Admit

-- each check of the order, those before it passed
module _ (ds : List Rec) (d : DeviceAddress) (rights : ℕ) (us : List ℕ) where
  pub out_of_range : device_in_range d rights us ≡ false → (Err OutOfRange) ≡ admission ds d rights us
  unfolding admission ask
  out_of_range f = rw f

  module _ (f : device_in_range d rights us ≡ true) where
    pub already_there : admitted ds d ≡ true → (Err AlreadyAdmitted) ≡ admission ds d rights us
    unfolding admission ask
    already_there a = rw (f, a)

    pub no_room : admitted ds d ≡ false → some_free ds ≡ false → (Err NoFreeRecord) ≡ admission ds d rights us
    unfolding admission ask
    no_room a r = rw (f, a, r)

    pub is_new : admitted ds d ≡ false → some_free ds ≡ true → Ok (Done 0) ≡ admission ds d rights us
    unfolding admission ask
    is_new a r = rw (f, a, r)

module _ (L : Lent) {b : Bool} (a : b ≡ sound L) (d : DeviceAddress) (rights : ℕ) (us : List ℕ) where
  pub admit-unsound : not b ≡ true → host_answer (Err Unsound) L ≡ admit L d rights us
  unfolding admit settled ask
  admit-unsound s = rw (failed a s)

  -- on sound tables
  module _ (s : not b ≡ false) where
    pub admit-refused : {why : Refusal} → Err why ≡ admission (tables L Devices) d rights us → host_answer (Err why) L ≡ admit L d rights us
    unfolding admit settled ask
    admit-refused {why} e = rw (passed a s, sym e, refusal-number why)

    pub admit-done : {r : Rec} {ds : List ℕ} → Ok (Done 0) ≡ admission (tables L Devices) d rights us → r ≡ device_record d rights us
        → ds ≡ written (size Devices) (store r) L.devices → host_answer (Ok (Done 0)) (replaced Devices ds L) ≡ admit L d rights us
    unfolding admit settled ask changed admitting also nothing written replaced
    admit-done e f h = rw (passed a s, sym e, h, f)

-- Release

-- one removal after another on the octets
wipe_twice : (k : ℕ) (p q : Rec → Bool) (t : List ℕ) → 0 < k → written k (wipe q) (written k (wipe p) t) ≡ written k (wipe (λ r. p r || q r)) t
unfolding written
wipe_twice k p q t h = rw (records-bytes k (clear p (records k t)) h (each-clear k p (records k t) (each-records k t)), clear_twice p q (records k t))

module _ (d : DeviceAddress) where
  -- by source, or by individual destination
  pub named_by : (t : List Rec) {i j : ℕ} {w : List ℕ} {a b : Bool} → w ≡ octets d.0 → i ≡ part_start Source → j ≡ part_start Destination
      → a ≡ any (matches i w) (used t) → b ≡ any (matches j w) (used t) → (a || b) ≡ any (names_device d) (used t)
  unfolding names_device part_is
  named_by t e i j h g = rw (h, g, e, i, j) (sym (any-or (part_is Source (octets d.0)) (part_is Destination (octets d.0)) (used t)))

  -- by source, and then by individual destination
  pub binds_freed : (t : List ℕ) {i j : ℕ} {w u v : List ℕ} → w ≡ octets d.0 → i ≡ part_start Source → j ≡ part_start Destination
      → u ≡ written (size Binds) (wipe (matches i w)) t → v ≡ written (size Binds) (wipe (matches j w)) u → v ≡ written (size Binds) (wipe (names_device d)) t
  unfolding names_device part_is
  binds_freed t e i j h g = rw (g, h, e, i, j) (wipe_twice (size Binds) (part_is Source (octets d.0)) (part_is Destination (octets d.0)) t (omega arith))

  -- all that release takes, by the octets of the address
  pub device_freed : (ds bs ms : List ℕ) {w u v t : List ℕ} → w ≡ octets d.0 → u ≡ written (size Devices) (wipe (matches 0 w)) ds
      → v ≡ written (size Binds) (wipe (names_device d)) bs → t ≡ written (size Members) (wipe (matches 2 w)) ms
      → (u ≡ written (size Devices) (taking d Devices) ds)
      × (v ≡ written (size Binds) (taking d Binds) bs)
      × (t ≡ written (size Members) (taking d Members) ms)
  unfolding taking also addressed
  device_freed ds bs ms e f g h = (rw (f, e), g, rw (h, e))

module _ (L : Lent) (d : DeviceAddress) where
  -- behind 16

  pub unknown : admitted (tables L Devices) d ≡ false → host_answer (Err NotAdmitted) L ≡ settled (releasing (tables L) d) L (dismissal (tables L Devices) d)
  unfolding settled dismissal ask
  unknown a = rw a

  -- the groups stay, and sessions are closed where a bind named the device
  pub dismissed : {ds bs ms ss : List ℕ} {named : Bool} → admitted (tables L Devices) d ≡ true
      → (ds ≡ written (size Devices) (taking d Devices) L.devices)
      × (bs ≡ written (size Binds) (taking d Binds) L.binds)
      × (ms ≡ written (size Members) (taking d Members) L.members)
      → named ≡ any (names_device d) (used (tables L Binds))
      → ss ≡ cond named (written (size Sessions) (wipe (λ r. true)) L.sessions) (written (size Sessions) (wipe (addressed d.0)) L.sessions)
      → host_answer (Ok (Done 0)) (replaced Devices ds (replaced Binds bs (replaced Members ms (replaced Sessions ss L))))
      ≡ settled (releasing (tables L) d) L (dismissal (tables L Devices) d)
  unfolding settled dismissal ask changed releasing closing alters taking also nothing written replaced
  dismissed {ds} {bs} {ms} {ss} {named} a w n h = rw (a, ← n, w.0, w.1, w.2, h) (ap (host_answer (Ok (Done 0))) (whole named))
    where
      frees : (k : Kind) → List ℕ
      frees k = written (size k) (taking d k) (lent_of k L)

      whole : (b : Bool) → replaced Devices (frees Devices) (replaced Binds (frees Binds) (replaced Members (frees Members)
          (replaced Sessions (cond b (written (size Sessions) (wipe (λ r. true)) L.sessions) (frees Sessions)) L)))
          ≡ changed (cond b (also Sessions (wipe (λ r. true)) (taking d)) (taking d)) L
      whole true = refl
      whole false = refl

  -- 16, and then that

  module _ {b : Bool} (e : b ≡ sound L) where
    pub release-unsound : not b ≡ true → host_answer (Err Unsound) L ≡ release L d
    unfolding release settled ask
    release-unsound s = rw (failed e s)

    pub release-sound : not b ≡ false → settled (releasing (tables L) d) L (dismissal (tables L Devices) d) ≡ release L d
    unfolding release dismissal ask
    release-sound s = rw (passed e s)

-- .. all of it in one: 23, or the device with all that names it

module _ (L : Lent) {b : Bool} (e : b ≡ sound L) (d : DeviceAddress) where
  pub release_unknown : not b ≡ false → admitted (tables L Devices) d ≡ false → host_answer (Err NotAdmitted) L ≡ release L d
  release_unknown s a = unknown L d a ∙ release-sound L d e s

  pub release-done : {ds bs ms ss : List ℕ} {named : Bool} → not b ≡ false → admitted (tables L Devices) d ≡ true
      → (ds ≡ written (size Devices) (taking d Devices) L.devices)
      × (bs ≡ written (size Binds) (taking d Binds) L.binds)
      × (ms ≡ written (size Members) (taking d Members) L.members)
      → named ≡ any (names_device d) (used (tables L Binds))
      → ss ≡ cond named (written (size Sessions) (wipe (λ r. true)) L.sessions) (written (size Sessions) (wipe (addressed d.0)) L.sessions)
      → host_answer (Ok (Done 0)) (replaced Devices ds (replaced Binds bs (replaced Members ms (replaced Sessions ss L)))) ≡ release L d
  release-done s a w n h = dismissed L d a w n h ∙ release-sound L d e s
