-- Old tables carried over: the same units exist in the new table, the same devices have rights, it is sound iff the old one was, and nine times as long.
use Rattle.words.specs.Basics.{◌≡◌, refl, sym, ap, ◌∙◌, Bool, true, false, cond, not, ◌&&◌, ◌||◌, List, [], ◌∷◌, map, ℕ, ◌*◌, ◌%◌, ◌<◌, ◌≤◌, arith, eqb, leb}
use Rattle.words.specs.Basics.{length, take, replicate, length-map, leb-true, leb-false, le-leb, lt-leb, eqb-true, eq-eqb}
use Rattle.rules.specs.Types.{DeviceAddress, Devices}
use Rattle.rules.specs.Lists.{count, any, all, keep, ◌&◌}
use Rattle.rules.specs.Octets.{word, octets, octet_string}
use Rattle.rules.specs.Tables.{Rec, records, is_free, used, matches, addressed}
use Rattle.rules.specs.Layout.{size, most, key, units_length, in_set, up_to, device_units, device_record}
use Rattle.rules.specs.Frame.{table}
use Rattle.rules.specs.Exists.{has_unit, unit_exists, may_command, has_rights}
use Rattle.rules.specs.Sound.{whole_records, device_in_range, device_fits, fits, distinct, sound_table}
use Rattle.rules.specs.Carry.{old_size, old_address, old_rights, old_highest, old_fits, old_sound, old_has_unit, old_unit_exists, old_has_rights, carried}
use Rattle.rules.specs.Carry.{carried_table, times}
use Rattle.rules.proofs.Lists.{is_positive, is_zero, and_parts, and-true, split, same_truth, any-count, all-count}
use Rattle.rules.proofs.Records.{Each, length-bytes, length-records, records-bytes}
use Rattle.rules.proofs.Words.{shaped, shaped-length, shaped-octets, octet_small, word_below, addressed-word, begins-word}
use Rattle.rules.proofs.UnitSets.{shaped-up_to, in_up_to}
use Rattle.rules.proofs.Changes.{shaped-records}
use Rattle.rules.proofs.Stored.{Stored, device_stored, device_address_lem}

-- unit 255 is not in the set iff the highest is at most 254
last_unset : (h : ℕ) → not (leb 255 h) ≡ leb h 254
last_unset h = step (leb h 254) refl
  where
    step : (b : Bool) → leb h 254 ≡ b → not (leb 255 h) ≡ b
    step true e = let p : h ≤ 254 = leb-true h 254 e in rw (lt-leb 255 h (omega arith))
    step false e = let p : 254 < h = leb-false h 254 e in rw (le-leb 255 h (omega arith))

-- One record

-- a used record, as it is carried
abbrev as_device : Rec → Rec
as_device r = device_record (old_address r) (old_rights r) (up_to (old_highest r))

device_of_lem : (r : Rec) → shaped old_size r ≡ true → Stored (size Devices) (as_device r)
device_of_lem r s =
    device_stored (old_address r) (old_rights r) (up_to (old_highest r)) (word_below old_size 0 r s) (octet_small r 2 (shaped-octets old_size r s))
    (shaped-up_to (old_highest r))

-- a new record has its octets, and is free iff the old one is
shaped-carried : (r : Rec) → shaped old_size r ≡ true → shaped (size Devices) (carried r) ≡ true
unfolding carried shaped octet_string all ◌&◌
shaped-carried r s =
    elim (is_free r) as (λ b. shaped (size Devices) (cond b (replicate 36 255) (as_device r)) ≡ true) [ true ↦ refl | false ↦ (device_of_lem r s).shape ]

free-carried : (r : Rec) → shaped old_size r ≡ true → is_free (carried r) ≡ is_free r
unfolding carried is_free all
free-carried r s = elim (is_free r) as (λ b. is_free (cond b (replicate 36 255) (as_device r)) ≡ b) [ true ↦ refl | false ↦ (device_of_lem r s).used ]

module _ (r : Rec) (s : shaped old_size r ≡ true) (f : is_free r ≡ false) where
  used-carried : carried r ≡ as_device r
  unfolding carried
  used-carried = rw f

  word-carried : word 0 (carried r) ≡ word 0 r
  word-carried = rw (used-carried, device_address_lem (old_address r) (old_rights r) (up_to (old_highest r)))

  -- it has the same address
  addressed-carried : (a : ℕ) → addressed a (carried r) ≡ addressed a r
  addressed-carried a =
      rw (addressed-word (size Devices) a (carried r) (omega arith) (shaped-carried r s), addressed-word old_size a r (omega arith) s, word-carried)

  -- the same units
  units-same : (u : ℕ) → u ≤ 255 → in_set u (device_units (carried r)) ≡ leb u (old_highest r)
  unfolding device_record octets
  units-same u l = rw used-carried (in_up_to (old_highest r) u l)

  has_unit-carried : (d : DeviceAddress) (u : ℕ) → u ≤ 255 → has_unit d u (carried r) ≡ old_has_unit d u r
  unfolding has_unit old_has_unit
  has_unit-carried d u l = rw (addressed-carried d.0, units-same u l)

  -- the same rights
  rights-same : (d : DeviceAddress) → may_command d (carried r) ≡ (addressed d.0 r & eqb (old_rights r) 1)
  unfolding may_command device_record octets
  rights-same d = rw (addressed-carried d.0, used-carried)

  -- and is in range iff the old one was
  fits-carried : device_fits (carried r) ≡ old_fits r
  unfolding device_fits device_in_range old_fits device_record octets ◌&◌
  fits-carried =
      let h : ℕ = old_highest r in
      rw (
        used-carried,
        device_address_lem (old_address r) (old_rights r) (up_to h),
        in_up_to h 0 (omega arith),
        in_up_to h 255 (omega arith),
        le-leb 0 h (omega arith),
        last_unset h,
        and-true _,
        and-true _,
      )

-- a record begins as another does iff the old one did
begins-carried : (r x : Rec) → shaped old_size r ≡ true → is_free r ≡ false → shaped old_size x ≡ true → is_free x ≡ false
    → matches 0 (take 2 (carried r)) (carried x) ≡ matches 0 (take 2 r) x
unfolding addressed
begins-carried r x s f t g =
    rw (begins-word (size Devices) (carried r) (omega arith) (shaped-carried r s), begins-word old_size r (omega arith) s, word-carried r s f)
    (addressed-carried x t g (word 0 r))

-- All records: a test of new ones that comes out as one of the old ones does

module _ (p q : Rec → Bool) (same : (r : Rec) → shaped old_size r ≡ true → is_free r ≡ false → p (carried r) ≡ q r) where
  count-carried : (rs : List Rec) → all (shaped old_size) rs ≡ true → count p (used (map carried rs)) ≡ count q (used rs)
  unfolding count all used keep
  count-carried [] h = refl
  count-carried (r ∷ rs) h =
      let a = and_parts (shaped old_size r) (all (shaped old_size) rs) h in
      rw (free-carried r a.0) (step (is_free r) refl a.0 (count-carried rs a.1))
    where
      step : (b : Bool) → is_free r ≡ b → shaped old_size r ≡ true → count p (used (map carried rs)) ≡ count q (used rs)
          → count p (cond (not b) (carried r ∷ used (map carried rs)) (used (map carried rs))) ≡ count q (cond (not b) (r ∷ used rs) (used rs))
      step true f s ih = ih
      step false f s ih = rw (same r s f, ih)

  any-carried : (rs : List Rec) → all (shaped old_size) rs ≡ true → any p (used (map carried rs)) ≡ any q (used rs)
  any-carried rs h = any-count p _ ∙ ap is_positive (count-carried rs h) ∙ sym (any-count q _)

all_fit : (rs : List Rec) → all (shaped old_size) rs ≡ true → all device_fits (used (map carried rs)) ≡ all old_fits (used rs)
all_fit rs h =
    all-count device_fits _
    ∙ ap is_zero (count-carried (λ r. not (device_fits r)) (λ r. not (old_fits r)) (λ r s f. ap not (fits-carried r s f)) rs h)
    ∙ sym (all-count old_fits _)

distinct-carried : (rs : List Rec) → all (shaped old_size) rs ≡ true → distinct (key Devices) (map carried rs) ≡ distinct (key Devices) rs
unfolding distinct all
distinct-carried [] h = refl
distinct-carried (r ∷ rs) h =
    let a = and_parts (shaped old_size r) (all (shaped old_size) rs) h in
    rw (free-carried r a.0, distinct-carried rs a.1) (step (is_free r) refl a.0 a.1)
  where
    step : (b : Bool) → is_free r ≡ b → shaped old_size r ≡ true → all (shaped old_size) rs ≡ true
        → ((b || not (any (matches 0 (take 2 (carried r))) (used (map carried rs)))) && distinct 2 rs)
        ≡ ((b || not (any (matches 0 (take 2 r)) (used rs))) && distinct 2 rs)
    step true f s h = refl
    step false f s h = rw (any-carried _ _ (λ x. begins-carried r x s f) rs h)

-- The table

pub length-carried : (r : Rec) → length (carried r) ≡ size Devices
unfolding carried device_record octets
length-carried r =
    elim (is_free r) as (λ b. length (cond b (replicate 36 255) (as_device r)) ≡ 36)
    [ true ↦ refl | false ↦ omega (arith, shaped-length units_length (up_to (old_highest r)) (shaped-up_to (old_highest r))) ]

each-carried : (rs : List Rec) → Each (size Devices) (map carried rs)
each-carried [] = tt
each-carried (r ∷ rs) = (length-carried r, each-carried rs)

records-carried : (old : List ℕ) → table Devices (carried_table old) ≡ map carried (records old_size old)
unfolding carried_table
records-carried old = records-bytes (size Devices) (map carried (records old_size old)) (omega arith) (each-carried (records old_size old))

pub length-table : (old : List ℕ) → length old % old_size ≡ 0 → length (carried_table old) ≡ times * length old
unfolding carried_table
length-table old h =
    length-bytes (size Devices) (map carried (records old_size old)) (each-carried (records old_size old))
    ∙ rw (length-map (records old_size old) carried, length-records old_size old) (omega arith)

-- what a sound old table's length is
pub old_whole : (old : List ℕ) → old_sound old ≡ true → (length old % old_size ≡ 0) × (length old ≤ most Devices * old_size)
unfolding old_sound whole_records
old_whole old h =
    let w = split (split (split h).0).0 in
    (eqb-true (length old % old_size) 0 w.0, leb-true (length old) (most Devices * old_size) w.1)

-- whole records, and no more than there may be
whole-carried : (old : List ℕ) → length old % old_size ≡ 0
    → whole_records (size Devices) (most Devices) (carried_table old) ≡ whole_records old_size (most Devices) old
unfolding whole_records ◌&◌
whole-carried old h =
    let n : length (carried_table old) ≡ times * length old = length-table old h in
    let m : length (carried_table old) % size Devices ≡ 0 = omega arith in
    rw (eq-eqb (length (carried_table old) % size Devices) 0 m, eq-eqb (length old % old_size) 0 h)
    (same_truth _ _
    (λ e. le-leb (length old) (most Devices * old_size) (omega (arith, n, leb-true (length (carried_table old)) (most Devices * size Devices) e)))
    (λ e. le-leb (length (carried_table old)) (most Devices * size Devices) (omega (arith, n, leb-true (length old) (most Devices * old_size) e))))

module _ (old : List ℕ) (o : octet_string old ≡ true) where
  old_shaped : all (shaped old_size) (records old_size old) ≡ true
  old_shaped = shaped-records old_size old o

  -- A unit exists in the new table iff it existed in the old one
  pub units-carried : (d : DeviceAddress) (u : ℕ) → u ≤ 255 → unit_exists (table Devices (carried_table old)) d u ≡ old_unit_exists old d u
  unfolding unit_exists old_unit_exists
  units-carried d u l =
      rw (records-carried old, any-carried (has_unit d u) (old_has_unit d u) (λ r s f. has_unit-carried r s f d u l) (records old_size old) old_shaped)

  -- A device has rights by the new table iff it had them by the old one
  pub rights-carried : (d : DeviceAddress) → has_rights (table Devices (carried_table old)) d ≡ old_has_rights old d
  unfolding has_rights old_has_rights
  rights-carried d = rw (records-carried old, any-carried (may_command d) _ (λ r s f. rights-same r s f d) (records old_size old) old_shaped)

  -- The new table is sound iff the old one was
  pub sound-carried : (ds gs : List Rec) → length old % old_size ≡ 0 → sound_table Devices ds gs (carried_table old) ≡ old_sound old
  unfolding old_sound sound_table fits
  sound-carried ds gs h =
      rw (whole-carried old h, records-carried old, all_fit (records old_size old) old_shaped, distinct-carried (records old_size old) old_shaped)
