-- The records that calls store: each has its table's size, is made of octets, and is no free record.
use Rattle.words.specs.Basics.{◌≡◌, refl, Bool, true, false, ◌&&◌, List, [], ◌∷◌, ℕ, suc, ◌+◌, ◌-◌, ◌/◌, ◌%◌, ◌<◌, ◌≤◌, arith, eqb, leb, length, take, drop}
use Rattle.words.specs.Basics.{replicate, length-append, length-replicate, drop_at, eq-eqb, ne_eqb, leb-true, le-leb}
use Rattle.rules.specs.Types.{DeviceAddress, GroupAddress, Devices, Binds, Groups, Members, Sessions}
use Rattle.rules.specs.Lists.{all}
use Rattle.rules.specs.Octets.{octet, word, octets, flag, ignore_top, octet_string}
use Rattle.rules.specs.Tables.{Rec, is_free}
use Rattle.rules.specs.Layout.{size, key, units_length, longest_name, device_address, device_rights, device_units, device_record, group_record}
use Rattle.rules.specs.Layout.{bind_source, session_record}
use Rattle.rules.specs.Sound.{address_fits, device_in_range, device_fits, group_fits}
use Rattle.rules.specs.Payloads.{bind_of, member_of, group_named}
use Rattle.rules.proofs.Lists.{and_parts, split, join, all_append, all_replicate}
use Rattle.rules.proofs.Words.{shaped, shaped-length, shaped-octets, octet_small}

pub record Stored (k : ℕ) (r : Rec) : Type 0 where
  pub shape : shaped k r ≡ true
  pub used : is_free r ≡ false

-- a first octet below 255 makes a record no free one
stored : (k o : ℕ) (r : Rec) → length (o ∷ r) ≡ k → o < 255 → octet_string r ≡ true → Stored k (o ∷ r)
unfolding shaped is_free octet_string all
stored k o r e l h = record {
  shape = join (eq-eqb (length (o ∷ r)) k e) (rw (le-leb o 255 (omega arith)) h);
  used = rw (ne_eqb o 255 (λ z. omega arith));
}

-- the tail of a string of octets
pub octets-behind : (o : ℕ) (s : List ℕ) → octet_string (o ∷ s) ≡ true → octet_string s ≡ true
unfolding octet_string all
octets-behind o s h = (and_parts (leb o 255) (all (λ o. leb o 255) s) h).1

octets-before : (o : ℕ) (s : List ℕ) → o ≤ 255 → octet_string s ≡ true → octet_string (o ∷ s) ≡ true
unfolding octet_string all
octets-before o s l h = rw (le-leb o 255 l) h

pub bind_stored : (p : List ℕ) → length p ≡ size Binds → octet_string p ≡ true → Stored (size Binds) (bind_of p)
unfolding bind_of ignore_top
bind_stored [] e h = absurd (omega arith)
bind_stored (o ∷ p) e h = stored 8 (o % 128) p e (omega arith) (octets-behind o p h)

pub member_stored : (p : List ℕ) → length p ≡ size Members → octet_string p ≡ true → Stored (size Members) (member_of p)
unfolding member_of ignore_top
member_stored [] e h = absurd (omega arith)
member_stored (a ∷ []) e h = absurd (omega arith)
member_stored (a ∷ b ∷ []) e h = absurd (omega arith)
member_stored (a ∷ b ∷ c ∷ p) e h =
    let i = octets-behind a (b ∷ c ∷ p) h in
    stored 5 (a % 128) (b ∷ c % 128 ∷ p) e (omega arith)
    (octets-before b (c % 128 ∷ p) (octet_small (b ∷ c ∷ p) 0 i) (octets-before (c % 128) p (omega arith) (octets-behind c p (octets-behind b (c ∷ p) i))))

-- a group's address in a payload is 15 bits
pub named_small : (p : List ℕ) → octet_string p ≡ true → (group_named p).0 < 32768
unfolding group_named word ignore_top
named_small [] h = omega arith
named_small (o ∷ p) h = omega (arith, octet_small (o ∷ p) 1 h)

-- .. as is a source's: "Octet 1's top bit .. is ignored in a command and stored as 0"
pub source-flag : (p : List ℕ) → octet_string p ≡ true → eqb (flag (bind_source (bind_of p)).0) 0 ≡ true
unfolding group_named bind_of flag
source-flag p h = eq-eqb (flag (bind_source (bind_of p)).0) 0 (omega (arith, named_small p h))

-- the record of a group
module _ (g : GroupAddress) (p : List ℕ) where
  pub group_address_lem : word 0 (group_record g p) ≡ g.0
  unfolding word group_record octets
  group_address_lem = omega arith

  group-length : length p ≤ 1 + longest_name → length (group_record g p) ≡ size Groups
  unfolding group_record octets
  group-length h = simp (length-append, length-replicate) (omega arith)

  pub group_stored : g.0 ≤ 32766 → length p ≤ 1 + longest_name → octet_string p ≡ true → Stored (size Groups) (group_record g p)
  unfolding group_record octets octet_string
  group_stored h l o =
      stored (size Groups) (g.0 / 256) _ (group-length l) (omega arith)
      (octets-before (g.0 % 256) _ (omega arith) (all_append _ p _ o (all_replicate _ (1 + longest_name - length p) 0 refl)))

  group_padding : (n : ℕ) → length p ≡ 1 + n → all (λ o. eqb o 0) (drop (3 + n) (group_record g p)) ≡ true
  unfolding group_record octets
  group_padding n e =
      let z : 3 + n ≡ suc (suc (1 + n)) = omega arith in
      rw (z, drop_at p (replicate (1 + longest_name - length p) 0) (1 + n) e) (all_replicate _ (1 + longest_name - length p) 0 refl)

  pub group_meets : 1 ≤ g.0 → g.0 ≤ 32766 → length p ≡ 1 + octet 0 p → octet 0 p ≤ longest_name → group_fits (group_record g p) ≡ true
  unfolding group_fits address_fits group_record octets
  group_meets low high e n =
      let s = name p e in
      rw (group_address_lem, s) (join (join (join (le-leb 1 g.0 low) (le-leb g.0 32766 high)) (le-leb (octet 0 p) longest_name n))
      (group_padding (octet 0 p) e))
    where
      name : (p : List ℕ) → length p ≡ 1 + octet 0 p → octet 2 (group_record g p) ≡ octet 0 p
      name [] e = absurd (omega arith)
      name (o ∷ p) e = refl

-- the record of a device
module _ (d : DeviceAddress) (a : ℕ) (us : List ℕ) where
  device-shaped : d.0 < 65536 → a ≤ 255 → shaped units_length us ≡ true → shaped (size Devices) (device_record d a us) ≡ true
  unfolding device_record octets shaped
  device-shaped h i s =
      join (eq-eqb (length (device_record d a us)) (size Devices) (omega (arith, shaped-length units_length us s)))
      (octets-before (d.0 / 256) _ (omega arith)
      (octets-before (d.0 % 256) _ (omega arith)
      (octets-before a _ (omega arith) (octets-before 0 us (omega arith) (shaped-octets units_length us s)))))

  -- the 0 behind its rights makes it no free record
  device-used : is_free (device_record d a us) ≡ false
  unfolding device_record octets is_free all
  device-used = three (eqb (d.0 / 256) 255) (eqb (d.0 % 256) 255) (eqb a 255)
    where
      three : (x y z : Bool) → (x && (y && (z && false))) ≡ false
      three true true true = refl
      three true true false = refl
      three true false z = refl
      three false y z = refl

  pub device_stored : d.0 < 65536 → a ≤ 255 → shaped units_length us ≡ true → Stored (size Devices) (device_record d a us)
  device_stored h i s = record { shape = device-shaped h i s; used = device-used }

  pub device_address_lem : word 0 (device_record d a us) ≡ d.0
  unfolding word device_record octets
  device_address_lem = omega arith

  pub device_meets : device_in_range d a us ≡ true → device_fits (device_record d a us) ≡ true
  unfolding device_fits device_record octets
  device_meets h = join (rw (device_address_lem) h) refl

  pub device-fields : device_in_range d a us ≡ true → (d.0 ≤ 32766) × (a ≤ 1)
  unfolding device_in_range address_fits
  device-fields h =
      let x = split (split (split h).0).0 in
      (leb-true d.0 32766 (split (x.0)).1, leb-true a 1 x.1)

pub device_high : (r : Rec) → device_fits r ≡ true → word 0 r ≤ 32766
unfolding device_fits
device_high r h = (device-fields (device_address r) (device_rights r) (device_units r) (split h).0).0

-- the record of a session
module _ (d : DeviceAddress) where
  pub session_stored : d.0 < 32768 → Stored (size Sessions) (session_record d)
  unfolding session_record octets octet_string all
  session_stored h = stored (size Sessions) (d.0 / 256) (d.0 % 256 ∷ []) refl (omega arith) (octets-before (d.0 % 256) [] (omega arith) refl)

  pub session_key : take (key Sessions) (session_record d) ≡ octets d.0
  unfolding session_record octets
  session_key = refl

  pub session_device_lem : word 0 (session_record d) ≡ d.0
  unfolding word session_record octets
  session_device_lem = omega arith
