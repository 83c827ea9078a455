-- Laws of delivery: what was collected from none on is put in order, and is what the rules say.
use Rattle.std.specs.Prelude.{Some}
use Rattle.words.specs.Basics.{◌≡◌, refl, sym, ap, ◌∙◌, true, List, [], ◌∷◌, flat_map, ℕ, ◌+◌, ◌*◌, ◌/◌, ◌%◌, ◌≤◌, max, arith, eqb, leb, length, leb-true}
use Rattle.words.specs.Names.{longest}
use Rattle.words.specs.declared.Destination.{Destination}
use Rattle.rules.specs.Types.{DeviceAddress, GroupAddress, Fields, Concentrator, BindAddress, Unit, Group, Kind, Binds, Members}
use Rattle.rules.specs.Octets.{over}
use Rattle.rules.specs.Units.{unit_number, unit_octets, ordered, once, without}
use Rattle.rules.specs.Message.{sender}
use Rattle.rules.specs.Layout.{size, most, full}
use Rattle.rules.specs.Frame.{Lent, lent_of, table}
use Rattle.rules.specs.Calls.{roomy}
use Rattle.rules.specs.Sound.{whole_records, sound_table, sound}
use Rattle.rules.specs.Recipients.{recipients}
use Rattle.rules.proofs.Lists.{split}
use Rattle.rules.proofs.Order.{length-ordered, length-unit_octets}
use Rattle.rules.proofs.Kept.{sound-at}
use Rattle.units.specs.Listing.{units, added_all, Listing, Taken, Enough}
use Rattle.collecting.specs.Leaving.{leaving, members_but, bound_but}
use Rattle.delivery.specs.Delivering.{Deliverable}
use Rattle.units.proofs.Units.{has-none}
use Rattle.units.proofs.Taking.{added_new, once-added_all, ordered-added_all}
use Rattle.units.proofs.Listing.{over-over, units-written}
use Rattle.delivery.proofs.Enough.{Within, count-within, enough_within}

-- Collected from none on

module _ {vs : List ℕ} {n₀ : ℕ} {l : List ℕ} {n : ℕ} {l' : List ℕ} (z : n₀ ≡ 0) (t : Taken vs n₀ l n l') where
  from-none : Listing l l' n (added_all vs [])
  unfolding units
  from-none = record { count = t.count ∙ rw z; octets = t.octets ∙ rw z }

  all_taken : units n l' ≡ added_all vs []
  all_taken = ap (units n) from-none.octets ∙ rw from-none.count (units-written (added_all vs []) l)

  -- none stands twice, and they are no more than a list that has them all
  pub collected_fits : (ws : List ℕ) → Within vs ws → length ws ≤ most Binds + most Members → 3 * length ws ≤ length l'
      → (3 * n ≤ length l') × (n ≤ most Binds + most Members) × (once (units n l') ≡ true)
  unfolding once
  collected_fits ws w h k =
      let f : n ≤ length ws = omega (arith, from-none.count, count-within vs ws w) in
      (omega arith, omega arith, rw all_taken (once-added_all vs [] refl))

  -- .. and then put in order
  pub collected_ordered : {l'' : List ℕ} → l'' ≡ over (unit_octets (ordered (units n l'))) l' → Listing l l'' n (ordered vs)
  unfolding once
  collected_ordered {l''} e =
      let o : ordered (units n l') ≡ ordered vs = ap ordered all_taken ∙ ordered-added_all vs in
      let c : n ≡ length (ordered vs) = from-none.count ∙ sym (length-ordered (added_all vs []) (once-added_all vs [] refl)) ∙ ap length (ordered-added_all vs) in
      let h : length (unit_octets (added_all vs [])) ≤ length (unit_octets (ordered vs)) = rw (length-unit_octets, length-unit_octets)
      (omega (arith, from-none.count)) in
      record {
        count = c;
        octets = e ∙ rw o (ap (over (unit_octets (ordered vs))) from-none.octets ∙ over-over (unit_octets (added_all vs [])) (unit_octets (ordered vs)) l h);
      }

-- one alone, whose number in the code is w
pub collected_one : {u w n₀ n : ℕ} {l l' : List ℕ} → w ≡ u → n₀ ≡ 0 → Taken (w ∷ []) n₀ l n l' → Listing l l' n (u ∷ [])
unfolding added_all
collected_one {u} {w} e z t = rw (added_new w [] (has-none w), e) at (from-none z t)

pub enough_for_first : {u n : ℕ} {l : List ℕ} → n ≡ 0 → 3 ≤ length l → Enough (u ∷ []) n l
enough_for_first {u} z h = enough_within (u ∷ []) z (λ x e. e) (omega arith)

-- Each kind of destination, by the rules

module _ (bs ms : List ℕ) (f : Fields) (l : List ℕ) {to : Destination} where
  pub delivered-none : to ≡ Concentrator → Listing l l 0 (recipients (table Binds bs) (table Members ms) to f)
  unfolding recipients over unit_octets flat_map
  delivered-none e = rw e (record { count = refl; octets = refl })

  module _ {n : ℕ} {l' : List ℕ} where
    pub delivered-binds : {s : ℕ} → to ≡ BindAddress → s ≡ sender f → Listing l l' n (ordered (bound_but (Some s) f (table Members ms) (table Binds bs)))
        → Listing l l' n (recipients (table Binds bs) (table Members ms) to f)
    unfolding recipients bound_but leaving without
    delivered-binds e q h = rw (e, ← q) h

    pub delivered_unit : {d : DeviceAddress} {u : ℕ} → to ≡ Unit d u → Listing l l' n (unit_number d u ∷ [])
        → Listing l l' n (recipients (table Binds bs) (table Members ms) to f)
    unfolding recipients
    delivered_unit e h = rw e h

    pub delivered-group : {s : ℕ} {g : GroupAddress} → to ≡ Group g → s ≡ sender f → Listing l l' n (ordered (members_but (Some s) g (table Members ms)))
        → Listing l l' n (recipients (table Binds bs) (table Members ms) to f)
    unfolding recipients members_but leaving without
    delivered-group e q h = rw (e, ← q) h

-- What delivery asks for, from what the rules check

within_limit : (L : Lent) → sound L ≡ true → (k : Kind) → length (lent_of k L) ≤ full k
unfolding sound_table whole_records
within_limit L s k =
    let w : whole_records (size k) (most k) (lent_of k L) ≡ true = (split (split (sound-at L s k)).0).0 in
    leb-true (length (lent_of k L)) (full k) (split {a = eqb (length (lent_of k L) % size k) 0} w).1

pub deliverable : (L : Lent) (reply list : List ℕ) → roomy L.binds L.members reply list ≡ true → sound L ≡ true
    → Deliverable L.binds L.members list
unfolding roomy
deliverable L reply list r s = record {
  binds = within_limit L s Binds;
  members = within_limit L s Members;
  room = leb-true (3 * max 1 (length L.binds / size Binds + length L.members / size Members)) (length list)
      (split {a = leb longest (length reply)} r).1;
}
