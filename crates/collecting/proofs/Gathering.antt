-- Gathering what records give, one list of records after the other, to the units that are there: of a table, or of the binds that an index names.
use Rattle.std.specs.Slice.Iter.{chunks_exact_rest, chunks_exact_size}
use Rattle.std.specs.declared.slice.ChunksExact.{ChunksExact}
use Rattle.words.specs.Basics.{◌≡◌, refl, sym, ap, ◌∙◌, List, [], ◌∷◌, ◌++◌, ℕ, ◌<◌, ◌≤◌, arith, length, get_or}
use Rattle.rules.specs.Octets.{over}
use Rattle.rules.specs.Units.{unit_octets}
use Rattle.rules.specs.Tables.{Rec, records}
use Rattle.rules.proofs.Records.{records-nil}
use Rattle.rules.proofs.Order.{length-unit_octets}
use Rattle.units.specs.Listing.{units, added_all, Taken, Enough}
use Rattle.units.proofs.Taking.{added_all_grows, added_all-append}
use Rattle.units.proofs.Listing.{length-units, over-over, units-written, enough_so_far, units-stand}
use Rattle.collecting.proofs.Collecting.{Additive}
use Rattle.records.proofs.Walks.{Comes, records_come}

-- what the records rs give is left to be gathered, of what rs₀ give to the first n₀ units of l₀
pub record Gathering (F : List Rec → List ℕ) (rs₀ : List Rec) (n₀ : ℕ) (l₀ : List ℕ) (rs : List Rec) (n : ℕ) (l : List ℕ) : Type 0 where
  pub same : length l ≡ length l₀
  pub octets : l ≡ over (unit_octets (units n l)) l₀
  pub rest : added_all (F rs) (units n l) ≡ added_all (F rs₀) (units n₀ l₀)

pub gathering_start : {F : List Rec → List ℕ} {rs : List Rec} {n : ℕ} {l : List ℕ} → ((i : ℕ) → get_or l i 0 < 256) → Enough (F rs) n l
    → Gathering F rs n l rs n l
gathering_start {F} {rs} {n} {l} o r = record { same = refl; octets = units-stand n l o (enough_so_far r); rest = refl }

module _ {F : List Rec → List ℕ} {rs₀ : List Rec} {n₀ : ℕ} {l₀ : List ℕ} {n : ℕ} {l : List ℕ} where
  -- the records qs are next
  module _ (qs rs : List Rec) (a : Additive F) (c : Gathering F rs₀ n₀ l₀ (qs ++ rs) n l) where
    step : added_all (F rs) (added_all (F qs) (units n l)) ≡ added_all (F rs₀) (units n₀ l₀)
    step = sym (added_all-append (F qs) (F rs) (units n l)) ∙ rw (← a qs rs) c.rest

    -- the list has enough octets for them
    pub gathering_enough : Enough (F rs₀) n₀ l₀ → Enough (F qs) n l
    gathering_enough r =
        let g = added_all_grows (F rs) (added_all (F qs) (units n l)) in
        record { fits = omega (arith, g, ap length step, r.fits, c.same) }

    -- .. and they have been taken
    pub gathering_more : {n' : ℕ} {l' : List ℕ} → length l' ≡ length l → Taken (F qs) n l n' l' → Gathering F rs₀ n₀ l₀ rs n' l'
    gathering_more {n'} {l'} s w =
        let us = added_all (F qs) (units n l) in
        let g : length (unit_octets (units n l)) ≤ length (unit_octets us) =
        rw (length-unit_octets, length-unit_octets) (omega (arith, added_all_grows (F qs) (units n l))) in
        let u : units n' l' ≡ us = ap (units n') w.octets ∙ rw w.count (units-written us l) in
        record {
          same = s ∙ c.same;
          octets = rw u (w.octets ∙ ap (over (unit_octets us)) c.octets ∙ over-over (unit_octets (units n l)) (unit_octets us) l₀ g);
          rest = rw u step;
        }

  -- none is left
  pub gathering_end : {rs : List Rec} → Gathering F rs₀ n₀ l₀ rs n l → F [] ≡ [] → rs ≡ [] → Taken (F rs₀) n₀ l₀ n l
  unfolding added_all
  gathering_end {rs} c e z =
      let u : units n l ≡ added_all (F rs₀) (units n₀ l₀) = rw (z, e) at c.rest in
      record { count = sym (length-units n l) ∙ ap length u; octets = rw u at c.octets }

-- .. of a table, one record after the other: those that its iterator has left

pub record Collecting (F : List Rec → List ℕ) (k : ℕ) (t₀ : List ℕ) (n₀ : ℕ) (l₀ : List ℕ) (s : ChunksExact ℕ) (n : ℕ) (l : List ℕ) : Type 0 where
  pub size : chunks_exact_size s ≡ k
  pub left : Gathering F (records k t₀) n₀ l₀ (records k (chunks_exact_rest s)) n l

pub collecting_start : {F : List Rec → List ℕ} {k : ℕ} {t : List ℕ} {n : ℕ} {l : List ℕ} {s : ChunksExact ℕ} → chunks_exact_size s ≡ k → chunks_exact_rest s ≡ t
    → ((i : ℕ) → get_or l i 0 < 256) → Enough (F (records k t)) n l → Collecting F k t n l s n l
collecting_start d e o r = record { size = d; left = rw e (gathering_start o r) }

module _ {F : List Rec → List ℕ} {k : ℕ} {t₀ : List ℕ} {n₀ : ℕ} {l₀ : List ℕ} {s : ChunksExact ℕ} {n : ℕ} {l : List ℕ} (h : 0 < k)
    (c : Collecting F k t₀ n₀ l₀ s n l) where
  -- the record r is next
  pub collecting_next : {m' : ℕ} {b b' : List ℕ} (r : Rec) (t' : List ℕ) → Comes (chunks_exact_size s) (chunks_exact_rest s) r m' t' b b'
      → Gathering F (records k t₀) n₀ l₀ ((r ∷ []) ++ records k t') n l
  collecting_next r t' w = rw (w.1.0, records_come k r t' h (w.1.1 ∙ c.size)) at c.left

  -- none is left
  pub collecting_end : F [] ≡ [] → length (chunks_exact_rest s) < chunks_exact_size s → Taken (F (records k t₀)) n₀ l₀ n l
  collecting_end e w = gathering_end c.left e (records-nil k (chunks_exact_rest s) (omega (arith, c.size)))
