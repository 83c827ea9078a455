-- Laws of the loop over old records, where what is left to carry over gives the table.
use Rattle.words.specs.Basics.{◌≡◌, sym, ap, ◌∙◌, List, append-nil, map, ℕ, ◌+◌, ◌*◌, ◌%◌, ◌<◌, arith, length, length-append}
use Rattle.words.specs.Basics.{drop-length, length-sets, sets}
use Rattle.rules.specs.Types.{Devices}
use Rattle.rules.specs.Octets.{over}
use Rattle.rules.specs.Tables.{Rec, records, bytes}
use Rattle.rules.specs.Layout.{size}
use Rattle.rules.specs.Carry.{old_size, times, carried, carried_table}
use Rattle.rules.proofs.Carried.{length-carried, length-table}
use Rattle.octets.proofs.Runs.{sets_over, sets_behind}
use Rattle.records.proofs.Walks.{Rest, Comes, left_more, left_end}

-- i records are carried over; of chunks of n octets the octets t are left
pub record Carrying (old new₀ new t : List ℕ) (n i : ℕ) : Type 0 where
  pub room : length new ≡ times * length old
  pub place : i * old_size + length t ≡ length old
  pub left : Rest (λ rs. sets new (i * size Devices) (bytes (map carried rs))) old_size (sets new₀ 0 (carried_table old)) n t

pub carrying_start : {old new t : List ℕ} {n i : ℕ} → length new ≡ times * length old → t ≡ old → n ≡ old_size → i ≡ 0 → Carrying old new new t n i
unfolding carried_table
carrying_start {old} {new} h e f g = record {
  room = h;
  place = omega (arith, ap length e, g);
  left = record { some = omega arith; size = f; rest = rw (e, g) };
}

pub carrying_more : {old new₀ new new' w t t' m m' : List ℕ} {n n' i i' j : ℕ} (r : Rec) → Carrying old new₀ new t n i → Comes n t r n' t' m m'
    → j ≡ i → i' ≡ i + 1 → w ≡ carried r → new' ≡ sets new (j * size Devices) w → Carrying old new₀ new' t' n' i'
carrying_more {old} {new₀} {new} {new'} {w} {t} {t'} {i = i} {i'} {j} r c s f g d e =
    let n : i * size Devices + length (carried r) ≡ i' * size Devices = rw length-carried (omega arith) in
    let h : new' ≡ sets new (i * size Devices) (carried r) = e ∙ rw (f, d) in
    record {
      room = ap length h ∙ length-sets new (i * size Devices) (carried r) ∙ c.room;
      place = omega (arith, ap length s.1.0, s.1.1, c.left.size, c.place, length-append r t');
      left = left_more r c.left s (rw h (sym (sets_behind new (carried r) (bytes (map carried (records old_size t'))) (i * size Devices) n)));
    }

pub carrying_end : {old new₀ new t : List ℕ} {n i : ℕ} → Carrying old new₀ new t n i → length t < n → length old % old_size ≡ 0 → length new₀ ≡ times * length old
    → new ≡ carried_table old
unfolding over
carrying_end {old} {new₀} {new} c l h r =
    let n : length (carried_table old) ≡ length new₀ = length-table old h ∙ sym r in
    left_end c.left l ∙ sets_over (carried_table old) new₀ (omega arith) ∙ rw (n, drop-length, append-nil)
