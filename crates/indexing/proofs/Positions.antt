-- The bind at a position: where it stands in the octets of the table, and what is said of it.
use lib.ListN.{get_or-eq_default}
use native.Mathlib.Nat.{add-zero, zero-add, zero-mul}
use Rattle.words.specs.Basics.{◌≡◌, refl, sym, ◌∙◌, Bool, true, false, not, List, [], ℕ, zero, suc, ◌+◌, ◌*◌, ◌/◌, ◌^◌, ◌<◌, ◌≤◌, arith, ltb, length, get_or}
use Rattle.words.specs.Basics.{take, drop, ltb-true, ltb-false, lt-ltb, le-ltb}
use Rattle.rules.specs.Types.{Binds}
use Rattle.rules.specs.Lists.{◌&◌}
use Rattle.rules.specs.Octets.{octet, word}
use Rattle.rules.specs.Tables.{records, is_free}
use Rattle.rules.specs.Layout.{size}
use Rattle.rules.specs.Frame.{table}
use Rattle.rules.proofs.Records.{records-at, length-records, octet-at}
use Rattle.index_rules.specs.Index.{entry, entry_used, entry_rank}
use Rattle.index_rules.specs.Walks.{below, device_rank}
use Rattle.index_rules.proofs.Nearby.{device_low, device_high}
use Rattle.index_rules.proofs.Right.{used-within}

record-at : (k at p : ℕ) (t : List ℕ) → 0 < k → at + suc p * k ≤ length t → get_or (records k (drop at t)) p [] ≡ take k (drop (at + p * k) t)
record-at k at zero t h l = rw (records-at k at t h (omega arith), zero-mul, add-zero)
record-at k at (suc p) t h l =
    let e : at + suc p * k ≡ at + k + p * k = omega arith in
    rw (records-at k at t h (omega arith), e) (record-at k (at + k) p t h (omega arith))

word_first : (at : ℕ) (t : List ℕ) → word at t ≡ word 0 (take (size Binds) (drop at t))
unfolding word
word_first at t = rw (octet-at (size Binds) at 0 t (omega arith), octet-at (size Binds) at 1 t (omega arith), add-zero)

module _ (p : ℕ) (t : List ℕ) where
  pub entry_at : p < length t / size Binds → entry (table Binds t) p ≡ take (size Binds) (drop (p * size Binds) t)
  unfolding entry
  entry_at h = rw zero-add at (record-at (size Binds) 0 p t (omega arith) (omega arith))

  pub used_inside : entry_used (table Binds t) p ≡ true → p < length t / size Binds
  used_inside h = rw length-records at (used-within (table Binds t) p h)

  -- past the last position there is none

  pub used_past : length t / size Binds ≤ p → false ≡ entry_used (table Binds t) p
  unfolding entry_used ◌&◌
  used_past h = rw (length-records, le-ltb p (length t / size Binds) h)

  pub below_past : (w : ℕ) → length t / size Binds ≤ p → false ≡ below (table Binds t) w p
  unfolding below ◌&◌
  below_past w h = rw (length-records, le-ltb p (length t / size Binds) h)

  -- at any other the record decides

  pub used-there : {b : Bool} → p < length t / size Binds → b ≡ is_free (take (size Binds) (drop (p * size Binds) t)) → not b ≡ entry_used (table Binds t) p
  unfolding entry_used ◌&◌
  used-there h e = rw (length-records, lt-ltb p (length t / size Binds) h, entry_at h, e)

  pub below-there : (w : ℕ) {v : ℕ} → p < length t / size Binds → v ≡ entry_rank (table Binds t) p → ltb v w ≡ below (table Binds t) w p
  unfolding below ◌&◌
  below-there w h e = rw (length-records, lt-ltb p (length t / size Binds) h, e)

-- an octet of a bind is one of the table's, and past the table there is none
pub entry-octet : (t : List ℕ) → ((i : ℕ) → get_or t i 0 < 256) → (p : ℕ) → octet 2 (entry (table Binds t) p) ≤ 255
unfolding entry
entry-octet t o p = step (ltb p (length t / size Binds)) refl
  where
    step : (b : Bool) → ltb p (length t / size Binds) ≡ b → octet 2 (entry (table Binds t) p) ≤ 255
    step true e =
        let h = ltb-true p (length t / size Binds) e in
        rw (entry_at p t h, octet-at (size Binds) (p * size Binds) 2 t (omega arith)) (omega (arith, o (p * size Binds + 2)))
    step false e =
        let n : length (table Binds t) ≤ p = rw length-records (ltb-false p (length t / size Binds) e) in
        rw (get_or-eq_default (table Binds t) [] n) (omega arith)

-- a rank of another device than the bind's: the devices decide
pub below-device : (p : ℕ) (t : List ℕ) (w : ℕ) {v q : ℕ} → ((i : ℕ) → get_or t i 0 < 256) → p ≤ 255 → p < length t / size Binds
    → v ≡ word (p * size Binds) t → q ≡ w / 2 ^ 32 → (v ≡ q → ⊥) → ltb v q ≡ below (table Binds t) w p
unfolding below ◌&◌ device_rank
below-device p t w {v} {q} o l h e f n =
    let at : v ≡ word 0 (entry (table Binds t) p) = e ∙ rw (entry_at p t h) (word_first (p * size Binds) t) in
    rw (length-records, lt-ltb p (length t / size Binds) h) (step at (ltb v q) refl)
  where
    step : v ≡ word 0 (entry (table Binds t) p) → (b : Bool) → ltb v q ≡ b → b ≡ ltb (entry_rank (table Binds t) p) w
    step at true c =
        let i = ltb-true v q c in
        let r : entry_rank (table Binds t) p < q * 2 ^ 32 = device_low (table Binds t) q p (entry-octet t o p) l (omega arith) in
        sym (lt-ltb (entry_rank (table Binds t) p) w (omega arith))
    step at false c =
        let i = ltb-false v q c in
        let r : suc q * 2 ^ 32 ≤ entry_rank (table Binds t) p = device_high (table Binds t) (suc q) p (entry-octet t o p) l (omega arith) in
        sym (le-ltb (entry_rank (table Binds t) p) w (omega arith))
