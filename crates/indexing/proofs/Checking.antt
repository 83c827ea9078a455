-- The loops of the check of an index. What is left gives the whole answer.
use native.Mathlib.Numerals.{add-one}
use Rattle.words.specs.Basics.{◌≡◌, refl, sym, ap, ◌∙◌, Bool, true, false, cond, ◌&&◌, List, [], ◌∷◌, ℕ, suc, ◌+◌, ◌/◌, ◌<◌, ◌≤◌, arith, leb, length}
use Rattle.std.specs.List.{filter}
use Rattle.words.specs.Basics.{not, get_or, drop, drop-cons, drop_of_length-le}
use Rattle.rules.specs.Types.{Binds}
use Rattle.rules.specs.Lists.{◌&◌}
use Rattle.rules.specs.Tables.{Rec, is_free}
use Rattle.rules.specs.Layout.{size}
use Rattle.rules.specs.Frame.{table}
use Rattle.rules.proofs.Records.{length-records}
use Rattle.index_rules.specs.Index.{rank, ranks, entry_rank, entry_used}
use Rattle.index_rules.specs.Walks.{rising_from}
use Rattle.index_rules.proofs.Ranks.{ranks-length}

-- Counting the used records

-- how many ranks there are does not depend on where the first record stands
ranks-number : (i j : ℕ) (bs : List Rec) → length (ranks i bs) ≡ length (ranks j bs)
unfolding ranks
ranks-number i j [] = refl
ranks-number i j (b ∷ bs) =
    let ih = ranks-number (suc i) (suc j) bs in
    elim (is_free b) as
    (λ x. length (cond x (ranks (suc i) bs) (rank b i ∷ ranks (suc i) bs)) ≡ length (cond x (ranks (suc j) bs) (rank b j ∷ ranks (suc j) bs)))
    [ true ↦ ih | false ↦ ap suc ih ]

-- they are as many as the records in use
pub used-ranks : (bs : List Rec) → length (filter (λ b. not (is_free b)) bs) ≡ length (ranks 0 bs)
unfolding ranks
used-ranks [] = refl
used-ranks (b ∷ bs) =
    let us = filter (λ b. not (is_free b)) bs in
    let ih = used-ranks bs ∙ ranks-number 0 1 bs in
    elim (is_free b) as (λ x. length (cond (not x) (b ∷ us) us) ≡ length (cond x (ranks 1 bs) (rank b 0 ∷ ranks 1 bs)))
    [ true ↦ ih | false ↦ ap suc ih ]

-- no more binds are in use than there are
pub used_few : (t : List ℕ) → length (ranks 0 (table Binds t)) ≤ length t / size Binds
used_few t = let l = length-records (size Binds) t in omega (arith, ranks-length 0 (table Binds t))

-- Walking the entries

-- does the entry name a used record, of rank `low` or above?
abbrev entry_from : List Rec → ℕ → ℕ → Bool
entry_from bs low p = entry_used bs p & leb low (entry_rank bs p)

pub record Rising (bs : List Rec) (ps : List ℕ) (low i : ℕ) : Type 0 where
  pub rest : rising_from bs low (drop i ps) ≡ rising_from bs 0 ps

module _ {bs : List Rec} {ps : List ℕ} {low i : ℕ} (c : Rising bs ps low i) where
  module _ (l : i < length ps) {p : ℕ} (e : p ≡ get_or ps i 0) where
    rising_step : rising_from bs 0 ps ≡ (entry_from bs low p && rising_from bs (suc (entry_rank bs p)) (drop (suc i) ps))
    unfolding rising_from
    rising_step = rw (e, ← c.rest, drop-cons ps i 0 l)

    pub rising_more : entry_from bs low p ≡ true → {v : ℕ} → v ≡ entry_rank bs p → Rising bs ps (v + 1) (i + 1)
    rising_more h {v} f = record { rest = rw (f, add-one (entry_rank bs p), add-one i) (sym (rw h at rising_step)) }

    pub rising_stop : entry_from bs low p ≡ false → false ≡ rising_from bs 0 ps
    rising_stop h = sym (rw h at rising_step)

  pub rising_end : length ps ≤ i → true ≡ rising_from bs 0 ps
  unfolding rising_from
  rising_end h = rw (drop_of_length-le ps h) at c.rest
