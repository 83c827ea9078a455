-- What the loops over an index know at each turn: what is left to do gives the answer.
use lib.Seq.{drop-set-lt, take-append_seam, take-append-add, take-append-le, take-take, take-suc-set}
use Rattle.std.specs.Prelude.{Option, None, Some}
use Rattle.std.specs.Option.{unwrap_or}
use Rattle.std.proofs.lemmas.List.Recursion.{is_position_or_len}
use Rattle.std.proofs.lemmas.List.Sums.{prefix_len-le-length}
use native.Mathlib.Numerals.{add-one}
use Rattle.std.specs.List.{copy_within, position_or_len}
use Rattle.words.specs.Basics.{ltb, ltb-false, not, length-append, drop_at, ap, [], ◌≡◌, refl, sym, ◌∙◌, Bool, true, false, cond, List, ◌∷◌, ◌++◌}
use Rattle.words.specs.Basics.{append_assoc, append-nil, ℕ, suc, ◌+◌, ◌-◌, ◌≤◌, ◌<◌, arith, length, take, drop, get_or, set, replicate, length-set}
use Rattle.words.specs.Basics.{length-replicate, length-take-le, take_all, drop-cons, drop_of_length-le, sets, sets-eq, drop-length}
use Rattle.rules.specs.Lists.{keep}
use Rattle.rules.specs.Tables.{Rec, free, is_free}
use Rattle.index_rules.specs.Index.{filled}
use Rattle.index_rules.specs.Walks.{insert_at, first_free}

-- The first free record

first_free_is : (bs : List Rec) → first_free bs ≡ position_or_len is_free bs
unfolding first_free
first_free_is bs = is_position_or_len first_free is_free refl more bs
  where
    more : (b : Rec) (bs : List Rec) → cond (is_free b) 0 (suc (first_free bs)) ≡ cond (is_free b) 0 (1 + first_free bs)
    more b bs = elim (is_free b) as (λ x. cond x 0 (suc (first_free bs)) ≡ cond x 0 (1 + first_free bs)) [ true ↦ refl | false ↦ omega arith ]

pub first_free_found : (bs : List Rec) {r : Option ℕ} {n : ℕ} → n ≡ length bs
    → r ≡ cond (ltb (position_or_len is_free bs) (length bs)) (Some (position_or_len is_free bs)) None → unwrap_or r n ≡ first_free bs
first_free_found bs {r} {n} l e = rw e (go (ltb (position_or_len is_free bs) (length bs)) refl)
  where
    go : (b : Bool) → ltb (position_or_len is_free bs) (length bs) ≡ b → unwrap_or (cond b (Some (position_or_len is_free bs)) None) n ≡ first_free bs
    go true h = sym (first_free_is bs)
    go false h = omega (arith, first_free_is bs, ltb-false (position_or_len is_free bs) (length bs) h, prefix_len-le-length (λ b. not (is_free b)) bs)

-- Keeping the octets that pass: those in front are kept, those from i on are to be looked at

pub record Keeping (Q : ℕ → Bool) (s₀ s : List ℕ) (kept i : ℕ) : Type 0 where
  pub behind : kept ≤ i
  pub within : i ≤ length s
  pub same : length s ≡ length s₀
  pub rest : take kept s ++ keep Q (drop i s) ≡ keep Q s₀

pub keeping_start : {Q : ℕ → Bool} {s : List ℕ} → Keeping Q s s 0 0
keeping_start = record { behind = omega arith; within = omega arith; same = refl; rest = refl }

module _ {Q : ℕ → Bool} {s₀ s : List ℕ} {kept i : ℕ} (c : Keeping Q s₀ s kept i) where
  module _ (h : i < length s) {b : Bool} (e : b ≡ Q (get_or s i 0)) where
    pub keeping_more : b ≡ true → Keeping Q s₀ (set s kept (get_or s i 0)) (kept + 1) (i + 1)
    unfolding keep
    keeping_more f =
        let k : kept < length s = omega (arith, c.behind) in
        let l : kept < suc i = omega (arith, c.behind) in
        let r : take kept s ++ get_or s i 0 ∷ keep Q (drop (suc i) s) ≡ keep Q s₀ = rw (drop-cons s i 0 h, ← e, f) at c.rest in
        record {
          behind = omega (arith, c.behind);
          within = rw length-set (omega arith);
          same = rw length-set c.same;
          rest = rw (add-one kept, add-one i, take-suc-set s kept (get_or s i 0) k, drop-set-lt (suc i) s kept (get_or s i 0) l) (rw append_assoc r);
        }

    pub keeping_less : b ≡ false → Keeping Q s₀ s kept (i + 1)
    unfolding keep
    keeping_less f =
        let r : take kept s ++ keep Q (drop (suc i) s) ≡ keep Q s₀ = rw (drop-cons s i 0 h, ← e, f) at c.rest in
        record { behind = omega (arith, c.behind); within = omega arith; same = c.same; rest = rw (add-one i) r }

  pub keeping_end : length s ≤ i → sets s kept (replicate (length s - kept) free) ≡ filled (length s₀) (keep Q s₀)
  unfolding filled keep
  keeping_end h =
      let k : take kept s ≡ keep Q s₀ = sym (append-nil (take kept s)) ∙ rw (drop_of_length-le s h) at c.rest in
      let n : length (keep Q s₀) ≡ kept = rw (← k) (length-take-le kept s (omega (arith, c.behind, c.within))) in
      let m : kept + length (replicate (length s - kept) free) ≡ length s = rw length-replicate (omega (arith, c.behind, c.within)) in
      rw (sets-eq (replicate (length s - kept) free) s kept (omega (arith, m)), m, drop-length s, append-nil, k, n, c.same)

-- Putting one in: those from its place on are moved up

pub put_in_place : (at v : ℕ) (s : List ℕ) → at < length s → set (copy_within s at (length s - 1) (at + 1)) at v ≡ insert_at at v s
unfolding insert_at
put_in_place at v s h =
    let n : at + 1 + (length s - 1 - at) ≡ length s = omega arith in
    let k = length s - 1 - at in
    let y : copy_within s at (length s - 1) (at + 1) ≡ take (at + 1) s ++ take (length s - 1 - at) (drop at s) = rw (n, drop-length, append-nil) in
    let w : length (take (at + 1) s) ≡ at + 1 = length-take-le (at + 1) s (omega arith) in
    let t : take at (copy_within s at (length s - 1) (at + 1)) ≡ take at s =
    ap (take at) y ∙ take-append-le at (take (at + 1) s) (take k (drop at s)) (omega arith) ∙ take-take at (at + 1) s (omega arith) in
    let d : drop (at + 1) (copy_within s at (length s - 1) (at + 1)) ≡ take k (drop at s) =
    ap (drop (at + 1)) y ∙ drop_at (take (at + 1) s) (take k (drop at s)) (at + 1) w in
    let e : length s ≡ length (take at s) + suc k = omega (arith, length-take-le at s (omega arith)) in
    sets-eq (v ∷ []) (copy_within s at (length s - 1) (at + 1)) at (omega (arith, ap length y, length-append (take (at + 1) s) (take k (drop at s)), w))
    ∙ rw (t, d)
    (append_assoc (take at s) (v ∷ []) (take k (drop at s))
    ∙ sym (ap (λ (m : ℕ). take m (take at s ++ v ∷ drop at s)) e ∙ take-append-add (take at s) (v ∷ drop at s) (suc k)))

pub put_in_past : (at v : ℕ) (s : List ℕ) → length s ≤ at → s ≡ insert_at at v s
unfolding insert_at
put_in_past at v s h =
    let e : take (length s) (take at s ++ v ∷ drop at s) ≡ s = rw (take_all at s h) (take-append_seam s (v ∷ drop at s)) in
    sym e
