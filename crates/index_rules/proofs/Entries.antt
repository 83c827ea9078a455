-- An index in order, entry by entry: the entries below a rank come first, and a test of entries is a test of ranks.
use Rattle.words.specs.Basics.{◌≡◌, refl, sym, ap, ◌∙◌, Bool, true, false, cond, not, ◌||◌, List, [], ◌∷◌, ◌++◌, map, ℕ, zero, suc, ◌-◌, ◌≤◌, ◌<◌, arith}
use Rattle.words.specs.Basics.{ltb, length, replicate, get_or, length-append, length-map, length-replicate, ltb-true, ltb-false, le-ltb}
use Rattle.rules.specs.Lists.{tick, count, any, all, ◌&◌}
use Rattle.rules.specs.Units.{ordered, rising}
use Rattle.rules.specs.Tables.{Rec, free}
use Rattle.rules.proofs.Lists.{and_parts, split, all_append, all_replicate, any_append, count-length}
use Rattle.rules.proofs.Order.{rising_parts, rising-ordered}
use Rattle.index_rules.specs.Index.{position, ranks, filled, right_index, entry_used}
use Rattle.index_rules.specs.Walks.{below, ranked, placed, Listed}
use Rattle.index_rules.proofs.Ranks.{ranks-length, placed-used, placed-rank, placed-in_order, length-in_order}
use Rattle.index_rules.proofs.Leading.{leading, none-leading, leading_pass, leading_fail}

-- The entries and what fills the rest

module _ (bs : List Rec) (few : length bs ≤ 255) where
  -- 0xFF is no entry
  pub free_unused : entry_used bs free ≡ false
  unfolding entry_used ◌&◌
  free_unused = rw (le-ltb free (length bs) few)

  pub free_above : (w : ℕ) → below bs w free ≡ false
  unfolding below ◌&◌
  free_above w = rw (le-ltb free (length bs) few)

  used-there : (p : ℕ) → entry_used bs p ≡ true → ltb p (length bs) ≡ true
  unfolding entry_used
  used-there p h = (split h).0

  module _ (w : ℕ) where
    -- whether an entry is below w is whether its rank is
    pub below-rank : (u : ℕ) → placed bs u ≡ true → below bs w (position u) ≡ ltb u w
    unfolding below ◌&◌
    below-rank u h = rw (used-there (position u) (placed-used bs u h), placed-rank bs u h)

    none_below : (v : ℕ) (us : List ℕ) → w ≤ v → all (ltb v) us ≡ true → all (placed bs) us ≡ true → all (λ p. not (below bs w p)) (map position us) ≡ true
    unfolding all
    none_below v [] l h g = refl
    none_below v (u ∷ us) l h g =
        let a = and_parts (ltb v u) (all (ltb v) us) h in
        let b = and_parts (placed bs u) (all (placed bs) us) g in
        let i = ltb-true v u a.0 in
        rw (below-rank u b.0, le-ltb u w (omega arith)) (none_below v us l a.1 b.1)

    none_filled : (k : ℕ) → all (λ p. not (below bs w p)) (replicate k free) ≡ true
    none_filled k = all_replicate (λ p. not (below bs w p)) k free (rw (free_above w))

    leading-filled : (us : List ℕ) (k : ℕ) → rising us ≡ true → all (placed bs) us ≡ true → leading (below bs w) (map position us ++ replicate k free) ≡ true
    unfolding leading all
    leading-filled [] k r p = none-leading (below bs w) (replicate k free) (none_filled k)
    leading-filled (u ∷ us) k r p =
        let a = rising_parts u us r in
        let b = and_parts (placed bs u) (all (placed bs) us) p in
        rw (below-rank u b.0) (step (ltb u w) refl a.0 b.1 (leading-filled us k a.1 b.1))
      where
        step : (b : Bool) → ltb u w ≡ b → all (ltb u) us ≡ true → all (placed bs) us ≡ true → leading (below bs w) (map position us ++ replicate k free) ≡ true
            → cond b (leading (below bs w) (map position us ++ replicate k free)) (all (λ p. not (below bs w p)) (map position us ++ replicate k free)) ≡ true
        step true e h g ih = ih
        step false e h g ih =
            all_append (λ p. not (below bs w p)) (map position us) (replicate k free) (none_below u us (ltb-false u w e) h g) (none_filled k)

    count-filled : (k : ℕ) → count (below bs w) (replicate k free) ≡ 0
    unfolding count
    count-filled zero = refl
    count-filled (suc k) = rw (free_above w) (count-filled k)

    -- as many entries are below w as ranks
    pub ranked-filled : (us : List ℕ) (k : ℕ) → all (placed bs) us ≡ true → ranked bs w (map position us ++ replicate k free) ≡ count (λ u. ltb u w) us
    unfolding ranked count all
    ranked-filled [] k p = count-filled k
    ranked-filled (u ∷ us) k p =
        let b = and_parts (placed bs u) (all (placed bs) us) p in
        rw (below-rank u b.0) (ap (tick (ltb u w)) (ranked-filled us k b.1))

-- a test that 0xFF fails is one of the entries
any_none : (F : ℕ → Bool) (k v : ℕ) → F v ≡ false → any F (replicate k v) ≡ false
unfolding any
any_none F zero v h = refl
any_none F (suc k) v h = rw h (any_none F k v h)

any_mapped : (F : ℕ → Bool) (us : List ℕ) → any F (map position us) ≡ any (λ u. F (position u)) us
unfolding any
any_mapped F [] = refl
any_mapped F (u ∷ us) = ap (λ b. F (position u) || b) (any_mapped F us)

pub any-filled : (F : ℕ → Bool) (us : List ℕ) (n : ℕ) → F free ≡ false → any F (filled n (map position us)) ≡ any (λ u. F (position u)) us
unfolding filled
any-filled F us n h =
    any_append F (map position us) (replicate (n - length (map position us)) free)
    ∙ rw (any_none F (n - length (map position us)) free h, any_mapped F us) (or-none (any (λ u. F (position u)) us))
  where
    or-none : (b : Bool) → (b || false) ≡ b
    or-none true = refl
    or-none false = refl

pub length-filled : (n : ℕ) (ps : List ℕ) → length ps ≤ n → length (filled n ps) ≡ n
unfolding filled
length-filled n ps h = rw (length-append, length-replicate) (omega arith)

-- The search

-- no more entries are below a rank than there are
pub ranked-few : (bs : List Rec) (w : ℕ) (ix : List ℕ) → ranked bs w ix ≤ length ix
unfolding ranked
ranked-few bs w ix = count-length (below bs w) ix

module _ {bs : List Rec} {ix : List ℕ} (I : Listed bs ix) (w : ℕ) where
  pub leading-listed : leading (below bs w) ix ≡ true
  unfolding filled
  leading-listed = rw I.octets (leading-filled bs I.few w I.ranks (length ix - length (map position I.ranks)) I.rises I.placed)

  pub halving_pass : {m : ℕ} {b : Bool} → m < length ix → b ≡ below bs w (get_or ix m 0) → b ≡ true → m < ranked bs w ix
  unfolding ranked
  halving_pass {m} l e h = leading_pass (below bs w) ix m leading-listed l (sym e ∙ h)

  pub halving_fail : {m : ℕ} {b : Bool} → m < length ix → b ≡ below bs w (get_or ix m 0) → b ≡ false → ranked bs w ix ≤ m
  unfolding ranked
  halving_fail {m} l e h = leading_fail (below bs w) ix m leading-listed l (sym e ∙ h)

-- The right index

-- is as long as the table has records
pub length-right : (bs : List Rec) → length bs ≤ 256 → length (right_index bs) ≡ length bs
unfolding right_index
length-right bs h =
    length-filled (length bs) (map position (ordered (ranks 0 bs)))
    (rw (length-map) (omega (arith, ranks-length 0 bs, length-in_order bs h)))

-- and is in order
pub right-listed : (bs : List Rec) → length bs ≤ 255 → Listed bs (right_index bs)
unfolding right_index
right-listed bs h = record {
  few = h;
  ranks = ordered (ranks 0 bs);
  rises = rising-ordered (ranks 0 bs);
  placed = placed-in_order bs (omega arith);
  octets = rw (length-right bs (omega arith));
}
