-- Exactly one index is right for a table: the list that the paper's words describe is `right_index`, and no other.
use native.Mathlib.Nat.{mul-le-mul_right}
use Rattle.words.specs.Basics.{◌≡◌, refl, sym, ap, ◌∙◌, Bool, true, false, ◌&&◌, ◌||◌, List, [], ◌∷◌, map, ℕ, suc, ◌+◌, ◌*◌, ◌≤◌, ◌<◌, arith}
use Rattle.words.specs.Basics.{eqb, ltb, length, or-true, eqb-true, eqb-false, eq-eqb, ltb-true, ltb-false, lt-ltb, le-ltb}
use Rattle.rules.specs.Lists.{any, all, has, ◌&◌}
use Rattle.rules.specs.Octets.{octet, flag, number}
use Rattle.rules.specs.Units.{unit_number, unit_at, ordered, rising}
use Rattle.rules.specs.Tables.{Rec}
use Rattle.rules.specs.Layout.{bind_source, bind_source_unit, bind_uid, bind_role}
use Rattle.rules.proofs.Lists.{and_parts, split, join, same_truth, all_weaken, any_weaken, any_with, any-map}
use Rattle.rules.proofs.Order.{rising-ordered, rising_unique}
use Rattle.index_rules.specs.Index.{bind_key, rank, position, ranks, filled, right_index, entry, entry_used, entry_rank, lower, precedes, in_order, InWords}
use Rattle.index_rules.specs.Walks.{placed}
use Rattle.index_rules.proofs.Ranks.{position-rank, placed-used, placed-rank, has-in_order, placed-in_order}

-- Numbers of two digits: the first decides, and where it is equal the second

digits : (n a b x y : ℕ) → x < n → y < n → ltb (a * n + x) (b * n + y) ≡ lower a b (ltb x y)
unfolding lower ◌&◌
digits n a b x y h g = step (ltb a b) refl (eqb a b) refl
  where
    less : (c d x y : ℕ) → c < d → x < n → c * n + x < d * n + y
    less c d x y l h = let m : suc c * n ≤ d * n = mul-le-mul_right n l in omega (arith, m)

    equal : (c : Bool) → ltb x y ≡ c → ltb (b * n + x) (b * n + y) ≡ c
    equal true e = let l = ltb-true x y e in lt-ltb (b * n + x) (b * n + y) (omega arith)
    equal false e = let l = ltb-false x y e in le-ltb (b * n + x) (b * n + y) (omega arith)

    step : (u : Bool) → ltb a b ≡ u → (v : Bool) → eqb a b ≡ v → ltb (a * n + x) (b * n + y) ≡ (u || (v && ltb x y))
    step true e v f = lt-ltb (a * n + x) (b * n + y) (less a b x y (ltb-true a b e) h)
    step false e true f = rw (eqb-true a b f) (equal (ltb x y) refl)
    step false e false f =
        let l = ltb-false a b e in
        let m = less b a y x (omega (arith, eqb-false a b f)) g in
        le-ltb (a * n + x) (b * n + y) (omega arith)

-- Members

all_by_has : (P : ℕ → Bool) (l : List ℕ) → ((x : ℕ) → has x l ≡ true → P x ≡ true) → all P l ≡ true
unfolding all has any
all_by_has P [] h = refl
all_by_has P (x ∷ l) h =
    rw (h x (rw (eq-eqb x x refl))) (all_by_has P l (λ y g. h y (rw g (or-true (eqb y x)))))

has_mapped : (w : ℕ) (f : ℕ → ℕ) (l : List ℕ) → has w (map f l) ≡ any (λ x. eqb w (f x)) l
unfolding has
has_mapped w f l = any-map (eqb w) f l

has-map : (f : ℕ → ℕ) (x : ℕ) (l : List ℕ) → has x l ≡ true → has (f x) (map f l) ≡ true
unfolding has
has-map f x l h =
    any-map (eqb (f x)) f l ∙ any_weaken (eqb x) (λ y. eqb (f x) (f y)) (λ y e. rw (eqb-true x y e) (eq-eqb (f y) (f y) refl)) l h

rank-position : (bs : List Rec) (p : ℕ) → p < 256 → position (entry_rank bs p) ≡ p
unfolding entry_rank
rank-position bs p l = position-rank (entry bs p) p l

-- The order of the paper is the order of ranks

module _ (bs : List Rec) (octets : (p : ℕ) → octet 2 (entry bs p) ≤ 255) where
  abbrev behind_unit : ℕ → ℕ
  behind_unit p = bind_uid (entry bs p) * 512 + (bind_role (entry bs p) * 256 + p)

  abbrev behind-device : ℕ → ℕ
  behind-device p = bind_source_unit (entry bs p) * 16777216 + behind_unit p

  rank-digits : (p : ℕ) → entry_rank bs p ≡ (bind_source (entry bs p)).0 * 4294967296 + behind-device p
  unfolding entry_rank rank bind_key unit_at unit_number
  rank-digits p = omega arith

  module _ (p : ℕ) (l : p ≤ 255) where
    role_small : bind_role (entry bs p) * 256 + p < 512
    unfolding flag
    role_small = omega arith

    unit_small : behind_unit p < 16777216
    unfolding flag number
    unit_small = omega arith

    device_small : behind-device p < 4294967296
    unfolding flag number
    device_small = omega (arith, octets p)

  pub precedes-rank : (p q : ℕ) → p ≤ 255 → q ≤ 255 → ltb (entry_rank bs p) (entry_rank bs q) ≡ precedes bs p q
  unfolding precedes
  precedes-rank p q l k =
      rw (rank-digits p, rank-digits q)
      (digits 4294967296 _ _ (behind-device p) (behind-device q) (device_small p l) (device_small q k)
      ∙ ap (lower _ _) (digits 16777216 _ _ (behind_unit p) (behind_unit q) (unit_small p l) (unit_small q k)
      ∙ ap (lower _ _) (digits 512 _ _ (bind_role (entry bs p) * 256 + p) (bind_role (entry bs q) * 256 + q) (role_small p l) (role_small q k)
      ∙ ap (lower _ _) (digits 256 _ _ p q (omega arith) (omega arith)))))

  -- A list of positions in that order has its ranks in order, and back

  ordered-ranks : (ps : List ℕ) → all (λ p. ltb p 256) ps ≡ true → rising (map (entry_rank bs) ps) ≡ in_order (precedes bs) ps
  unfolding rising in_order all
  ordered-ranks [] h = refl
  ordered-ranks (p ∷ ps) h =
      let a = and_parts (ltb p 256) (all (λ p. ltb p 256) ps) h in
      rw (ordered-ranks ps a.1, all-ranks p ps (ltb-true p 256 a.0) a.1)
    where
      all-ranks : (p : ℕ) (ps : List ℕ) → p < 256 → all (λ p. ltb p 256) ps ≡ true → all (ltb (entry_rank bs p)) (map (entry_rank bs) ps) ≡ all (precedes bs p) ps
      all-ranks p [] l h = refl
      all-ranks p (q ∷ qs) l h =
          let a = and_parts (ltb q 256) (all (λ p. ltb p 256) qs) h in
          let k = ltb-true q 256 a.0 in
          rw (precedes-rank p q (omega arith) (omega arith), all-ranks p qs l a.1)

  positions_back : (ps : List ℕ) → all (λ p. ltb p 256) ps ≡ true → map position (map (entry_rank bs) ps) ≡ ps
  unfolding all
  positions_back [] h = refl
  positions_back (p ∷ ps) h =
      let a = and_parts (ltb p 256) (all (λ p. ltb p 256) ps) h in
      rw (rank-position bs p (ltb-true p 256 a.0), positions_back ps a.1)

  ranks_back : (ws : List ℕ) → all (placed bs) ws ≡ true → map (entry_rank bs) (map position ws) ≡ ws
  unfolding all
  ranks_back [] h = refl
  ranks_back (w ∷ ws) h =
      let a = and_parts (placed bs w) (all (placed bs) ws) h in
      rw (placed-rank bs w a.0, ranks_back ws a.1)

  module _ (few : length bs ≤ 255) where
    used_small : (p : ℕ) → entry_used bs p ≡ true → ltb p 256 ≡ true
    unfolding entry_used
    used_small p h = let l = ltb-true p (length bs) (split h).0 in lt-ltb p 256 (omega arith)

    used-placed : (p : ℕ) → entry_used bs p ≡ true → (position (entry_rank bs p) ≡ p) × (placed bs (entry_rank bs p) ≡ true)
    unfolding placed
    used-placed p h =
        let e : position (entry_rank bs p) ≡ p = rank-position bs p (ltb-true p 256 (used_small p h)) in
        (e, rw e (join h (eq-eqb (entry_rank bs p) (entry_rank bs p) refl)))

    -- what the paper describes is the index
    pub only_one : (ix : List ℕ) → InWords bs ix → ix ≡ right_index bs
    unfolding right_index
    only_one ix I = I.whole ∙ ap (filled (length bs)) (sym (positions_back ps small) ∙ ap (map position) ranks_are)
      where
        ps : List ℕ
        ps = I.positions

        all-used : all (entry_used bs) ps ≡ true
        all-used = all_by_has (entry_used bs) ps (λ p h. sym (I.each p) ∙ h)

        small : all (λ p. ltb p 256) ps ≡ true
        small = all_weaken (entry_used bs) (λ p. ltb p 256) used_small ps all-used

        forth : (w : ℕ) → has w (map (entry_rank bs) ps) ≡ true → placed bs w ≡ true
        forth w h =
            any_with (λ p. eqb w (entry_rank bs p)) (entry_used bs) (λ p e u. rw (eqb-true w (entry_rank bs p) e) (used-placed p u).1) ps
            (sym (has_mapped w (entry_rank bs) ps) ∙ h) all-used

        back : (w : ℕ) → placed bs w ≡ true → has w (map (entry_rank bs) ps) ≡ true
        back w h = rw (placed-rank bs w h) at (has-map (entry_rank bs) (position w) ps (I.each (position w) ∙ placed-used bs w h))

        ranks_are : map (entry_rank bs) ps ≡ ordered (ranks 0 bs)
        ranks_are =
            rising_unique (map (entry_rank bs) ps) (ordered (ranks 0 bs)) (ordered-ranks ps small ∙ I.order) (rising-ordered (ranks 0 bs))
            (λ w. same_truth _ _ (forth w) (back w) ∙ sym (has-in_order bs (omega arith) w))

    -- and the index is what the paper describes
    pub that_one : InWords bs (right_index bs)
    unfolding right_index
    that_one = record { positions = map position ws; each = λ p. same_truth _ _ (forth p) (back p); order = order; whole = refl }
      where
        ws : List ℕ
        ws = ordered (ranks 0 bs)

        there : all (placed bs) ws ≡ true
        there = placed-in_order bs (omega arith)

        forth : (p : ℕ) → has p (map position ws) ≡ true → entry_used bs p ≡ true
        forth p h =
            any_with (λ w. eqb p (position w)) (placed bs) (λ w e g. rw (eqb-true p (position w) e) (placed-used bs w g)) ws
            (sym (has_mapped p position ws) ∙ h) there

        back : (p : ℕ) → entry_used bs p ≡ true → has p (map position ws) ≡ true
        back p h =
            let a = used-placed p h in
            rw (a.0) at (has-map position (entry_rank bs p) ws (has-in_order bs (omega arith) (entry_rank bs p) ∙ a.1))

        small : all (λ p. ltb p 256) (map position ws) ≡ true
        small = all_by_has (λ p. ltb p 256) (map position ws) (λ p h. used_small p (forth p h))

        order : in_order (precedes bs) (map position ws) ≡ true
        order = sym (ordered-ranks (map position ws) small) ∙ rw (ranks_back ws there) (rising-ordered (ranks 0 bs))
