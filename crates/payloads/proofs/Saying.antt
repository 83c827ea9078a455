-- Payloads octet by octet.
use lib.Seq.{take-append_seam}
use Rattle.words.specs.Basics.{◌≡◌, refl, sym, ap, ◌∙◌, Bool, true, false, cond, eqb, List, [], ◌∷◌, ◌++◌, ℕ, zero, suc, ◌+◌, ◌*◌, ◌%◌, ◌<◌, ◌≤◌, arith, length}
use Rattle.words.specs.Basics.{take, drop, get_or, set}
use Rattle.words.specs.Basics.{drop_of_length-le, drop-cons}
use Rattle.rules.specs.Octets.{word, ignore_top, over}
use Rattle.rules.specs.Types.{BindPart, Source}
use Rattle.rules.specs.Layout.{part_start}
use Rattle.rules.specs.Payloads.{bind_of, wanted, member_of, group_named}
use Rattle.words.specs.Names.{group}

-- n octets from place i on, one by one
abbrev pub row : ℕ → ℕ → List ℕ → List ℕ
row zero i s = []
row (suc n) i s = get_or s i 0 ∷ row n (suc i) s

-- a list is its octets
pub one_by_one : (n i : ℕ) (s : List ℕ) → i + n ≡ length s → drop i s ≡ row n i s
one_by_one zero i s h =
    let l : length s ≤ i = omega arith in
    drop_of_length-le s l
one_by_one (suc n) i s h = rw (drop-cons s i 0 (omega arith)) (ap (λ (r : List ℕ). get_or s i 0 ∷ r) (one_by_one n (suc i) s (omega arith)))

-- the first octet without its top bit, the others as they are
pub ignore_first : (s : List ℕ) → 0 < length s → ignore_top s ≡ get_or s 0 0 % 128 ∷ drop 1 s
unfolding ignore_top
ignore_first [] h = absurd (omega arith)
ignore_first (o ∷ s) h = refl

pub bind-octets : (p : List ℕ) → length p ≡ 8 → get_or p 0 0 % 128 ∷ row 7 1 p ≡ bind_of p
unfolding bind_of
bind-octets p h = sym (ignore_first p (omega arith) ∙ rw (one_by_one 7 1 p (omega arith)))

pub member_octets : (p : List ℕ) → length p ≡ 5 → get_or p 0 0 % 128 ∷ get_or p 1 0 ∷ get_or p 2 0 % 128 ∷ row 2 3 p ≡ member_of p
unfolding member_of ignore_top
member_octets p h = sym (ap (λ (q : List ℕ). ignore_top (take 2 q) ++ ignore_top (drop 2 q)) (one_by_one 5 0 p (omega arith)))

pub group-octets : (p : List ℕ) → length p ≡ 2 → group (get_or p 0 0 % 128 * 256 + get_or p 1 0) ≡ group_named p
unfolding group_named word
group-octets p h = sym (rw (ignore_first p (omega arith), one_by_one 1 1 p (omega arith)))

-- the payload in the first places of a longer run, with the first octet that a part wants
pub first_set : (q : BindPart) (p old : List ℕ) {first : ℕ} → 0 < length p
    → first ≡ cond (eqb (part_start q) (part_start Source)) (get_or p 0 0 % 128) (get_or p 0 0) → take (length p) (set (over p old) 0 first) ≡ wanted q p
unfolding over wanted ignore_top
first_set q [] old h e = absurd (omega arith)
first_set q (o ∷ p) old {first} h e = ap (λ (s : List ℕ). first ∷ s) (take-append_seam p (drop (suc (length p)) old)) ∙ rw e (wants (eqb (part_start q) 0))
  where
    wants : (b : Bool) → cond b (o % 128) o ∷ p ≡ cond b (o % 128 ∷ p) (o ∷ p)
    wants true = refl
    wants false = refl
