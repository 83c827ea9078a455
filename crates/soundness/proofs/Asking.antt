-- Laws of the loops that ask something of every used record of a table.
use denote.Ref.{Bor}
use Rattle.std.specs.Fn.{Shared}
use Rattle.std.specs.List.{IsSplitAt}
use Rattle.std.proofs.lemmas.Fn.{says_at}
use Rattle.words.specs.Basics.{◌≡◌, refl, sym, ◌∙◌, Bool, true, false, ◌&&◌, List, ◌∷◌, ℕ, ◌<◌, length}
use Rattle.rules.specs.Lists.{all, keep}
use Rattle.rules.specs.Tables.{Rec, records, is_free, used}
use Rattle.rules.specs.Sound.{distinct}
use Rattle.rules.proofs.Records.{records-cons}
use Rattle.soundness.specs.Asking.{Computes, free_or, not_again}

-- what a call of the closure said of a record
pub computed : {F : Type 0} {g : Shared F (Bor Rec × Unit {0}) Bool} {f : F} {k : ℕ} {q : Rec → Bool} {y : Bor Rec} {r b : Bool} → Computes g f k q
    → length y.now ≡ k → g.post f (y, tt) r → r ≡ b → q y.now ≡ b
computed {g = g} {y = y} {r = r} s l p e = sym (s.says y.now r l (says_at g p refl)) ∙ e

-- do all used records pass? One more that is free makes no difference, and one in use decides or makes none
module _ (q : Rec → Bool) (r : Rec) (t : List Rec) where
  pub all-free : is_free r ≡ true → all q (used (r ∷ t)) ≡ all q (used t)
  unfolding all used keep
  all-free f = rw f

  pub all-fits : is_free r ≡ false → q r ≡ true → all q (used (r ∷ t)) ≡ all q (used t)
  unfolding all used keep
  all-fits f e = rw (f, e)

  pub all-fails : is_free r ≡ false → q r ≡ false → all q (used (r ∷ t)) ≡ false
  unfolding all used keep
  all-fails f e = rw (f, e)

-- does no used record begin as an earlier one does? Of the octets s the record r is split, and u are those behind it.
module _ (n k : ℕ) (s : List ℕ) {r u : List ℕ} {b : Bool} (h : 0 < k) (c : IsSplitAt s k r u) (e : b ≡ free_or (not_again n (records k u)) r) where
  distinct-split : distinct n (records k s) ≡ (b && distinct n (records k u))
  unfolding distinct free_or not_again
  distinct-split = rw (records-cons k s h c.0, ← c.1, ← c.2, e)

  pub distinct-fails : b ≡ false → distinct n (records k s) ≡ false
  distinct-fails f = distinct-split ∙ rw f

  pub distinct-goes_on : b ≡ true → distinct n (records k s) ≡ distinct n (records k u)
  distinct-goes_on f = distinct-split ∙ rw f
