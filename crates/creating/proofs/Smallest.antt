-- The loop that looks for the smallest group address not in use: of the addresses from here on it finds what it would find from the first.
use native.Mathlib.Numerals.{add-one}
use Rattle.words.specs.Basics.{◌≡◌, Bool, true, false, cond, List, ℕ, suc, ◌+◌, ◌-◌, ◌/◌, ◌<◌, ◌≤◌, arith, length}
use Rattle.words.specs.Names.{group, lowest}
use Rattle.rules.specs.Types.{Groups}
use Rattle.rules.specs.Layout.{size}
use Rattle.rules.specs.Frame.{table}
use Rattle.rules.specs.Exists.{group_exists}
use Rattle.rules.specs.Commands.{smallest, new_group}
use Rattle.rules.proofs.Records.{length-records}

-- is the address a group's?
abbrev is_in_use : List ℕ → ℕ → Bool
is_in_use t a = group_exists (table Groups t) (group a)

-- from a on, up to the last that may be needed
pub record Numbering (t : List ℕ) (a last : ℕ) : Type 0 where
  pub rest : group (smallest (is_in_use t) (last - a) a) ≡ new_group (table Groups t)

pub numbering_start : (t : List ℕ) → Numbering t lowest (lowest + length t / size Groups)
unfolding new_group
numbering_start t =
    let e : lowest + length t / size Groups - lowest ≡ length t / size Groups = omega arith in
    record { rest = rw (e, length-records (size Groups) t) }

-- one turn of `smallest`
turn : (p : ℕ → Bool) (last a : ℕ) → a < last → smallest p (last - a) a ≡ cond (p a) (smallest p (last - (a + 1)) (a + 1)) a
unfolding smallest
turn p last a h =
    let e : last - a ≡ suc (last - (a + 1)) = omega arith in
    rw (e, add-one a)

module _ {t : List ℕ} {a last : ℕ} (c : Numbering t a last) where
  pub numbering_more : a < last → group_exists (table Groups t) (group a) ≡ true → Numbering t (a + 1) last
  numbering_more h e = record { rest = rw (turn (is_in_use t) last a h, e) at c.rest }

  pub numbering_hit : a < last → group_exists (table Groups t) (group a) ≡ false → group a ≡ new_group (table Groups t)
  numbering_hit h e = rw (turn (is_in_use t) last a h, e) at c.rest

  pub numbering_end : last ≤ a → a ≤ last → group last ≡ new_group (table Groups t)
  unfolding smallest
  numbering_end h g =
      let e : last - a ≡ 0 = omega arith in
      let d : a ≡ last = omega arith in
      rw (← d) (rw e at c.rest)
