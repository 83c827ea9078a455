-- Laws of the outcome: one check after the other, and where none refuses the new table is the old one carried over.
use Rattle.std.specs.Prelude.{Ok, Err}
use Rattle.words.specs.Basics.{◌≡◌, refl, sym, ◌∙◌, Bool, true, false, cond, not, List, ℕ, ◌*◌, ◌%◌, ◌≤◌, arith, eqb, length, eq-eqb, ne_eqb, eqb-true}
use Rattle.words.specs.Basics.{not-true, not-false}
use Rattle.rules.specs.Types.{Refusal, Done, Unsound, NoRoom}
use Rattle.rules.specs.Lists.{ask}
use Rattle.rules.specs.Carry.{old_size, old_sound, carried_table, times, carry_answer, carry_outcome, carried_over}
use Rattle.rules.proofs.Carried.{old_whole}
use Rattle.soundness.proofs.Refused.{refusal-number}

module _ (old new : List ℕ) where
  module _ {b : Bool} (h : b ≡ old_sound old) where
    pub outcome-unsound : not b ≡ true → (Err Unsound) ≡ carry_outcome old new
    unfolding carry_outcome ask
    outcome-unsound n = let f : old_sound old ≡ false = sym h ∙ not-true b n in rw f

    -- the length of a sound one, nine times, is a number that the code can count to
    pub nine_times : not b ≡ false → times * length old ≤ 2304
    nine_times n = omega (arith, (old_whole old (sym h ∙ not-false b n)).1)

    pub outcome_no_room : not b ≡ false → (length new ≡ times * length old → ⊥) → (Err NoRoom) ≡ carry_outcome old new
    unfolding carry_outcome ask
    outcome_no_room n z = let f : old_sound old ≡ true = sym h ∙ not-false b n in rw (f, ne_eqb (length new) (times * length old) z)

    pub outcome-passes : not b ≡ false → length new ≡ times * length old → Ok (Done 0) ≡ carry_outcome old new
    unfolding carry_outcome ask
    outcome-passes n z = let f : old_sound old ≡ true = sym h ∙ not-false b n in rw (f, eq-eqb (length new) (times * length old) z)

  pub carry_refused : {why : Refusal} → Err why ≡ carry_outcome old new → carry_answer (Err why) new ≡ carried_over old new
  unfolding carried_over
  carry_refused {why} e = rw (sym e, refusal-number why)

  pub carry_done : {t : List ℕ} → Ok (Done 0) ≡ carry_outcome old new → t ≡ carried_table old → carry_answer (Ok (Done 0)) t ≡ carried_over old new
  unfolding carried_over
  carry_done e h = rw (sym e, h)

  -- outcome 0 says what the loop asks
  pub passed : Ok (Done 0) ≡ carry_outcome old new → (length old % old_size ≡ 0) × (length new ≡ times * length old)
  unfolding carry_outcome ask
  passed e = step (old_sound old) refl (eqb (length new) (times * length old)) refl e
    where
      step : (b : Bool) → old_sound old ≡ b → (d : Bool) → eqb (length new) (times * length old) ≡ d
          → Ok (Done 0) ≡ cond b (cond d (Ok (Done 0)) (Err NoRoom)) (Err Unsound) → (length old % old_size ≡ 0) × (length new ≡ times * length old)
      step true f true g q = ((old_whole old f).0, eqb-true (length new) (times * length old) g)
      step true f false g q = absurd (cc)
      step false f d g q = absurd (cc)
