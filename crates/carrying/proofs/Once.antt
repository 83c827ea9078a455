-- No second answer fits the contract of `carry_over`, in the contract's own words: two answers to one call are equal, and leave the same octets.
use contract.Lifetimes.{Lfts}
use borrow.Fn.World
use borrow.Fn.Kinds as K
use denote.Triple.Clauses
use Rattle.words.specs.Basics.{◌≡◌, sym, ap, ◌∙◌}
use Rattle.words.specs.Outcomes.{without_length}
use Rattle.words.proofs.Lengths.{without_length-once}
use Rattle.rules.specs.Carry.{CarryAnswer, carry_answer}
use Rattle.carrying.specs.contracts.carry_over
use Rattle.carrying.proofs.carry_over.Kinds as kinds
use Rattle.carrying.proofs.carry_over.Reads as reads

-- what the call answers, and the new table as it is at exit
module _ (κs : Lfts (carry_over.signature).lifetimes) (a : World.ArgsD carry_over.signature κs) where
  abbrev pub carry_over-answer : World.ResD carry_over.signature κs → Clauses.AtExit (K.ended_of _ kinds.ps kinds.r) κs → CarryAnswer
  carry_over-answer r s = carry_answer (without_length r) s.1.0.now

  pub carry_over-once : (r r' : World.ResD carry_over.signature κs) (s s' : Clauses.AtExit (K.ended_of _ kinds.ps kinds.r) κs)
      → reads.Post κs a r s → reads.Post κs a r' s' → (r ≡ r') × (carry_over-answer r s ≡ carry_over-answer r' s')
  carry_over-once r r' s s' p q = let e = p ∙ sym q in (without_length-once r r' (ap (λ (x : CarryAnswer). x.outcome) e), e)
