-- No second answer fits the contracts of `admit` and `release`, in the contracts' own words: two answers to one call are equal, and leave the same octets.
use contract.Lifetimes.{Lfts}
use borrow.Fn.World
use borrow.Fn.Kinds as K
use denote.Triple.Clauses
use Rattle.words.specs.Basics.{◌≡◌, sym, ap, ◌∙◌}
use Rattle.words.specs.Outcomes.{without_length}
use Rattle.words.proofs.Lengths.{without_length-once}
use Rattle.rules.specs.Frame.{lent}
use Rattle.rules.specs.Host.{HostAnswer, host_answer}
use Rattle.hosting.specs.contracts.admit
use Rattle.hosting.proofs.admit.Kinds as admit-kinds
use Rattle.hosting.proofs.admit.Reads as admit-reads
use Rattle.hosting.specs.contracts.release
use Rattle.hosting.proofs.release.Kinds as release-kinds
use Rattle.hosting.proofs.release.Reads as release-reads

-- what a call answers and leaves: its outcome, the tables lent to be written as they are at exit, the others as they were lent

module _ (κs : Lfts (admit.signature).lifetimes) (a : World.ArgsD admit.signature κs) where
  abbrev pub admit-answer : World.ResD admit.signature κs → Clauses.AtExit (K.ended_of _ admit-kinds.ps admit-kinds.r) κs → HostAnswer
  admit-answer r s = host_answer (without_length r) (lent s.0.now a.1.0.now a.1.1.0.now a.1.1.1.0.now a.1.1.1.1.0.now)

  pub admit-once : (r r' : World.ResD admit.signature κs) (s s' : Clauses.AtExit (K.ended_of _ admit-kinds.ps admit-kinds.r) κs)
      → admit-reads.Post κs a r s → admit-reads.Post κs a r' s' → (r ≡ r') × (admit-answer r s ≡ admit-answer r' s')
  admit-once r r' s s' p q = let e = p ∙ sym q in (without_length-once r r' (ap (λ (x : HostAnswer). x.outcome) e), e)

module _ (κs : Lfts (release.signature).lifetimes) (a : World.ArgsD release.signature κs) where
  abbrev pub release-answer : World.ResD release.signature κs → Clauses.AtExit (K.ended_of _ release-kinds.ps release-kinds.r) κs → HostAnswer
  release-answer r s = host_answer (without_length r) (lent s.0.now s.1.0.now a.1.1.0.now s.1.1.1.0.now s.1.1.1.1.0.now)

  pub release-once : (r r' : World.ResD release.signature κs) (s s' : Clauses.AtExit (K.ended_of _ release-kinds.ps release-kinds.r) κs)
      → release-reads.Post κs a r s → release-reads.Post κs a r' s' → (r ≡ r') × (release-answer r s ≡ release-answer r' s')
  release-once r r' s s' p q = let e = p ∙ sym q in (without_length-once r r' (ap (λ (x : HostAnswer). x.outcome) e), e)
