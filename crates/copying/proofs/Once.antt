-- No second answer fits the contract of `copy`, in the contract's own words: two answers to one call are equal, and leave the same octets.
use contract.Lifetimes.{Lfts}
use borrow.Fn.World
use borrow.Fn.Kinds as K
use denote.Triple.Clauses
use Rattle.words.specs.Basics.{◌≡◌, sym, ap, ◌∙◌}
use Rattle.words.proofs.Lengths.{with_length-once}
use Rattle.rules.specs.Copy.{CopyAnswer}
use Rattle.copying.specs.contracts.copy
use Rattle.copying.proofs.copy.Kinds as copy-kinds
use Rattle.copying.proofs.copy.Reads as copy-reads

pub copy-once : (κs : Lfts 2) (a : World.ArgsD copy.signature κs) (r r' : World.ResD copy.signature κs)
    (s s' : Clauses.AtExit (K.ended_of 2 copy-kinds.ps copy-kinds.r) κs)
    → copy-reads.Post κs a r s → copy-reads.Post κs a r' s' → (r ≡ r') × (s.1.0.now ≡ s'.1.0.now)
copy-once κs a r r' s s' p q =
    let e = p ∙ sym q in
    (with_length-once r r' (ap (λ (x : CopyAnswer). x.outcome) e), ap (λ (x : CopyAnswer). x.room) e)
