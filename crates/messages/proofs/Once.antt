-- No second answer fits the contract of `read`, in the contract's own words: two answers to one call are equal.
use contract.Lifetimes.{Lfts}
use borrow.Fn.World
use borrow.Fn.Kinds as K
use denote.Triple.Clauses
use Rattle.words.specs.Basics.{◌≡◌, sym, ◌∙◌}
use Rattle.rules.proofs.ReadAs.{read_as-once}
use Rattle.messages.specs.contracts.read
use Rattle.messages.proofs.read.Kinds as read-kinds
use Rattle.messages.proofs.read.Reads as read-reads

pub read-once : (κs : Lfts 1) (a : World.ArgsD read.signature κs) (r r' : World.ResD read.signature κs)
    (s s' : Clauses.AtExit (K.ended_of 1 read-kinds.ps read-kinds.r) κs)
    → read-reads.Post κs a r s → read-reads.Post κs a r' s' → r ≡ r'
read-once κs a r r' s s' p q = read_as-once r r' (p ∙ sym q)
