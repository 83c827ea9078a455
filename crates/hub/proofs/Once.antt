-- No second answer fits the contract of `message`, in the contract's own words: two answers to one call are equal, and leave the same octets.
use contract.Lifetimes.{Lfts}
use borrow.Fn.World
use borrow.Fn.Kinds as K
use denote.Triple.Clauses
use Rattle.words.specs.Basics.{◌≡◌, sym, ◌∙◌}
use Rattle.rules.specs.Calls.{Answer, telling}
use Rattle.rules.proofs.ReadAs.{telling-once}
use Rattle.lent.specs.Held.{held}
use Rattle.hub.specs.contracts.message
use Rattle.hub.proofs.message.Kinds as message-kinds
use Rattle.hub.proofs.message.Reads as message-reads

-- what the call answers and leaves: its outcome, the reason, and what was lent to be written as it is at exit
abbrev pub message-answer : (κs : Lfts (message.signature).lifetimes) (r : World.ResD message.signature κs)
    (s : Clauses.AtExit (K.ended_of _ message-kinds.ps message-kinds.r) κs) → Answer
message-answer κs r s =
    telling r (held s.0.now) s.1.1.0.now s.1.1.1.0.now

pub message-once : (κs : Lfts (message.signature).lifetimes) (a : World.ArgsD message.signature κs) (r r' : World.ResD message.signature κs)
    (s s' : Clauses.AtExit (K.ended_of _ message-kinds.ps message-kinds.r) κs)
    → message-reads.Post κs a r s → message-reads.Post κs a r' s' → (r ≡ r') × (message-answer κs r s ≡ message-answer κs r' s')
message-once κs a r r' s s' p q =
    let e = p.1 ∙ sym q.1 in
    (telling-once r r' _ _ _ _ _ _ e, e)
