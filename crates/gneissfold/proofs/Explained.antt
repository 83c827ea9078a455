-- The reason, in the contract's own words: a call of `gneissfold_message` that meets its contract tells a reason other than 0 if and only if the message is
-- Add Bind, its outcome 0 and its code, octet 16 of the reply, 0x02.
use Rattle.std.specs.Prelude.{Some}
use contract.Lifetimes.{Lfts}
use borrow.Fn.World
use borrow.Fn.Kinds as K
use denote.Triple.Clauses
use Rattle.words.specs.Basics.{◌≡◌, sym, ap, ◌∙◌, true, false, List, ℕ, eqb}
use Rattle.words.specs.Reasons.{faultless}
use Rattle.rules.specs.Types.{AddBind}
use Rattle.rules.specs.Message.{fields}
use Rattle.rules.specs.Payloads.{command}
use Rattle.rules.specs.Explains.{refused_by}
use Rattle.rules.proofs.Explains.{explains}
use Rattle.gneissfold.specs.Numbers.{MessageTold, refused}
use Rattle.gneissfold.proofs.Once.{message_tells}
use Rattle.gneissfold.specs.contracts.gneissfold_message
use Rattle.gneissfold.proofs.gneissfold_message.Kinds as message-kinds
use Rattle.gneissfold.proofs.gneissfold_message.Reads as message-reads

module _ (κs : Lfts (gneissfold_message.signature).lifetimes) (a : World.ArgsD gneissfold_message.signature κs)
    (r : World.ResD gneissfold_message.signature κs) (s : Clauses.AtExit (K.ended_of _ message-kinds.ps message-kinds.r) κs)
    (p : message-reads.Post κs a r s) where
  abbrev t : MessageTold
  t = message_tells κs a r s

  abbrev msg : List ℕ
  msg = a.1.1.1.1.1.0.now

  pub reason-given : command (fields msg) ≡ Some AddBind → refused t ≡ true → eqb t.reason 0 ≡ false
  unfolding refused refused_by faultless
  reason-given d g = ap (λ (x : MessageTold). eqb x.reason 0) p ∙ (explains _ msg _ _).given d (sym (ap refused p) ∙ g)

  pub reason-only : eqb t.reason 0 ≡ false → (command (fields msg) ≡ Some AddBind) × (refused t ≡ true)
  unfolding refused refused_by faultless
  reason-only h =
      let e = (explains _ msg _ _).only (sym (ap (λ (x : MessageTold). eqb x.reason 0) p) ∙ h) in
      (e.0, ap refused p ∙ e.1)
