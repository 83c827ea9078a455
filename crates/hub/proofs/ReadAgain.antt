-- A reply that was written is read again, in the contracts' own words: where a call of `message` meets its contract and answers a length n, every call of
-- `read` that meets its own, on the first n octets of the reply, answers outcome 0 and the fields that the reply was made from.
use Rattle.std.specs.Prelude.{Ok}
use contract.Lifetimes.{Lfts}
use borrow.Fn.World
use borrow.Fn.Kinds as K
use denote.Triple.Clauses
use Rattle.words.specs.Basics.{◌≡◌, sym, ap, ◌∙◌, List, ℕ, ◌-◌, take}
use Rattle.words.specs.Names.{header_length}
use Rattle.rules.specs.Types.{Done}
use Rattle.rules.specs.Frame.{Lent}
use Rattle.rules.specs.Message.{fields, read_as, reading_of, reading, answering}
use Rattle.rules.specs.Calls.{Answer}
use Rattle.lent.specs.Held.{held}
use Rattle.rules.proofs.Replied.{Replied, reply_again}
use Rattle.hub.proofs.Once.{message-answer}
use Rattle.hub.specs.contracts.message
use Rattle.hub.proofs.message.Kinds as message-kinds
use Rattle.hub.proofs.message.Reads as message-reads
use Rattle.hub.specs.contracts.read
use Rattle.hub.proofs.read.Kinds as read-kinds
use Rattle.hub.proofs.read.Reads as read-reads

module _ (κs : Lfts (message.signature).lifetimes) (a : World.ArgsD message.signature κs) (r : World.ResD message.signature κs)
    (s : Clauses.AtExit (K.ended_of _ message-kinds.ps message-kinds.r) κs) (p : message-reads.Post κs a r s) (n : ℕ) (e : (message-answer κs r s).outcome ≡ Ok (Done n)) where
  abbrev tables : Lent
  tables = held a.0.now

  abbrev msg : List ℕ
  msg = a.1.0.now

  abbrev written : List ℕ
  written = (message-answer κs r s).reply

  pub replied : Replied tables msg written n
  replied =
      rw (ap (λ (x : Answer). x.reply) p.1)
      (reply_again tables msg a.1.1.0.now a.1.1.1.0.now n (sym (ap (λ (x : Answer). x.outcome) p.1) ∙ e))

  pub read_again : (κ : Lfts (read.signature).lifetimes) (b : World.ArgsD read.signature κ) (q : World.ResD read.signature κ)
      (t : Clauses.AtExit (K.ended_of _ read-kinds.ps read-kinds.r) κ) → b.0.now ≡ take n written → read-reads.Post κ b q t
      → read_as q ≡ reading_of (Ok (Done 0)) (answering (fields msg) (n - header_length))
  read_again κ b q t m w = w ∙ ap reading m ∙ replied.reads
