-- From contracts to runs: `message`, `admit` and `release` are called one after the other, each on the tables that the call before it left, and each meets
-- its contract. What their callers are told is then the history of a run of the rules, and condition 3 holds of it, and what is read back is the sheet.
use contract.Lifetimes.{Lfts}
use borrow.Fn.World
use borrow.Fn.Kinds as K
use denote.Triple.Clauses
use Rattle.words.specs.Basics.{◌≡◌, true, List}
use Rattle.rules.specs.Lists.{all}
use Rattle.rules.specs.Frame.{Lent, lent}
use Rattle.rules.specs.History.{Call, sends, admits, releases, Said, said_by, said_by_host, after, Event, history, octets_only, free_tables}
use Rattle.rules.specs.Seen.{Seen, calls, SeenHolds, SeenReads}
use Rattle.rules.proofs.Seen as seen
use Rattle.lent.specs.Held.{held}
use Rattle.hosting.proofs.Once.{admit-answer, release-answer}
use Rattle.hub.proofs.Once.{message-answer}
use Rattle.hub.specs.contracts.message
use Rattle.hub.proofs.message.Kinds as message-kinds
use Rattle.hub.proofs.message.Reads as message-reads
use Rattle.hub.specs.contracts.admit
use Rattle.hub.proofs.admit.Kinds as admit-kinds
use Rattle.hub.proofs.admit.Reads as admit-reads
use Rattle.hub.specs.contracts.release
use Rattle.hub.proofs.release.Kinds as release-kinds
use Rattle.hub.proofs.release.Reads as release-reads

-- The tables that a call is lent, and the call itself, in its arguments

module _ (κs : Lfts (message.signature).lifetimes) (a : World.ArgsD message.signature κs) where
  abbrev message-lent : Lent
  message-lent = held a.0.now

  abbrev message-call : Call
  message-call = sends a.1.0.now a.1.1.0.now a.1.1.1.0.now

module _ (κs : Lfts (admit.signature).lifetimes) (a : World.ArgsD admit.signature κs) where
  abbrev admit-lent : Lent
  admit-lent = lent a.0.now a.1.0.now a.1.1.0.now a.1.1.1.0.now a.1.1.1.1.0.now

  abbrev admit-call : Call
  admit-call = admits a.1.1.1.1.1.0 a.1.1.1.1.1.1.0 a.1.1.1.1.1.1.1.0.now

module _ (κs : Lfts (release.signature).lifetimes) (a : World.ArgsD release.signature κs) where
  abbrev release-lent : Lent
  release-lent = lent a.0.now a.1.0.now a.1.1.0.now a.1.1.1.0.now a.1.1.1.1.0.now

  abbrev release-call : Call
  release-call = releases a.1.1.1.1.1.0

-- A call that was made on the tables L and met its contract, with its result r and the state at exit s: the call, what its caller was told, what it left
pub data Meets (L : Lent) : Call → Said → Lent → Type 0 where
  by_message : (κs : Lfts (message.signature).lifetimes) (a : World.ArgsD message.signature κs) (r : World.ResD message.signature κs)
      (s : Clauses.AtExit (K.ended_of _ message-kinds.ps message-kinds.r) κs) → message-lent κs a ≡ L → message-reads.Post κs a r s
      → Meets L (message-call κs a) (said_by (message-answer κs r s)) (message-answer κs r s).tables
  by_admit : (κs : Lfts (admit.signature).lifetimes) (a : World.ArgsD admit.signature κs) (r : World.ResD admit.signature κs)
      (s : Clauses.AtExit (K.ended_of _ admit-kinds.ps admit-kinds.r) κs) → admit-lent κs a ≡ L → admit-reads.Post κs a r s
      → Meets L (admit-call κs a) (said_by_host (admit-answer κs a r s)) (admit-answer κs a r s).tables
  by_release : (κs : Lfts (release.signature).lifetimes) (a : World.ArgsD release.signature κs) (r : World.ResD release.signature κs)
      (s : Clauses.AtExit (K.ended_of _ release-kinds.ps release-kinds.r) κs) → release-lent κs a ≡ L → release-reads.Post κs a r s
      → Meets L (release-call κs a) (said_by_host (release-answer κs a r s)) (release-answer κs a r s).tables

-- the contracts say what the rules say
pub right : (L : Lent) (c : Call) (a : Said) (M : Lent) → Meets L c a M → seen.AsRules L c a M
right L c a M (by_message κs b r s e p) = seen.as_message e {x = message-answer κs r s} p.1
right L c a M (by_admit κs b r s e p) = seen.as_admit e {x = admit-answer κs b r s} p
right L c a M (by_release κs b r s e p) = seen.as_release e {x = release-answer κs b r s} p

-- what was seen of such calls is a run
pub as_run : {L₀ L : Lent} {h : List Event} → Seen Meets L₀ h L → (after L₀ (calls h) ≡ L) × (history L₀ (calls h) ≡ h)
as_run s = seen.as_run right s

-- condition 3 of what was seen, from free tables on. That every message is a string of octets, and every set of units 32 of them, stays a premise: a contract
-- speaks of lists of numbers, and what a lent slice can hold is known where it is read, not from the contract.
pub seen_holds : {L₀ L : Lent} {h : List Event} → free_tables L₀ ≡ true → Seen Meets L₀ h L → all octets_only (calls h) ≡ true → SeenHolds Meets h L
seen_holds f s o = seen.seen_holds right f s o

-- and what is read back is the sheet
pub seen_reads : {L₀ L : Lent} {h : List Event} → free_tables L₀ ≡ true → Seen Meets L₀ h L → all octets_only (calls h) ≡ true → SeenReads Meets L₀ h
seen_reads f s o = seen.seen_reads right f s o
