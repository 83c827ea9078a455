-- No second answer fits the contracts of the exported calls, in the contracts' own words: two answers to one call are equal, and leave the same octets.
use contract.Lifetimes.{Lfts}
use borrow.Fn.World
use borrow.Fn.Kinds as K
use denote.Triple.Clauses
use Rattle.words.specs.Basics.{◌≡◌, sym, ◌∙◌}
use Rattle.rules.specs.Frame.{lent}
use Rattle.gneissfold.specs.Numbers.{MessageTold, message_told, HostTold, host_told, CarryTold, carry_told, CopyTold, copy_told, ReadTold, read_told}
use Rattle.gneissfold.specs.contracts.gneissfold_message
use Rattle.gneissfold.proofs.gneissfold_message.Kinds as message-kinds
use Rattle.gneissfold.proofs.gneissfold_message.Reads as message-reads
use Rattle.gneissfold.specs.contracts.gneissfold_admit
use Rattle.gneissfold.proofs.gneissfold_admit.Kinds as admit-kinds
use Rattle.gneissfold.proofs.gneissfold_admit.Reads as admit-reads
use Rattle.gneissfold.specs.contracts.gneissfold_release
use Rattle.gneissfold.proofs.gneissfold_release.Kinds as release-kinds
use Rattle.gneissfold.proofs.gneissfold_release.Reads as release-reads
use Rattle.gneissfold.specs.contracts.gneissfold_carry_over
use Rattle.gneissfold.proofs.gneissfold_carry_over.Kinds as carry-kinds
use Rattle.gneissfold.proofs.gneissfold_carry_over.Reads as carry-reads
use Rattle.gneissfold.specs.contracts.gneissfold_copy
use Rattle.gneissfold.proofs.gneissfold_copy.Kinds as copy-kinds
use Rattle.gneissfold.proofs.gneissfold_copy.Reads as copy-reads
use Rattle.gneissfold.specs.contracts.gneissfold_read
use Rattle.gneissfold.proofs.gneissfold_read.Kinds as read-kinds
use Rattle.gneissfold.proofs.gneissfold_read.Reads as read-reads

-- what a call tells and leaves: its number, what is lent to be written as it is at exit, the rest as it was lent
abbrev pub message_tells : (κs : Lfts (gneissfold_message.signature).lifetimes) (a : World.ArgsD gneissfold_message.signature κs)
    (r : World.ResD gneissfold_message.signature κs) (s : Clauses.AtExit (K.ended_of _ message-kinds.ps message-kinds.r) κs) → MessageTold
message_tells κs a r s = message_told r s.1.1.1.1.1.1.1.1.0.now s.1.1.1.1.1.1.1.1.1.0.now s.1.1.1.1.1.1.1.1.1.1.0.now
    (lent s.0.now s.1.0.now s.1.1.0.now s.1.1.1.0.now s.1.1.1.1.0.now)
    s.1.1.1.1.1.1.0.now s.1.1.1.1.1.1.1.0.now

abbrev pub admit_tells : (κs : Lfts (gneissfold_admit.signature).lifetimes) (a : World.ArgsD gneissfold_admit.signature κs)
    (r : World.ResD gneissfold_admit.signature κs) (s : Clauses.AtExit (K.ended_of _ admit-kinds.ps admit-kinds.r) κs) → HostTold
admit_tells κs a r s = host_told r (lent s.0.now a.1.0.now a.1.1.0.now a.1.1.1.0.now a.1.1.1.1.0.now)

abbrev pub release_tells : (κs : Lfts (gneissfold_release.signature).lifetimes) (a : World.ArgsD gneissfold_release.signature κs)
    (r : World.ResD gneissfold_release.signature κs) (s : Clauses.AtExit (K.ended_of _ release-kinds.ps release-kinds.r) κs) → HostTold
release_tells κs a r s = host_told r (lent s.0.now s.1.0.now a.1.1.0.now s.1.1.1.0.now s.1.1.1.1.0.now)

abbrev carry_tells : (κs : Lfts 2) (a : World.ArgsD gneissfold_carry_over.signature κs) (r : World.ResD gneissfold_carry_over.signature κs)
    (s : Clauses.AtExit (K.ended_of 2 carry-kinds.ps carry-kinds.r) κs) → CarryTold
carry_tells κs a r s = carry_told r s.1.0.now

abbrev copy_tells : (κs : Lfts 3) (a : World.ArgsD gneissfold_copy.signature κs) (r : World.ResD gneissfold_copy.signature κs)
    (s : Clauses.AtExit (K.ended_of 3 copy-kinds.ps copy-kinds.r) κs) → CopyTold
copy_tells κs a r s = copy_told r s.1.1.1.1.0.now s.1.0.now

abbrev read_tells : (κs : Lfts 2) (a : World.ArgsD gneissfold_read.signature κs) (r : World.ResD gneissfold_read.signature κs)
    (s : Clauses.AtExit (K.ended_of 2 read-kinds.ps read-kinds.r) κs) → ReadTold
read_tells κs a r s = read_told r s.1.0.now

pub message-once : (κs : Lfts (gneissfold_message.signature).lifetimes) (a : World.ArgsD gneissfold_message.signature κs)
    (r r' : World.ResD gneissfold_message.signature κs) (s s' : Clauses.AtExit (K.ended_of _ message-kinds.ps message-kinds.r) κs)
    → message-reads.Post κs a r s → message-reads.Post κs a r' s' → message_tells κs a r s ≡ message_tells κs a r' s'
message-once κs a r r' s s' p q = p ∙ sym q

pub admit-once : (κs : Lfts (gneissfold_admit.signature).lifetimes) (a : World.ArgsD gneissfold_admit.signature κs)
    (r r' : World.ResD gneissfold_admit.signature κs) (s s' : Clauses.AtExit (K.ended_of _ admit-kinds.ps admit-kinds.r) κs)
    → admit-reads.Post κs a r s → admit-reads.Post κs a r' s' → admit_tells κs a r s ≡ admit_tells κs a r' s'
admit-once κs a r r' s s' p q = p ∙ sym q

pub release-once : (κs : Lfts (gneissfold_release.signature).lifetimes) (a : World.ArgsD gneissfold_release.signature κs)
    (r r' : World.ResD gneissfold_release.signature κs) (s s' : Clauses.AtExit (K.ended_of _ release-kinds.ps release-kinds.r) κs)
    → release-reads.Post κs a r s → release-reads.Post κs a r' s' → release_tells κs a r s ≡ release_tells κs a r' s'
release-once κs a r r' s s' p q = p ∙ sym q

pub carry_once : (κs : Lfts 2) (a : World.ArgsD gneissfold_carry_over.signature κs) (r r' : World.ResD gneissfold_carry_over.signature κs)
    (s s' : Clauses.AtExit (K.ended_of 2 carry-kinds.ps carry-kinds.r) κs)
    → carry-reads.Post κs a r s → carry-reads.Post κs a r' s' → carry_tells κs a r s ≡ carry_tells κs a r' s'
carry_once κs a r r' s s' p q = p ∙ sym q

pub copy-once : (κs : Lfts 3) (a : World.ArgsD gneissfold_copy.signature κs) (r r' : World.ResD gneissfold_copy.signature κs)
    (s s' : Clauses.AtExit (K.ended_of 3 copy-kinds.ps copy-kinds.r) κs)
    → copy-reads.Post κs a r s → copy-reads.Post κs a r' s' → copy_tells κs a r s ≡ copy_tells κs a r' s'
copy-once κs a r r' s s' p q = p ∙ sym q

pub read-once : (κs : Lfts 2) (a : World.ArgsD gneissfold_read.signature κs) (r r' : World.ResD gneissfold_read.signature κs)
    (s s' : Clauses.AtExit (K.ended_of 2 read-kinds.ps read-kinds.r) κs)
    → read-reads.Post κs a r s → read-reads.Post κs a r' s' → read_tells κs a r s ≡ read_tells κs a r' s'
read-once κs a r r' s s' p q = p ∙ sym q
