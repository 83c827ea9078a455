-- What the acting parts leave: a command that is handled, a list of recipients.
use Rattle.std.specs.Prelude.{Option, Ok}
use borrow.Rule.Slice.PartMut.{mid_of, put_mid}
use Rattle.words.specs.Basics.{◌≡◌, ap, false, List, [], ◌∷◌, flat_map, ℕ, ◌+◌, ◌-◌, ◌≤◌, arith, eqb, length, drop, length-drop, length-take-le, ne_eqb}
use Rattle.words.specs.Names.{header_length, longest}
use Rattle.rules.specs.Types.{Fields, Reason, Command, Outcome, Done, Forwarded, Nobody}
use Rattle.rules.specs.Octets.{over}
use Rattle.rules.specs.Units.{unit_octets}
use Rattle.rules.specs.Frame.{Lent, nothing_lent, tables, changed}
use Rattle.rules.specs.Message.{header, answering}
use Rattle.rules.specs.Commands.{judge, done, reply_payload}
use Rattle.rules.specs.Calls.{answer, explaining, answered, handled, forwarded}
use Rattle.messages.proofs.Replies.{reply-behind, within-room}
use Rattle.acting.specs.Acting.{Performed, performed, performing}
use Rattle.commands.specs.Perform.{judging, reasoning}
use Rattle.units.specs.Listing.{Listing}
use Rattle.following.specs.Following.{outcome_of}

-- Serving

-- the part of the reply that a handler is lent: all that the longest reply has behind its header
abbrev behind : List ℕ → List ℕ
behind old = mid_of header_length (longest - header_length) old

behind-length : (old : List ℕ) → longest ≤ length old → length (behind old) ≡ longest - header_length
behind-length old h = length-take-le (longest - header_length) (drop header_length old) (rw length-drop (omega arith))

module _ (L : Lent) (k : Command) (f : Fields) (p old : List ℕ) {L' : Lent} {part : List ℕ} {n : ℕ} (h : longest ≤ length old)
    (s : length part ≡ length (behind old)) (d : performed n L' part ≡ judging L f.source k p (behind old)) where
  abbrev payload_of : List ℕ
  payload_of = reply_payload (tables L) k p (judge (tables L) f.source k p)

  written-length : n ≡ length payload_of
  unfolding performing
  written-length = ap (λ (y : Performed). y.length) d

  written_over : part ≡ over payload_of (behind old)
  unfolding performing
  written_over = ap (λ (y : Performed). y.out) d

  -- what was performed had room there
  pub performed_short : header_length + n ≤ longest
  performed_short = omega (arith, within-room payload_of (behind old) written_over s, written-length, behind-length old h)

  -- the payload behind, the header before it
  pub serves : {v : Option Reason} → v ≡ reasoning L f.source k p
      → explaining (Ok (Done (header_length + n))) v L' (over (header (answering f n)) (put_mid header_length (longest - header_length) old part)) []
      ≡ handled L k f p old []
  unfolding handled answered performing
  serves e =
      let eL : L' ≡ changed (done (tables L) f.source k p (judge (tables L) f.source k p)) L = ap (λ (y : Performed). y.tables) d in
      rw (
        written-length,
        e,
        eL,
        reply-behind (longest - header_length) f payload_of old part (omega arith) (omega (arith, performed_short, written-length)) written_over,
      )

-- Forwarding

pub forwards : {n : ℕ} {l l' : List ℕ} (us : List ℕ) {o : Outcome} → Listing l l' n us → o ≡ outcome_of n
    → answer o nothing_lent [] l' ≡ forwarded us nothing_lent [] l
unfolding outcome_of forwarded over unit_octets flat_map
forwards [] x e = rw (e, x.count, x.octets)
forwards (u ∷ us) x e =
    let some : eqb (length (u ∷ us)) 0 ≡ false = ne_eqb (length (u ∷ us)) 0 (λ z. omega arith) in
    rw (e, x.count, some, x.octets)

pub nobody : {n : ℕ} {l l' : List ℕ} (us : List ℕ) → Listing l l' n us → n ≡ 0 → answer (Ok Nobody) nothing_lent [] l' ≡ forwarded us nothing_lent [] l
unfolding forwarded over unit_octets flat_map
nobody [] x z = rw x.octets
nobody (u ∷ us) x z = absurd (omega (arith, x.count))

pub somebody : {n : ℕ} {l l' : List ℕ} (us : List ℕ) → Listing l l' n us → (n ≡ 0 → ⊥) → answer (Ok (Forwarded n)) nothing_lent [] l' ≡ forwarded us nothing_lent [] l
unfolding forwarded
somebody [] x z = absurd (z x.count)
somebody (u ∷ us) x z = rw (x.count, x.octets)
