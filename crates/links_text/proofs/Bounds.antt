-- What a message answers is within what it was lent: a reply's length within the reply, three octets a recipient within the list.
use Rattle.std.specs.Prelude.{Result, Err}
use Rattle.words.specs.Basics.{◌≡◌, refl, sym, ap, ◌∙◌, Bool, true, false, cond, List, [], ◌∷◌, ℕ, ◌*◌, ◌≤◌, arith, eqb, length, drop, length-append}
use Rattle.words.specs.Outcomes.{number_of, value_of}
use Rattle.rules.specs.Types.{Fields, Command, Binds, Members, Outcome, Way, Refusal, Told}
use Rattle.rules.specs.Octets.{over}
use Rattle.rules.specs.Units.{unit_octets}
use Rattle.rules.specs.Frame.{Lent, tables}
use Rattle.rules.specs.Message.{fields, payload, reply}
use Rattle.rules.specs.Recipients.{recipients}
use Rattle.rules.specs.Commands.{judge, reply_payload}
use Rattle.rules.specs.Calls.{Answer, telling, answered, handled, forwarded, follow, message}
use Rattle.rules.proofs.Order.{length-unit_octets}
use Rattle.rules.proofs.RoundTrip.{reply-length}
use Rattle.rules.proofs.ReadAs.{telling-reply, telling-list}
use Rattle.rules.proofs.Ways.{Acting, Ways, refuses, serves, forwards, ways}
use Rattle.report.specs.Text.{value_if, count_of, length_of}

pub record Within (o : Outcome) (r l : List ℕ) : Type 0 where
  pub reply : length_of o ≤ length r
  pub list : 3 * count_of o ≤ length l

none_of : (n : ℕ) (o : Outcome) → value_of o ≡ 0 → value_if n o ≡ 0
unfolding value_if
none_of n o h = step (eqb (number_of o) n)
  where
    step : (b : Bool) → cond b (value_of o) 0 ≡ 0
    step true = h
    step false = refl

over_longer : (a l : List ℕ) → length a ≤ length (over a l)
unfolding over
over_longer a l = omega (arith, length-append a (drop (length a) l))

-- an answer within what was lent
abbrev Fits : Answer → Type 0
Fits a = Within a.outcome a.reply a.list

fits-handled : (L : Lent) (k : Command) (f : Fields) (p r l : List ℕ) → Fits (handled L k f p r l)
unfolding handled answered value_if
fits-handled L k f p r l =
    let q : List ℕ = reply_payload (tables L) k p (judge (tables L) f.source k p) in
    record { reply = omega (arith, over_longer (reply f q) r, reply-length f q); list = omega arith }

fits-forwarded : (us : List ℕ) (L : Lent) (r l : List ℕ) → Fits (forwarded us L r l)
unfolding forwarded value_if
fits-forwarded [] L r l = record { reply = omega arith; list = omega arith }
fits-forwarded (u ∷ us) L r l =
    record { reply = omega arith; list = omega (arith, over_longer (unit_octets (u ∷ us)) l, length-unit_octets (u ∷ us)) }

fits-message : (L : Lent) (m r l : List ℕ) → Fits (message L m r l)
unfolding message follow
fits-message L m r l = by (ways L m r l)
  where
    by : {w : Result Way Refusal} → Ways (Acting L m r l) (fields m) w → Fits (follow w L m r l)
    by (refuses {why = why} n) = record { reply = omega (arith, none_of 0 (Err why) n.1); list = omega (arith, none_of 1 (Err why) n.1) }
    by (serves {k = k} p e) = fits-handled L k (fields m) (payload m) r l
    by (forwards {to = to} p e) = fits-forwarded (recipients (tables L Binds) (tables L Members) to (fields m)) L r l

pub within : (L : Lent) (m r l : List ℕ) (t : Result Told Refusal) (L' : Lent) (r' l' : List ℕ) → telling t L' r' l' ≡ message L m r l
    → Within (telling t L' r' l').outcome r' l'
within L m r l t L' r' l' e =
    let er : r' ≡ (message L m r l).reply = sym (telling-reply t L' r' l') ∙ ap (λ (x : Answer). x.reply) e in
    let el : l' ≡ (message L m r l).list = sym (telling-list t L' r' l') ∙ ap (λ (x : Answer). x.list) e in
    rw (ap (λ (x : Answer). x.outcome) e, er, el) (fits-message L m r l)
