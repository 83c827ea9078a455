-- What the acting parts leave is the message's answer: a refusal, a command that is handled, a list of recipients.
use Rattle.std.specs.Prelude.{None, Result, Ok, Err}
use borrow.Rule.Slice.PartMut.{mid_of}
use Rattle.words.specs.Basics.{◌≡◌, sym, ap, ◌∙◌, List, [], ◌∷◌, ℕ, ◌-◌, ◌≤◌, length, leb-true}
use Rattle.words.specs.Names.{header_length, longest}
use Rattle.words.specs.Outcomes.{without_length}
use Rattle.words.specs.declared.Destination.{Destination}
use Rattle.rules.specs.Types.{Fields, Command, Devices, Binds, Groups, Members, Accepted, Way, Serve, Forward, Refusal, Told}
use Rattle.rules.specs.Frame.{Lent, nothing_lent, tables}
use Rattle.rules.specs.Message.{Reading, fields, payload, reads, read_as, reading}
use Rattle.rules.specs.Recipients.{recipients}
use Rattle.rules.specs.Calls.{roomy, way_on, way, Answer, answer, explaining, telling, answered, handled, forwarded, follow, message}
use Rattle.rules.proofs.Lists.{split, ask_pass}
use Rattle.rules.proofs.Ways.{Acting, serve_known, forward_known}
use Rattle.messages.proofs.Reading.{long_enough, reads_on, reads-refused, read-fields}
use Rattle.messages.proofs.Replies.{fields_ranged, rest_is}
use Rattle.delivery.specs.Delivering.{Deliverable}
use Rattle.delivery.proofs.Delivering.{deliverable}
use Rattle.following.specs.Following.{Servable}
use Rattle.deciding.specs.Lending.{lending}
use Rattle.deciding.proofs.Fitting.{lends, lent-refused}

-- the fields that were read are the message's
fields_read : {L : Lent} {m r l : List ℕ} → Acting L m r l → {f : Fields} → read_as (Ok f) ≡ reading m → f ≡ fields m
unfolding reading reads
fields_read a e = rw (ask_pass _ _ a.length, ask_pass _ _ a.told_length, ask_pass _ _ a.type) at (ap (λ (x : Reading). x.fields) e)

-- The checks in their order: what is lent, the message, where it goes

module _ (L : Lent) (m r l : List ℕ) where
  pub not-lent : {why : Refusal} → without_length (Err why) ≡ lending L r l → Err why ≡ way L m r l
  unfolding way
  not-lent e = sym (lent-refused L r l Err _ e)

  module _ (e : without_length (Ok tt) ≡ lending L r l) where
    pub not-read : {why : Refusal} → read_as (Err why) ≡ reading m → Err why ≡ way L m r l
    unfolding way
    not-read n = sym (lends L r l Err _ e ∙ reads-refused m n Err _)

    pub way-decided : {f : Fields} {x : Result Way Refusal} → read_as (Ok f) ≡ reading m → x ≡ way_on (tables L Devices) (tables L Groups) f → x ≡ way L m r l
    unfolding way
    way-decided q x = x ∙ sym (lends L r l Err _ e ∙ reads_on m q Err _ ∙ rw (← read-fields m q))

-- x is the way that was decided

module _ (L : Lent) (m r l : List ℕ) {x : Result Way Refusal} (e : x ≡ way L m r l) where
  pub refuses : {why : Refusal} → x ≡ Err why → telling (Err why) L r l ≡ message L m r l
  unfolding message follow
  refuses w = rw (sym e ∙ w)

  -- a command: the message has a header, the command can be served, and what serving it leaves is the answer

  module _ {k : Command} (w : x ≡ Ok (Serve k)) where
    acts : Acting L m r l
    acts = (serve_known (sym e ∙ w)).0

    pub has-header : header_length ≤ length m
    has-header = long_enough m acts.length

    pub servable : {f : Fields} → read_as (Ok f) ≡ reading m → Servable L f r
    unfolding roomy
    servable q = record {
      tables = acts.sound;
      request = rw (fields_read acts q) (fields_ranged m);
      room = leb-true longest (length r) (split acts.roomy).0;
    }

    pub handled-whole : {f : Fields} {t : Told} {M : Lent} {r' : List ℕ} → read_as (Ok f) ≡ reading m
        → telling (Ok t) M r' [] ≡ handled L k f (mid_of header_length (length m - header_length) m) r []
        → telling (Ok t) M r' l ≡ message L m r l
    unfolding message follow handled answered payload
    handled-whole q a =
        rw (sym e ∙ w, ← fields_read acts q, ← rest_is header_length m) (ap (λ (z : Answer). explaining z.outcome z.reason z.tables z.reply l) a)

  -- a message to hand on: there is room for its recipients, and they are the answer, which does not depend on what else is lent

  module _ {to : Destination} (w : x ≡ Ok (Forward to)) where
    hands : Acting L m r l
    hands = (forward_known (sym e ∙ w)).0

    pub listable : Deliverable L.binds L.members l
    listable = deliverable L r l hands.roomy hands.sound

    pub forwarded-whole : {f : Fields} {o : Accepted} {l' : List ℕ} → read_as (Ok f) ≡ reading m
        → answer (Ok o) nothing_lent [] l' ≡ forwarded (recipients (tables L Binds) (tables L Members) to f) nothing_lent [] l
        → telling (Ok (record { accepted = o; reason = None })) L r l' ≡ message L m r l
    unfolding message follow forwarded
    forwarded-whole {f} {o} {l' = l'} q a =
        rw (sym e ∙ w, ← fields_read hands q) (step (recipients (tables L Binds) (tables L Members) to f) a)
      where
        step : (us : List ℕ) → answer (Ok o) nothing_lent [] l' ≡ forwarded us nothing_lent [] l → answer (Ok o) L r l' ≡ forwarded us L r l
        step [] a = ap (λ (z : Answer). answer z.outcome L r z.list) a
        step (u ∷ us) a = ap (λ (z : Answer). answer z.outcome L r z.list) a
