-- Every call, refused ones included, is one step: it leaves the tables with a change in order, and the change is what the call and its answer say.
use Rattle.std.specs.Prelude.{None, Some, Result}
use Rattle.words.specs.Basics.{◌≡◌, refl, sym, ap, ◌∙◌, Bool, true, false, cond, false≢true, List, [], ◌∷◌, ◌++◌, ℕ, eqb, length, drop, eqb-true}
use Rattle.words.specs.Names.{code, ok, header_length}
use Rattle.words.specs.Outcomes.{number_of}
use Rattle.rules.specs.Types.{DeviceAddress, Code, Fields, Command, StartSession, Binds, Members, Outcome, Way, Refusal}
use Rattle.rules.specs.Lists.{◌&◌}
use Rattle.rules.specs.Octets.{octet, octets, over, octet_string}
use Rattle.rules.specs.Frame.{Lent, tables, Effect, nothing, changed}
use Rattle.rules.specs.Message.{fields, payload, header, reply}
use Rattle.rules.specs.Recipients.{recipients}
use Rattle.rules.specs.Payloads.{command}
use Rattle.rules.specs.Sessions.{closing}
use Rattle.rules.specs.Commands.{row, judge, on_ok, done, reply_payload}
use Rattle.rules.specs.Host.{settled, admit, releasing, release}
use Rattle.rules.specs.Calls.{Answer, answered, handled, forwarded, follow, message}
use Rattle.rules.specs.History.{Call, sends, admits, releases, said, left, octets_only, granted, Entries, silence, lines, asked, entries}
use Rattle.rules.specs.Sheet.{device_of, Starting}
use Rattle.rules.proofs.Lists.{all_drop}
use Rattle.rules.proofs.Words.{shaped}
use Rattle.rules.proofs.Frames.{changed-nothing}
use Rattle.rules.proofs.Kept.{Sane, Allowed, ok-nothing}
use Rattle.rules.proofs.Granted.{Granted, granted-command, ok-closing, Told, told-nothing, told-closing}
use Rattle.rules.proofs.Hosted.{Hosted, granting, refusing, hosted-admit, hosted-release}
use Rattle.rules.proofs.Shuts.{Shuts, shuts_nothing, shuts_closing, own-starts, own-command, own-release, shuts_admit}
use Rattle.rules.proofs.Ways.{Acting, Ways, refuses, serves, forwards, ways}

-- What a message answers: a refusal or a list, which leaves the tables, or the command that it is

unfoldable pub granted_by : Answer → Bool
granted_by a = eqb (number_of a.outcome) 0 & eqb (octet header_length a.reply) ok.0

pub data Answers (L : Lent) (m r l : List ℕ) : Answer → Type 0 where
  leaves : {a : Answer} → a.tables ≡ L → eqb (number_of a.outcome) 0 ≡ false → a.reason ≡ None → Answers L m r l a
  handles : {k : Command} → command (fields m) ≡ Some k → Answers L m r l (handled L k (fields m) (payload m) r l)

not-granted : (a : Answer) → eqb (number_of a.outcome) 0 ≡ false → granted_by a ≡ false
unfolding granted_by ◌&◌
not-granted a h = rw h

handed_on : (us : List ℕ) (L : Lent) (m r l : List ℕ) → Answers L m r l (forwarded us L r l)
unfolding forwarded
handed_on [] L m r l = leaves refl refl refl
handed_on (u ∷ us) L m r l = leaves refl refl refl

pub answers : (L : Lent) (m r l : List ℕ) → Answers L m r l (message L m r l)
unfolding message follow
answers L m r l = by (ways L m r l)
  where
    by : {w : Result Way Refusal} → Ways (Acting L m r l) (fields m) w → Answers L m r l (follow w L m r l)
    by (refuses n) = leaves refl n.0 refl
    by (serves {k = k} p e) = handles e
    by (forwards {to = to} p e) = handed_on (recipients (tables L Binds) (tables L Members) to (fields m)) L m r l

-- the code of a command is octet 16 of its reply
pub handled-granted : (L : Lent) (k : Command) (f : Fields) (p r l : List ℕ)
    → granted_by (handled L k f p r l) ≡ eqb (judge (tables L) f.source k p).0 ok.0
unfolding granted_by handled answered reply_payload ◌&◌ over reply header octets
handled-granted L k f p r l = refl

-- A command that was granted: its code is 0x00, and behind the header its reply has the code, what its row says, and then what stood there

pub record Reply (L : Lent) (m r l : List ℕ) (k : Command) : Type 0 where
  pub judged : judge (tables L) (fields m).source k (payload m) ≡ ok
  pub rest : List ℕ
  pub says : drop header_length (message L m r l).reply ≡ ok.0 ∷ ((row k).behind (tables L) (payload m) ++ rest)

module _ (L : Lent) (k : Command) (f : Fields) (p r : List ℕ) where
  behind-header : (q : List ℕ) → drop header_length (over (reply f q) r) ≡ q ++ drop (length (reply f q)) r
  unfolding over reply header octets
  behind-header q = refl

  ok-payload : judge (tables L) f.source k p ≡ ok → reply_payload (tables L) k p (judge (tables L) f.source k p) ≡ ok.0 ∷ (row k).behind (tables L) p
  unfolding reply_payload on_ok
  ok-payload j = rw j

pub granted-reply : (L : Lent) (m r l : List ℕ) (k : Command) → command (fields m) ≡ Some k → granted (sends m r l) (said L (sends m r l)) ≡ true
    → Reply L m r l k
unfolding said granted granted_by handled answered
granted-reply L m r l k d g = by (message L m r l) refl (answers L m r l)
  where
    by : (a : Answer) → message L m r l ≡ a → Answers L m r l a → Reply L m r l k
    by a e (leaves t n f) = absurd (false≢true (sym (ap granted_by e ∙ not-granted a n) ∙ g))
    by a e (handles {k = i} c) =
        let z : i ≡ k = cc in
        let s : message L m r l ≡ handled L k (fields m) (payload m) r l = rw z at e in
        let j : judge (tables L) (fields m).source k (payload m) ≡ ok =
        ap code (eqb-true _ 0 (sym (ap granted_by s ∙ handled-granted L k (fields m) (payload m) r l) ∙ g)) in
        record {
          judged = j;
          rest = _;
          says = ap (λ (x : Answer). drop header_length x.reply) s ∙ behind-header L k (fields m) (payload m) r _
              ∙ ap (λ (p : List ℕ). p ++ drop (length (reply (fields m) p)) r) (ok-payload L k (fields m) (payload m) r j);
        }

-- The step

-- what a call writes on the sheet: nothing, unless it was granted
unfoldable pub entered : Bool → Entries → Entries
entered b e = cond b e silence

pub record Step (L : Lent) (c : Call) : Type 0 where
  pub change : Effect
  pub leaves : left L c ≡ changed change L
  pub ok : Allowed L change
  pub told : Told change (entered (granted c (said L c)) (entries c))
  pub shuts : Shuts (tables L) (device_of c) (Starting (device_of c) c) change

told_when : {x : Effect} (e : Entries) {b b' : Bool} → b ≡ b' → Told x (entered b' e) → Told x (entered b e)
told_when e h t = rw h t

-- where nothing is granted, nothing is told
told-refused : (e : Entries) → Told nothing (entered false e)
unfolding entered
told-refused e = told-nothing

-- a command does something or nothing, by its code
module _ (L : Lent) (s : DeviceAddress) (k : Command) (p : List ℕ) (c : Code) (h : c ≡ ok → Granted L s k p) where
  ok-done : Allowed L (done (tables L) s k p c)
  unfolding done on_ok
  ok-done = step (eqb c.0 ok.0) refl
    where
      step : (b : Bool) → eqb c.0 ok.0 ≡ b → Allowed L (cond b (closing (tables L) ((row k).effect (tables L) s p)) nothing)
      step true e = ok-closing (tables L) (h (ap code (eqb-true c.0 ok.0 e))).ok
      step false e = ok-nothing L

  told-done : Told (done (tables L) s k p c) (entered (eqb c.0 ok.0) (lines k p))
  unfolding done on_ok entered
  told-done = step (eqb c.0 ok.0) refl
    where
      step : (b : Bool) → eqb c.0 ok.0 ≡ b → Told (cond b (closing (tables L) ((row k).effect (tables L) s p)) nothing) (cond b (lines k p) silence)
      step true e = told-closing (tables L) (h (ap code (eqb-true c.0 ok.0 e))).told
      step false e = told-nothing

  shuts_done : {Starts : Type 0} → (k ≡ StartSession → Starts) → Shuts (tables L) s Starts (done (tables L) s k p c)
  unfolding done on_ok
  shuts_done {Starts} f =
      elim (eqb c.0 ok.0) as (λ b. Shuts (tables L) s Starts (cond b (closing (tables L) ((row k).effect (tables L) s p)) nothing))
      [ true ↦ shuts_closing (tables L) s _ (own-starts f (own-command (tables L) s k p)) | false ↦ shuts_nothing (tables L) s ]

pub octets-payload : (m : List ℕ) → octet_string m ≡ true → octet_string (payload m) ≡ true
unfolding octet_string payload
octets-payload m o = all_drop _ header_length m o

step_message : (L : Lent) (m r l : List ℕ) → octet_string m ≡ true → Sane L → Step L (sends m r l)
unfolding left said granted entries asked granted_by handled answered
step_message L m r l o S = by (message L m r l) refl (answers L m r l)
  where
    by : (a : Answer) → message L m r l ≡ a → Answers L m r l a → Step L (sends m r l)
    by a e (leaves t n f) = record {
      change = nothing;
      leaves = ap (λ (x : Answer). x.tables) e ∙ t ∙ sym (changed-nothing L);
      ok = ok-nothing L;
      told = told_when (entries (sends m r l)) (ap granted_by e ∙ not-granted a n) (told-refused (entries (sends m r l)));
      shuts = shuts_nothing (tables L) (fields m).source;
    }
    by a e (handles {k = k} d) =
        let f : Fields = fields m in
        let p : List ℕ = payload m in
        let c : Code = judge (tables L) f.source k p in
        let g : c ≡ ok → Granted L f.source k p = granted-command L p (octets-payload m o) f.source k S in
        record {
          change = done (tables L) f.source k p c;
          leaves = ap (λ (x : Answer). x.tables) e;
          ok = ok-done L f.source k p c g;
          told = told_when (entries (sends m r l)) (ap granted_by e ∙ handled-granted L k f p r l) (rw d (told-done L f.source k p c g));
          shuts = shuts_done L f.source k p c g (λ z. (d ∙ ap (λ (k : Command). Some k) z, refl));
        }

-- the same of a host call, whose entries are these
step_host : (L : Lent) (c : Call) (o : Outcome) (x : Effect) → left L c ≡ (settled x L o).tables → granted c (said L c) ≡ eqb (number_of o) 0
    → Hosted L x (entries c) o → Shuts (tables L) (device_of c) (Starting (device_of c) c) x → Step L c
unfolding entered settled
step_host L c o x t g (granting k w) z = record { change = x; leaves = t; ok = k; told = told_when (entries c) g w; shuts = z }
step_host L c o x t g (refusing n) z = record {
  change = nothing;
  leaves = t ∙ rw n (sym (changed-nothing L));
  ok = ok-nothing L;
  told = told_when (entries c) (g ∙ n) (told-refused (entries c));
  shuts = shuts_nothing (tables L) (device_of c);
}

pub step : (L : Lent) (c : Call) → octets_only c ≡ true → Sane L → Step L c
unfolding octets_only shaped left said granted settled admit release releasing
step L (sends m r l) o S = step_message L m r l o S
step L (admits d a us) o S = step_host L (admits d a us) (admit L d a us).outcome _ refl refl (hosted-admit L d a us o) (shuts_admit (tables L) d a us)
step L (releases d) o S = step_host L (releases d) (release L d).outcome _ refl refl (hosted-release L d S)
    (shuts_closing (tables L) d _ (own-release d))
