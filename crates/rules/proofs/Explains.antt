-- A reason is given if and only if Add Bind is answered 0x02.
use Rattle.std.specs.Prelude.{None, Some}
use Rattle.words.specs.Basics.{◌≡◌, refl, sym, ap, ◌∙◌, Bool, true, false, cond, false≢true, List, ℕ, eqb, length}
use Rattle.words.specs.Names.{ok, not_authorized, invalid_argument, not_enough_resources}
use Rattle.words.specs.Outcomes.{number_of}
use Rattle.words.specs.Reasons.{faultless}
use Rattle.rules.specs.Types.{DeviceAddress, Code, Command, AddBind, RemoveBinds, StartSession, EndSession, GetEntries}
use Rattle.rules.specs.Types.{CreateGroup, DeleteGroup, AddToGroup, RemoveFromGroup, GetGroupInfo, Fields, Devices, Binds}
use Rattle.rules.specs.Lists.{ask, ◌&◌}
use Rattle.rules.specs.Octets.{octets, over}
use Rattle.rules.specs.Tables.{some_free}
use Rattle.rules.specs.Layout.{size}
use Rattle.rules.specs.Frame.{Lent, Tables, tables}
use Rattle.rules.specs.Message.{fields, payload, header, reply}
use Rattle.rules.specs.Faults.{fault, add_fault}
use Rattle.rules.specs.Commands.{row, rights_fit, payload_fits, judge, explained, reply_payload}
use Rattle.rules.specs.Calls.{Answer, answered, handled, message}
use Rattle.rules.specs.Explains.{refused_by, Explains, IsExplained}
use Rattle.rules.proofs.Steps.{Answers, leaves, handles, answers}

-- Of a command, by its code

abbrev two : Code → Bool
two c = eqb c.0 invalid_argument.0

-- 0x02 of Add Bind is a fault: no other check gives that code
two-fault : (T : Tables) (s : DeviceAddress) (p : List ℕ) → two (judge T s AddBind p) ≡ true → faultless ((row AddBind).fault T p) ≡ false
unfolding judge payload_fits ask add_fault fault faultless
two-fault T s p h =
    step (rights_fit (T Devices) s AddBind) (eqb (length p) (size Binds)) (faultless ((row AddBind).fault T p)) refl refl (some_free (T Binds)) h
  where
    step : (a b c : Bool) → eqb (length p) (size Binds) ≡ b → faultless ((row AddBind).fault T p) ≡ c → (d : Bool)
        → two (cond a (cond b (cond c (cond d ok not_enough_resources) invalid_argument) invalid_argument) not_authorized) ≡ true
        → faultless ((row AddBind).fault T p) ≡ false
    step false b c e f d h = absurd (false≢true h)
    step true false c e f d h = rw e
    step true true false e f d h = f
    step true true true e f true h = absurd (false≢true h)
    step true true true e f false h = absurd (false≢true h)

-- a code explained: 0x02, and a fault
told-two : (T : Tables) (k : Command) (p : List ℕ) (c : Code) → faultless (explained T k p c) ≡ false
    → (two c ≡ true) × (faultless ((row k).fault T p) ≡ false)
unfolding explained faultless
told-two T k p c h = step (two c) refl h
  where
    step : (b : Bool) → two c ≡ b → faultless (cond b ((row k).fault T p) None) ≡ false → (b ≡ true) × (faultless ((row k).fault T p) ≡ false)
    step true e h = (refl, h)
    step false e h = absurd (false≢true (sym h))

-- of Add Bind alone
is_add_bind : (T : Tables) (k : Command) (p : List ℕ) → faultless ((row k).fault T p) ≡ false → k ≡ AddBind
unfolding faultless
is_add_bind T AddBind p h = refl
is_add_bind T (RemoveBinds q) p h = absurd (false≢true (sym h))
is_add_bind T StartSession p h = absurd (false≢true (sym h))
is_add_bind T EndSession p h = absurd (false≢true (sym h))
is_add_bind T (GetEntries f) p h = absurd (false≢true (sym h))
is_add_bind T CreateGroup p h = absurd (false≢true (sym h))
is_add_bind T DeleteGroup p h = absurd (false≢true (sym h))
is_add_bind T AddToGroup p h = absurd (false≢true (sym h))
is_add_bind T RemoveFromGroup p h = absurd (false≢true (sym h))
is_add_bind T GetGroupInfo p h = absurd (false≢true (sym h))

-- Add Bind answered 0x02 is explained
fault-told : (T : Tables) (s : DeviceAddress) (p : List ℕ) (k : Command) → k ≡ AddBind → two (judge T s k p) ≡ true
    → faultless (explained T k p (judge T s k p)) ≡ false
unfolding explained
fault-told T s p k z h = rw (h, z) (two-fault T s p (rw z at h))

-- Of a message

faultless-none : faultless None ≡ true
unfolding faultless
faultless-none = refl

not-refused : (a : Answer) → eqb (number_of a.outcome) 0 ≡ false → refused_by a ≡ false
unfolding refused_by ◌&◌
not-refused a h = rw h

module _ (L : Lent) (k : Command) (f : Fields) (p r l : List ℕ) where
  -- its code is octet 16 of the reply
  handled-refused : refused_by (handled L k f p r l) ≡ two (judge (tables L) f.source k p)
  unfolding refused_by handled answered reply_payload ◌&◌ over reply header octets
  handled-refused = refl

  handled-reason : (handled L k f p r l).reason ≡ explained (tables L) k p (judge (tables L) f.source k p)
  unfolding handled answered
  handled-reason = refl

pub explains : IsExplained
explains L m r l = by (message L m r l) refl (answers L m r l)
  where
    by : (a : Answer) → message L m r l ≡ a → Answers L m r l a → Explains L m r l
    by a e (leaves t n f) = record {
      given = λ d g. absurd (false≢true (sym (ap refused_by e ∙ not-refused a n) ∙ g));
      only = λ h. absurd (false≢true (sym h ∙ ap (λ (a : Answer). faultless a.reason) e ∙ ap faultless f ∙ faultless-none));
    }
    by a e (handles {k = k} c) =
        let v = judge (tables L) (fields m).source k (payload m) in
        let refused : refused_by (message L m r l) ≡ two v = ap refused_by e ∙ handled-refused L k (fields m) (payload m) r l in
        let reason : (message L m r l).reason ≡ explained (tables L) k (payload m) v =
        ap (λ (a : Answer). a.reason) e ∙ handled-reason L k (fields m) (payload m) r l in
        record {
          given = λ d g.
              let z : k ≡ AddBind = cc in
              ap faultless reason ∙ fault-told (tables L) (fields m).source (payload m) k z (sym refused ∙ g);
          only = λ h.
              let t = told-two (tables L) k (payload m) v (sym (ap faultless reason) ∙ h) in
              (c ∙ ap Some (is_add_bind (tables L) k (payload m) t.1), refused ∙ t.0);
        }
