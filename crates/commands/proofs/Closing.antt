-- Laws of the sessions that a command closes: what the command's own part leaves, and sessions closed where it changed the binds, is the command whole.
use Rattle.words.specs.Basics.{◌≡◌, refl, sym, ap, ◌∙◌, Bool, true, false, cond, ◌&&◌, false≢true, List, ℕ, eqb, get_or, eqb-true}
use Rattle.words.specs.Names.{code, ok}
use Rattle.rules.specs.Types.{DeviceAddress, Code, Command, AddBind, RemoveBinds, StartSession, EndSession, GetEntries, CreateGroup, DeleteGroup, AddToGroup}
use Rattle.rules.specs.Types.{RemoveFromGroup, GetGroupInfo, Binds, Sessions}
use Rattle.rules.specs.Octets.{over}
use Rattle.rules.specs.Tables.{none, store, wipe, written}
use Rattle.rules.specs.Layout.{size, session_record}
use Rattle.rules.specs.Frame.{Lent, tables, Tables, also, Effect, nothing, only, changed}
use Rattle.rules.specs.Sessions.{in_session, alters, closing}
use Rattle.rules.specs.Commands.{removal, row, judge, on_ok, done, reply_payload}
use Rattle.rules.proofs.Lists.{and-true, and-false, pass}
use Rattle.rules.proofs.Frames.{replaced, replaced-same}
use Rattle.rules.proofs.Judged.{invalid}
use Rattle.acting.specs.Acting.{Performed, performed, performing, acting}
use Rattle.commands.specs.Perform.{judging, touches}

-- of a command that is granted
pub touches-alters : (T : Tables) (s : DeviceAddress) (k : Command) (p : List ℕ) → (row k).verdict T s p ≡ ok
    → touches k (T Binds) p ≡ alters ((row k).effect T s p Binds) (T Binds)
unfolding touches alters also nothing removal
touches-alters T s AddBind p v = refl
touches-alters T s (RemoveBinds q) p v = sym (pass invalid v).0
touches-alters T s StartSession p v =
    elim (in_session (T Sessions) s) as (λ b. false ≡ alters (cond b nothing (only Sessions (store (session_record s))) Binds) (T Binds))
    [ true ↦ refl | false ↦ refl ]
touches-alters T s EndSession p v = refl
touches-alters T s (GetEntries f) p v = refl
touches-alters T s CreateGroup p v = refl
touches-alters T s DeleteGroup p v = refl
touches-alters T s AddToGroup p v = refl
touches-alters T s RemoveFromGroup p v = refl
touches-alters T s GetGroupInfo p v = refl

-- what changes the binds leaves the sessions to be closed
own-sessions : (T : Tables) (s : DeviceAddress) (k : Command) (p : List ℕ) → touches k (T Binds) p ≡ true → (row k).effect T s p Sessions ≡ none
unfolding touches also nothing
own-sessions T s AddBind p t = refl
own-sessions T s (RemoveBinds q) p t = refl
own-sessions T s StartSession p t = absurd (false≢true t)
own-sessions T s EndSession p t = absurd (false≢true t)
own-sessions T s (GetEntries f) p t = absurd (false≢true t)
own-sessions T s CreateGroup p t = absurd (false≢true t)
own-sessions T s DeleteGroup p t = refl
own-sessions T s AddToGroup p t = absurd (false≢true t)
own-sessions T s RemoveFromGroup p t = absurd (false≢true t)
own-sessions T s GetGroupInfo p t = absurd (false≢true t)

-- every session freed
abbrev closed : List ℕ → List ℕ
closed ss = written (size Sessions) (wipe (λ r. true)) ss

module _ (L : Lent) (x : Effect) where
  -- one table more: what it held, changed, beside the others as they are left
  closed-also : x Sessions ≡ none → replaced Sessions (closed (changed x L).sessions) (changed x L) ≡ changed (also Sessions (wipe (λ r. true)) x) L
  unfolding replaced also changed written
  closed-also e = rw e

  -- sessions closed where the binds change
  closed_when : {t : Bool} → t ≡ alters (x Binds) (tables L Binds) → (t ≡ true → x Sessions ≡ none)
      → replaced Sessions (cond t (closed (changed x L).sessions) (changed x L).sessions) (changed x L) ≡ changed (closing (tables L) x) L
  unfolding closing
  closed_when {t} e n = rw (← e) (step t n)
    where
      step : (b : Bool) → (b ≡ true → x Sessions ≡ none) → replaced Sessions (cond b (closed (changed x L).sessions) (changed x L).sessions) (changed x L)
          ≡ changed (cond b (also Sessions (wipe (λ r. true)) x) x) L
      step true n = closed-also (n refl)
      step false n = replaced-same Sessions (changed x L)

module _ (L : Lent) (s : DeviceAddress) (k : Command) (p out : List ℕ) where
  abbrev v : Code
  v = (row k).verdict (tables L) s p

  abbrev own : Effect
  own = (row k).effect (tables L) s p

  -- by the code of its own checks
  tables-closed : {t : Bool} {M : Lent} → t ≡ touches k (tables L Binds) p → M ≡ changed (on_ok v own nothing) L
      → replaced Sessions (cond (t && eqb v.0 ok.0) (closed M.sessions) M.sessions) M ≡ changed (done (tables L) s k p v) L
  unfolding done on_ok
  tables-closed {t} e m = rw m (step (eqb v.0 ok.0) refl)
    where
      step : (b : Bool) → eqb v.0 ok.0 ≡ b
          → replaced Sessions (cond (t && b) (closed (changed (cond b own nothing) L).sessions) (changed (cond b own nothing) L).sessions)
          (changed (cond b own nothing) L) ≡ changed (cond b (closing (tables L) own) nothing) L
      step true g =
          rw (and-true t)
          (closed_when L own (e ∙ touches-alters (tables L) s k p (ap code (eqb-true v.0 ok.0 g))) (λ h. own-sessions (tables L) s k p (sym e ∙ h)))
      step false g = rw (and-false t) (replaced-same Sessions (changed nothing L))

  -- the code stands first in the reply
  first_code : {n : ℕ} {M : Lent} {out' : List ℕ} → performed n M out' ≡ acting L s k p out → get_or out' 0 0 ≡ v.0
  unfolding performing reply_payload over
  first_code d = ap (λ (y : Performed). get_or y.out 0 0) d

  pub closes_too : {t : Bool} {n : ℕ} {M : Lent} {ss out' : List ℕ} → judge (tables L) s k p ≡ v → t ≡ touches k (tables L Binds) p
      → performed n M out' ≡ acting L s k p out → ss ≡ cond (t && eqb (get_or out' 0 0) ok.0) (closed M.sessions) M.sessions
      → performed n (replaced Sessions ss M) out' ≡ judging L s k p out
  unfolding performing
  closes_too j e d h =
      rw (
        j,
        h,
        first_code d,
        tables-closed e (ap (λ (y : Performed). y.tables) d),
        ap (λ (y : Performed). y.length) d,
        ap (λ (y : Performed). y.out) d,
      )
