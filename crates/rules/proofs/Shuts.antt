-- What a call's change does to the sessions (document 02, request 1): where it alters the binds it closes all, and else it opens or ends its own device's.
use Rattle.words.specs.Basics.{◌≡◌, refl, sym, ◌∙◌, Bool, true, false, cond, false≢true, List, ℕ}
use Rattle.rules.specs.Types.{DeviceAddress, Command, AddBind, RemoveBinds, StartSession, EndSession, GetEntries, CreateGroup, DeleteGroup, AddToGroup}
use Rattle.rules.specs.Types.{RemoveFromGroup, GetGroupInfo, Binds, Sessions}
use Rattle.rules.specs.Tables.{addressed, Change, none, store, wipe}
use Rattle.rules.specs.Layout.{session_record}
use Rattle.rules.specs.Frame.{Tables, also, Effect, nothing, only}
use Rattle.rules.specs.Sessions.{in_session, alters, closing}
use Rattle.rules.specs.Commands.{row}
use Rattle.rules.specs.Host.{admitting, taking}

-- the device's own session and no other: nothing, opened where the call starts one, ended
pub data Own (d : DeviceAddress) (Starts : Type 0) : Change → Type 0 where
  untouched : Own d Starts none
  opened : Starts → Own d Starts (store (session_record d))
  ended : Own d Starts (wipe (addressed d.0))

pub record Shuts (T : Tables) (d : DeviceAddress) (Starts : Type 0) (x : Effect) : Type 0 where
  pub all : alters (x Binds) (T Binds) ≡ true → x Sessions ≡ wipe (λ r. true)
  pub own : alters (x Binds) (T Binds) ≡ false → Own d Starts (x Sessions)

pub own-starts : {d : DeviceAddress} {S Starts : Type 0} {c : Change} → (S → Starts) → Own d S c → Own d Starts c
own-starts f untouched = untouched
own-starts f (opened s) = opened (f s)
own-starts f ended = ended

module _ (T : Tables) (d : DeviceAddress) {Starts : Type 0} where
  pub shuts_nothing : Shuts T d Starts nothing
  unfolding nothing alters
  shuts_nothing = record { all = λ e. absurd (false≢true e); own = λ e. untouched }

  pub shuts_closing : (x : Effect) → Own d Starts (x Sessions) → Shuts T d Starts (closing T x)
  unfolding closing also
  shuts_closing x o = step (alters (x Binds) (T Binds)) refl
    where
      step : (b : Bool) → alters (x Binds) (T Binds) ≡ b → Shuts T d Starts (cond b (also Sessions (wipe (λ r. true)) x) x)
      step true e = record { all = λ h. refl; own = λ h. absurd (false≢true (sym h ∙ e)) }
      step false e = record { all = λ h. absurd (false≢true (sym e ∙ h)); own = λ h. o }

-- Each call

-- a command, of which Start alone opens one
pub own-command : (T : Tables) (s : DeviceAddress) (k : Command) (p : List ℕ) → Own s (k ≡ StartSession) ((row k).effect T s p Sessions)
unfolding also nothing
own-command T s AddBind p = untouched
own-command T s (RemoveBinds q) p = untouched
own-command T s StartSession p =
    elim (in_session (T Sessions) s) as (λ b. Own s (StartSession ≡ StartSession) (cond b nothing (only Sessions (store (session_record s))) Sessions))
    [ true ↦ untouched | false ↦ opened refl ]
own-command T s EndSession p = ended
own-command T s (GetEntries f) p = untouched
own-command T s CreateGroup p = untouched
own-command T s DeleteGroup p = untouched
own-command T s AddToGroup p = untouched
own-command T s RemoveFromGroup p = untouched
own-command T s GetGroupInfo p = untouched

pub own-release : (d : DeviceAddress) {Starts : Type 0} → Own d Starts (taking d Sessions)
unfolding taking also
own-release d = ended

pub shuts_admit : (T : Tables) (d : DeviceAddress) (rights : ℕ) (us : List ℕ) {Starts : Type 0} → Shuts T d Starts (admitting d rights us)
unfolding admitting also nothing alters
shuts_admit T d rights us = record { all = λ e. absurd (false≢true e); own = λ e. untouched }
