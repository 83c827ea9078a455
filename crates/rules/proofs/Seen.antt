-- From contracts to runs: where a contract says what the rules say, what callers see of calls that meet it is the history of a run, and the tables that
-- they then hold are those after it. So condition 3, which is proved of runs, holds of what was seen.
use mathlib.Core.Path.{subst₂}
use mathlib.Core.List.{map-append}
use Rattle.words.specs.Basics.{◌≡◌, refl, sym, ap, ◌∙◌, true, List, [], ◌∷◌, ◌++◌, ℕ, length}
use Rattle.rules.specs.Types.{DeviceAddress, Binds}
use Rattle.rules.specs.Lists.{all}
use Rattle.rules.specs.Frame.{Lent}
use Rattle.rules.specs.Host.{HostAnswer, admit, release}
use Rattle.rules.specs.Calls.{Answer, explaining, message}
use Rattle.rules.specs.History.{Call, sends, admits, releases, Said, said_by, said_by_host, said, left, after, Event, history, octets_only, granted}
use Rattle.rules.specs.History.{standing, member_count, free_tables}
use Rattle.rules.specs.Sheet.{bind_count, entries_read}
use Rattle.rules.specs.Seen.{Contract, Seen, begins, goes_on, calls, SeenHolds, SeenReads}
use Rattle.rules.proofs.Run.{same-room, held_run}
use Rattle.rules.proofs.Condition3.{condition3}
use Rattle.rules.proofs.Sheet.{is_the_sheet}

-- A call that was told what the rules say, and left what they say

pub record AsRules (L : Lent) (c : Call) (a : Said) (M : Lent) : Type 0 where
  pub told : a ≡ said L c
  pub leaves : M ≡ left L c

-- from the equation of its contract: the tables K that it says are lent are L

module _ {K L : Lent} (k : K ≡ L) where
  pub as_message : {m r l : List ℕ} {x : Answer} → x ≡ message K m r l → AsRules L (sends m r l) (said_by x) x.tables
  unfolding said left
  as_message {m} {r} {l} {x} e =
      let w : x ≡ message L m r l = e ∙ ap (λ (X : Lent). message X m r l) k in
      record { told = ap said_by w; leaves = ap (λ (x : Answer). x.tables) w }

  pub as_admit : {d : DeviceAddress} {rights : ℕ} {us : List ℕ} {x : HostAnswer} → x ≡ admit K d rights us
      → AsRules L (admits d rights us) (said_by_host x) x.tables
  unfolding said left
  as_admit {d} {rights} {us} {x} e =
      let w : x ≡ admit L d rights us = e ∙ ap (λ (X : Lent). admit X d rights us) k in
      record { told = ap said_by_host w; leaves = ap (λ (x : HostAnswer). x.tables) w }

  pub as_release : {d : DeviceAddress} {x : HostAnswer} → x ≡ release K d → AsRules L (releases d) (said_by_host x) x.tables
  unfolding said left
  as_release {d} {x} e =
      let w : x ≡ release L d = e ∙ ap (λ (X : Lent). release X d) k in
      record { told = ap said_by_host w; leaves = ap (λ (x : HostAnswer). x.tables) w }

answer_of_lem : {L M : Lent} {m r l : List ℕ} {a : Said} → AsRules L (sends m r l) a M
    → explaining a.outcome a.reason M a.reply a.list ≡ message L m r l
unfolding said left
answer_of_lem w = rw (w.told, w.leaves)

-- Where every call that meets its contract is such a call

module _ {Meets : Contract} (right : (L : Lent) (c : Call) (a : Said) (M : Lent) → Meets L c a M → AsRules L c a M) where
  -- what was seen is a run: the tables are those after it, and what was told is its history
  pub as_run : {L₀ L : Lent} {h : List Event} → Seen Meets L₀ h L → (after L₀ (calls h) ≡ L) × (history L₀ (calls h) ≡ h)
  unfolding after history
  as_run begins = (refl, refl)
  as_run (goes_on {c = c} s m) =
      let k = as_run s in
      let w = right _ _ _ _ m in
      (ap (λ (X : Lent). left X c) k.0 ∙ sym w.leaves, rw (k.0, k.1, w.told))

  -- what one more call was told is what the rules say after the run
  told_in_run : {L₀ L M : Lent} {h : List Event} {c : Call} {a : Said} → Seen Meets L₀ h L → Meets L c a M → a ≡ said (after L₀ (calls h)) c
  told_in_run {c = c} s m = (right _ _ _ _ m).told ∙ ap (λ (X : Lent). said X c) (sym (as_run s).0)

  -- the same of a run
  pub run_holds : (L₀ : Lent) → free_tables L₀ ≡ true → (cs : List Call) → all octets_only cs ≡ true → SeenHolds Meets (history L₀ cs) (after L₀ cs)
  run_holds L₀ f cs o =
      let H = condition3 L₀ f cs o in
      let k = held_run L₀ f cs o in
      record {
        sound = H.sound;
        delivered = λ {m} {r} {l} x q e us u. answer_of_lem (right _ _ _ _ x) ∙ H.delivered m r l us q (sym (same-room k r l) ∙ e) u;
        linked-units = H.linked-units;
        counts = λ {m} {r} {l} x o c g.
            let w = right _ _ _ _ x in
            ap member_count w.told ∙ H.counts m r l o c (ap (granted (sends m r l)) (sym w.told) ∙ g);
      }

  -- condition 3 of what was seen
  pub seen_holds : {L₀ L : Lent} {h : List Event} → free_tables L₀ ≡ true → Seen Meets L₀ h L → all octets_only (calls h) ≡ true → SeenHolds Meets h L
  seen_holds {L₀} {L} {h} f s o = let k = as_run s in subst₂ (λ (h : List Event) (L : Lent). SeenHolds Meets h L) k.1 k.0 (run_holds L₀ f (calls h) o)

  -- what is read back, of what was seen
  pub seen_reads : {L₀ L : Lent} {h : List Event} → free_tables L₀ ≡ true → Seen Meets L₀ h L → all octets_only (calls h) ≡ true → SeenReads Meets L₀ h
  seen_reads {L₀} {L} {h} f s o =
      let B = is_the_sheet L₀ f (calls h) o in
      let k = as_run s in
      record {
        sheet = B.sheet;
        stands = rw k.1 at B.stands;
        once = B.once;
        counts = λ {L} {M} {m} {r} {l} z x om c g.
            let w = told_in_run z x in
            ap bind_count w ∙ B.counts m r l om c (ap (granted (sends m r l)) (sym w) ∙ g) ∙ ap (λ (i : List Event). length (standing Binds i)) k.1;
        reads = λ later i {L} {M} {m} {r} {l} z x ol n om c g.
            let e : calls (later ++ h) ≡ calls later ++ calls h = map-append _ later h in
            let w = rw e at (told_in_run z x) in
            ap entries_read w ∙ B.reads (calls later) i m r l ol n om c (ap (granted (sends m r l)) (sym w) ∙ g);
      }

-- What is seen leaves out no run: where a contract says just what the rules say, every run is seen
pub run_seen : (L₀ : Lent) (cs : List Call) → Seen AsRules L₀ (history L₀ cs) (after L₀ cs)
unfolding after history
run_seen L₀ [] = begins
run_seen L₀ (c ∷ cs) = goes_on (run_seen L₀ cs) (record { told = refl; leaves = refl })
