-- Closing, over all calls (document 02, request 1): a call that changes the bind table leaves no session open, one that does not leaves every other device's,
-- and a session that is still open reads the binds that it was started on.
use Rattle.words.specs.Basics.{◌≡◌, refl, sym, ap, ◌∙◌, Bool, true, false, cond, not, ◌&&◌, false≢true, List, [], ◌∷◌, ◌++◌, ℕ, ◌%◌, arith}
use Rattle.words.specs.Basics.{eqb, length, eqb-true}
use Rattle.words.specs.Outcomes.{number_of}
use Rattle.rules.specs.Types.{DeviceAddress, Binds, Sessions, Outcome}
use Rattle.rules.specs.Lists.{count, any, all, keep}
use Rattle.rules.specs.Tables.{Rec, records, is_free, blank, used, addressed, clear, Change, none, store, wipe, change, written}
use Rattle.rules.specs.Layout.{size, session_record}
use Rattle.rules.specs.Frame.{Lent, tables, Tables, also, Effect, changed}
use Rattle.rules.specs.Sessions.{in_session, alters}
use Rattle.rules.specs.Host.{settled, taking, releasing, release}
use Rattle.rules.specs.History.{Call, sends, admits, releases, said, left, after, octets_only, granted, entries, free_tables}
use Rattle.rules.specs.Sheet.{device_of, Closes, Starting, NoStart}
use Rattle.rules.proofs.Lists.{and_parts, and-false, or_parts, any_weaken, any_same, any-and, count-some, count-two}
use Rattle.rules.proofs.Words.{word_of, apart}
use Rattle.rules.proofs.Records.{bytes-records}
use Rattle.rules.proofs.Changes.{Storable, free-blank, count-put, count-clear, any-put, any-clear}
use Rattle.rules.proofs.Frames.{lent-changed}
use Rattle.rules.proofs.Kept.{Sane, table-changed, whole-at, whole_length}
use Rattle.rules.proofs.Stored.{session_device_lem}
use Rattle.rules.proofs.Granted.{closing-all}
use Rattle.rules.proofs.Hosted.{Hosted, granting, refusing, hosted-release}
use Rattle.rules.proofs.Shuts.{Own, untouched, opened, ended}
use Rattle.rules.proofs.Steps.{Step, step}
use Rattle.rules.proofs.Run.{held_run}

-- A change alters a table, or leaves every octet

blank-free : (r : Rec) → is_free r ≡ true → blank r ≡ r
unfolding is_free blank all
blank-free [] h = refl
blank-free (o ∷ r) h = let a = and_parts (eqb o 255) (all (λ o. eqb o 255) r) h in rw (eqb-true o 255 a.0, blank-free r a.1)

clear_none : (q : Rec → Bool) (t : List Rec) → any q (used t) ≡ false → clear q t ≡ t
unfolding clear used keep any
clear_none q [] h = refl
clear_none q (r ∷ t) h = step (is_free r) refl h (clear_none q t)
  where
    stays : (b : Bool) → is_free r ≡ true → cond b (blank r) r ≡ r
    stays true e = blank-free r e
    stays false e = refl

    step : (b : Bool) → is_free r ≡ b → any q (cond (not b) (r ∷ used t) (used t)) ≡ false → (any q (used t) ≡ false → clear q t ≡ t)
        → cond (q r) (blank r) r ∷ clear q t ≡ r ∷ t
    step true e h ih = rw (stays (q r) e, ih h)
    step false e h ih = let a = or_parts (q r) (any q (used t)) h in rw (a.0, ih a.1)

unaltered : (k : ℕ) (c : Change) (t : List ℕ) → length t % k ≡ 0 → alters c (records k t) ≡ false → written k c t ≡ t
unfolding alters written
unaltered k none t w h = refl
unaltered k (store r) t w h = absurd (false≢true (sym h))
unaltered k (wipe q) t w h = rw (clear_none q (records k t) h) (bytes-records k t w)

-- one more, or fewer: never as many
altered : (c : Change) (t : List Rec) → Storable c t → alters c t ≡ true → change c t ≡ t → ⊥
unfolding alters change Storable
altered none t f h e = false≢true h
altered (store r) t f h e =
    let n : count (λ x. true) (used t) ≡ count (λ x. true) (used (change (store r) t)) = ap (λ (s : List Rec). count (λ x. true) (used s)) (sym e) in
    absurd (omega (arith, n, count-put (λ x. true) r t f.0 f.1))
altered (wipe q) t f h e =
    let n : count (λ x. true) (used t) ≡ count (λ x. true) (used (change (wipe q) t)) = ap (λ (s : List Rec). count (λ x. true) (used s)) (sym e) in
    let two = count-two q (λ r. not (q r) && true) (λ r. true) (λ r g. refl) (λ r g. refl) (λ r g i. both (q r) g i) (used t) in
    absurd (omega (arith, n, count-clear (λ x. true) q t, two, count-some q (used t) h))
  where
    both : (b : Bool) → b ≡ true → (not b && true) ≡ true → ⊥
    both true g i = false≢true i
    both false g i = false≢true g

-- The sessions that are open

none_open : (t : List Rec) → used (clear (λ r. true) t) ≡ []
unfolding used clear keep
none_open [] = refl
none_open (r ∷ t) = rw (free-blank r) (none_open t)

module _ (e : DeviceAddress) where
  -- another device's record is not e's
  other_record : (d : DeviceAddress) → (d.0 ≡ e.0 → ⊥) → addressed e.0 (session_record d) ≡ false
  other_record d n = step (addressed e.0 (session_record d)) refl
    where
      step : (b : Bool) → addressed e.0 (session_record d) ≡ b → b ≡ false
      step true h = absurd (n (sym (session_device_lem d) ∙ word_of e.0 (session_record d) h))
      step false h = refl

  -- a call of another device leaves e's session
  others : {d : DeviceAddress} {Starts : Type 0} {c : Change} (t : List Rec) → Own d Starts c → Storable c t → (d.0 ≡ e.0 → ⊥)
      → in_session (change c t) e ≡ in_session t e
  unfolding in_session change Storable
  others t untouched f n = refl
  others {d = d} t (opened s) f n = any-put (addressed e.0) (session_record d) t f.0 f.1 ∙ rw (other_record d n)
  others {d = d} t ended f n = any-clear (addressed e.0) (addressed d.0) t ∙ any_same _ (addressed e.0) kept (used t)
    where
      kept : (r : Rec) → (not (addressed d.0 r) && addressed e.0 r) ≡ addressed e.0 r
      kept r = step (addressed e.0 r) refl
        where
          step : (b : Bool) → addressed e.0 r ≡ b → (not (addressed d.0 r) && b) ≡ b
          step true h = rw (apart e.0 d.0 r (λ z. n (sym z)) h)
          step false h = and-false (not (addressed d.0 r))

  -- one that is open after a call was open before it, unless the call started it
  still_open : {d : DeviceAddress} {Starts : Type 0} {c : Change} (t : List Rec) → Own d Starts c → Storable c t → (Starts → d.0 ≡ e.0 → ⊥)
      → in_session (change c t) e ≡ true → in_session t e ≡ true
  unfolding in_session change Storable
  still_open t untouched f n h = h
  still_open {d = d} t (opened s) f n h = sym (rw (other_record d (n s)) at (any-put (addressed e.0) (session_record d) t f.0 f.1)) ∙ h
  still_open {d = d} t ended f n h =
      any_weaken _ (addressed e.0) (λ r g. (and_parts (not (addressed d.0 r)) (addressed e.0 r) g).1) (used t)
      (sym (any-clear (addressed e.0) (addressed d.0) t) ∙ h)

  -- what takes all of e's records leaves it without a session
  ended_all : (q : Rec → Bool) (t : List Rec) → ((r : Rec) → addressed e.0 r ≡ true → q r ≡ true) → in_session (change (wipe q) t) e ≡ false
  unfolding in_session change
  ended_all q t w = any-clear (addressed e.0) q t ∙ any_same _ (λ r. false) gone (used t) ∙ any-and false (λ r. false) (used t)
    where
      gone : (r : Rec) → (not (q r) && addressed e.0 r) ≡ false
      gone r = step (addressed e.0 r) refl
        where
          step : (b : Bool) → addressed e.0 r ≡ b → (not (q r) && b) ≡ false
          step true h = rw (w r h)
          step false h = and-false (not (q r))

-- A call

module _ (L : Lent) (c : Call) (S : Sane L) (s : Step L c) where
  abbrev x : Effect
  x = s.change

  abbrev altering : Bool
  altering = alters (x Binds) (tables L Binds)

  binds-left : (left L c).binds ≡ written (size Binds) (x Binds) L.binds
  binds-left = ap (λ (M : Lent). M.binds) s.leaves ∙ lent-changed x L Binds

  sessions-left : tables (left L c) Sessions ≡ change (x Sessions) (tables L Sessions)
  sessions-left = ap (λ (M : Lent). tables M Sessions) s.leaves ∙ table-changed L x s.ok S Sessions

  binds-kept : altering ≡ false → (left L c).binds ≡ L.binds
  binds-kept h = binds-left ∙ unaltered (size Binds) (x Binds) L.binds (whole_length Binds L.binds (whole-at L S.sound Binds)) h

  binds-changed : altering ≡ true → (left L c).binds ≡ L.binds → ⊥
  binds-changed h e =
      altered (x Binds) (tables L Binds) (s.ok.order Binds).room h
      (sym (table-changed L x s.ok S Binds) ∙ ap (λ (M : Lent). tables M Binds) (sym s.leaves) ∙ ap (records (size Binds)) e)

  all_closed : altering ≡ true → used (tables (left L c) Sessions) ≡ []
  unfolding change
  all_closed h = ap used (sessions-left ∙ ap (λ (y : Change). change y (tables L Sessions)) (s.shuts.all h)) ∙ none_open (tables L Sessions)

  by_binds : {P : Type 0} → (altering ≡ true → P) → (altering ≡ false → P) → P
  by_binds {P} f g = elim altering as (λ b. altering ≡ b → P) [ true ↦ f | false ↦ g ] refl

  own_session : (d : DeviceAddress) → (Starting (device_of c) c → (device_of c).0 ≡ d.0 → ⊥) → in_session (tables (left L c) Sessions) d ≡ true
      → ((left L c).binds ≡ L.binds) × (in_session (tables L Sessions) d ≡ true)
  unfolding in_session any
  own_session d n h =
      by_binds (λ e. absurd (false≢true (rw (all_closed e) at h)))
      (λ e. (binds-kept e, still_open d (tables L Sessions) (s.shuts.own e) (s.ok.order Sessions).room n (rw sessions-left at h)))

-- a release ends its own device's, whether it closes all or not
release-ends : (T : Tables) (d : DeviceAddress) (t : List Rec) → in_session (change (releasing T d Sessions) t) d ≡ false
unfolding releasing taking also
release-ends T d t =
    closing-all T (λ y. in_session (change (y Sessions) t) d ≡ false) (ended_all d (addressed d.0) t (λ r h. h)) (ended_all d (λ r. true) t (λ r h. refl))

module _ (L : Lent) (d : DeviceAddress) (S : Sane L) where
  released : granted (releases d) (said L (releases d)) ≡ true → in_session (tables (left L (releases d)) Sessions) d ≡ false
  unfolding granted said left release settled
  released g = by (hosted-release L d S) g
    where
      by : {o : Outcome} → Hosted L (releasing (tables L) d) (entries (releases d)) o → eqb (number_of o) 0 ≡ true
          → in_session (tables (cond (eqb (number_of o) 0) (changed (releasing (tables L) d) L) L) Sessions) d ≡ false
      by (granting k w) g = rw (table-changed L (releasing (tables L) d) k S Sessions) (release-ends (tables L) d (tables L Sessions))
      by (refusing n) g = absurd (false≢true (sym n ∙ g))

-- every call closes as it should
pub closes : (L : Lent) (c : Call) → octets_only c ≡ true → Sane L → Closes L c
closes L c o S =
    let s = step L c o S in
    record {
      closed = λ n. by_binds L c S s (all_closed L c S s) (λ e. absurd (n (binds-kept L c S s e)));
      spared = λ e d n.
          ap (λ (t : List Rec). in_session t d) (sessions-left L c S s)
          ∙ others d (tables L Sessions) (s.shuts.own (by_binds L c S s (λ a. absurd (binds-changed L c S s a e)) (λ a. a)))
          (s.ok.order Sessions).room n;
      released = λ d e g. rw e (released L d S (rw e at g));
    }

-- A run

-- a session that is open after these later calls, none of which started it anew, has the binds that were there before them
pub same-binds : (L : Lent) → free_tables L ≡ true → (later cs : List Call) (d : DeviceAddress) → all octets_only (later ++ cs) ≡ true → NoStart d later
    → in_session (tables (after L (later ++ cs)) Sessions) d ≡ true → (after L (later ++ cs)).binds ≡ (after L cs).binds
unfolding after all
same-binds L f [] cs d o n h = refl
same-binds L f (c ∷ later) cs d o n h =
    let a = and_parts (octets_only c) (all octets_only (later ++ cs)) o in
    let M : Lent = after L (later ++ cs) in
    let S = (held_run L f (later ++ cs) a.1).sane in
    let w = own_session M c S (step M c a.0 S) d (λ t e. n.0 (starting c d t e)) h in
    w.0 ∙ same-binds L f later cs d a.1 n.1 w.1
  where
    starting : (c : Call) (d : DeviceAddress) → Starting (device_of c) c → (device_of c).0 ≡ d.0 → Starting d c
    starting (sends m r l) d t e = (t.0, e)
    starting (admits x rights us) d t e = absurd t
    starting (releases x) d t e = absurd t
