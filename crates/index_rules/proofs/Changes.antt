-- What a change of the bind table leaves of its records: an addition takes the first free position, a removal frees, and nothing else moves.
use Rattle.words.specs.Basics.{◌≡◌, refl, sym, ap, ◌∙◌, Bool, true, false, false≢true, cond, not, List, [], ◌∷◌, ℕ, zero, suc, ◌<◌, ◌≤◌, arith}
use Rattle.words.specs.Basics.{eqb, length, get_or, ltb-true, eqb-true, not-true}
use Rattle.words.specs.Names.{code, ok}
use Rattle.rules.specs.Types.{DeviceAddress, Command, AddBind, RemoveBinds, StartSession, EndSession, GetEntries, CreateGroup, DeleteGroup}
use Rattle.rules.specs.Types.{AddToGroup, RemoveFromGroup, GetGroupInfo, Binds, Sessions}
use Rattle.rules.specs.Tables.{Rec, records, is_free, blank, put, clear, Change, none, store, wipe, change, written}
use Rattle.rules.specs.Octets.{ignore_top}
use Rattle.rules.specs.Layout.{size, full, session_record}
use Rattle.rules.specs.Frame.{Lent, Tables, tables, also, Effect, nothing, only, changed}
use Rattle.rules.specs.Payloads.{bind_of}
use Rattle.rules.specs.Sessions.{in_session, alters, closing}
use Rattle.rules.specs.Commands.{row, judge, on_ok, done}
use Rattle.rules.specs.Host.{taking, releasing}
use Rattle.rules.proofs.Lists.{split}
use Rattle.rules.proofs.Records.{length-records, each-records, each-put, each-clear, records-bytes}
use Rattle.rules.proofs.Frames.{lent-changed}
use Rattle.rules.proofs.Judged.{passed}
use Rattle.rules.proofs.Changes.{free-blank, length-change}
use Rattle.index_rules.specs.Index.{entry, entry_used}
use Rattle.index_rules.specs.Walks.{first_free, Kept, Stale}
use Rattle.index_rules.specs.Calls.{index_of}

-- Each kind of change

free-there : (bs : List Rec) → first_free bs < length bs → is_free (get_or bs (first_free bs) []) ≡ true
unfolding first_free
free-there [] l = absurd (omega arith)
free-there (b ∷ bs) l = step (is_free b) refl l (λ m. free-there bs m)
  where
    step : (a : Bool) → is_free b ≡ a → cond a 0 (suc (first_free bs)) < suc (length bs)
        → (first_free bs < length bs → is_free (get_or bs (first_free bs) []) ≡ true) → is_free (get_or (b ∷ bs) (cond a 0 (suc (first_free bs))) []) ≡ true
    step true e l ih = e
    step false e l ih = ih (omega arith)

first_unused : (bs : List Rec) → entry_used bs (first_free bs) ≡ false
unfolding entry_used entry
first_unused bs = step (entry_used bs (first_free bs)) refl
  where
    step : (b : Bool) → entry_used bs (first_free bs) ≡ b → b ≡ false
    step true e =
        let a = split e in
        let n : not (is_free (get_or bs (first_free bs) [])) ≡ true = a.1 in
        absurd (false≢true (rw (free-there bs (ltb-true (first_free bs) (length bs) a.0)) at n))
    step false e = refl

put-others : (r : Rec) (bs : List Rec) (j : ℕ) → (j ≡ first_free bs → ⊥) → get_or (put r bs) j [] ≡ get_or bs j []
unfolding put first_free
put-others r [] j n = refl
put-others r (b ∷ bs) j n = step (is_free b) j n (λ i m. put-others r bs i m)
  where
    step : (a : Bool) (j : ℕ) → (j ≡ cond a 0 (suc (first_free bs)) → ⊥) → ((i : ℕ) → (i ≡ first_free bs → ⊥) → get_or (put r bs) i [] ≡ get_or bs i [])
        → get_or (cond a (r ∷ bs) (b ∷ put r bs)) j [] ≡ get_or (b ∷ bs) j []
    step true zero n ih = absurd (n refl)
    step true (suc j) n ih = refl
    step false zero n ih = refl
    step false (suc j) n ih = ih j (λ e. n (ap suc e))

clear-others : (q : Rec → Bool) (bs : List Rec) (j : ℕ) → is_free (get_or (clear q bs) j []) ≡ false → get_or (clear q bs) j [] ≡ get_or bs j []
unfolding clear
clear-others q [] j h = refl
clear-others q (b ∷ bs) zero h = step (q b) h
  where
    step : (a : Bool) → is_free (cond a (blank b) b) ≡ false → cond a (blank b) b ≡ b
    step true h = absurd (false≢true (sym h ∙ free-blank b))
    step false h = refl
clear-others q (b ∷ bs) (suc j) h = clear-others q bs j h

pub kept-change : (c : Change) (bs : List Rec) → Kept (first_free bs) bs (change c bs)
unfolding change entry entry_used
kept-change c bs = record { long = length-change c bs; was_free = first_unused bs; others = by c }
  where
    by : (c : Change) (j : ℕ) → (j ≡ first_free bs → ⊥) → entry_used (change c bs) j ≡ true → get_or (change c bs) j [] ≡ get_or bs j []
    by none j n h = refl
    by (store r) j n h = put-others r bs j n
    by (wipe q) j n h = clear-others q bs j (not-true (is_free (get_or (clear q bs) j [])) (split h).1)

-- The same on octets, where what is stored has a record's length

unfoldable pub Sized : ℕ → Change → Type 0
Sized k none = Unit {0}
Sized k (store r) = length r ≡ k
Sized k (wipe q) = Unit {0}

records_sized : (k : ℕ) (c : Change) (t : List ℕ) → 0 < k → Sized k c → records k (written k c t) ≡ change c (records k t)
unfolding written change Sized
records_sized k none t h s = refl
records_sized k (store r) t h s = records-bytes k _ h (each-put k r (records k t) s (each-records k t))
records_sized k (wipe q) t h s = records-bytes k _ h (each-clear k q (records k t) (each-records k t))

pub kept-written : (k : ℕ) (c : Change) (t : List ℕ) → 0 < k → Sized k c → Kept (first_free (records k t)) (records k t) (records k (written k c t))
kept-written k c t h s = rw (records_sized k c t h s) (kept-change c (records k t))

-- What a command does to the binds

-- closing the sessions leaves them
closing-binds : (T : Tables) (x : Effect) → closing T x Binds ≡ x Binds
unfolding closing also
closing-binds T x = elim (alters (x Binds) (T Binds)) as (λ b. cond b (also Sessions (wipe (λ r. true)) x) x Binds ≡ x Binds) [ true ↦ refl | false ↦ refl ]

length_ignored : (p : List ℕ) → length (ignore_top p) ≡ length p
unfolding ignore_top
length_ignored [] = refl
length_ignored (o ∷ p) = refl

-- a command whose payload has its length stores a whole record, if any
effect_sized : (T : Tables) (s : DeviceAddress) (k : Command) (p : List ℕ) → length p ≡ (row k).length p → Sized (size Binds) ((row k).effect T s p Binds)
unfolding also nothing Sized bind_of
effect_sized T s AddBind p h = length_ignored p ∙ h
effect_sized T s (RemoveBinds q) p h = tt
effect_sized T s StartSession p h =
    elim (in_session (T Sessions) s) as (λ b. Sized (size Binds) (cond b nothing (only Sessions (store (session_record s))) Binds))
    [ true ↦ tt | false ↦ tt ]
effect_sized T s EndSession p h = tt
effect_sized T s (GetEntries f) p h = tt
effect_sized T s CreateGroup p h = tt
effect_sized T s DeleteGroup p h = tt
effect_sized T s AddToGroup p h = tt
effect_sized T s RemoveFromGroup p h = tt
effect_sized T s GetGroupInfo p h = tt

pub done_sized : (T : Tables) (s : DeviceAddress) (k : Command) (p : List ℕ) → Sized (size Binds) (done T s k p (judge T s k p) Binds)
unfolding done on_ok nothing Sized
done_sized T s k p = step (eqb (judge T s k p).0 ok.0) refl
  where
    step : (b : Bool) → eqb (judge T s k p).0 ok.0 ≡ b → Sized (size Binds) (cond b (closing T ((row k).effect T s p)) nothing Binds)
    step true e =
        let j : judge T s k p ≡ ok = ap code (eqb-true (judge T s k p).0 ok.0 e) in
        rw (closing-binds T ((row k).effect T s p)) (effect_sized T s k p (passed T s k p j).length)
    step false e = tt

-- so does a release, and a call that changes nothing

pub taken_sized : (T : Tables) (d : DeviceAddress) → Sized (size Binds) (releasing T d Binds)
unfolding releasing taking also nothing Sized
taken_sized T d = rw (closing-binds T (taking d)) tt

pub untouched : Sized (size Binds) (nothing Binds)
unfolding nothing Sized
untouched = tt

-- so of the tables that a call changed
kept-changed : (x : Effect) (L : Lent) → Sized (size Binds) (x Binds) → Kept (first_free (tables L Binds)) (tables L Binds) (tables (changed x L) Binds)
kept-changed x L s = rw (lent-changed x L Binds) (kept-written (size Binds) (x Binds) L.binds (omega arith) s)

-- an index that was right before the call is right but for that change
pub stale_changed : (x : Effect) (L : Lent) {p : ℕ} {ix : List ℕ} {bs : List Rec} → Sized (size Binds) (x Binds) → length L.binds ≤ full Binds
    → p ≡ first_free (tables L Binds) → ix ≡ index_of L → bs ≡ tables (changed x L) Binds → Stale p bs ix
stale_changed x L s h p i e =
    let K = kept-changed x L s in
    let n = length-records (size Binds) L.binds in
    rw (p, e) (record { few = omega (arith, K.long); before = tables L Binds; right = i; kept = K })
