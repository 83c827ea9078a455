-- Laws of a command's own part: what a handler's answer makes of the tables and the reply.
use Rattle.words.specs.Basics.{◌≡◌, refl, sym, ap, ◌∙◌, Bool, true, false, cond, List, [], ◌∷◌, ℕ, eqb, length, rules}
use Rattle.words.specs.Names.{ok}
use Rattle.rules.specs.Types.{DeviceAddress, Code, Command, StartSession, GetEntries, Filter, CreateGroup, DeleteGroup, GetGroupInfo, Kind, Binds}
use Rattle.rules.specs.Types.{Groups, Members, Sessions}
use Rattle.rules.specs.Octets.{over}
use Rattle.rules.specs.Tables.{Change, written}
use Rattle.rules.specs.Layout.{size}
use Rattle.rules.specs.Frame.{Lent, lent_of, tables, also, Effect, nothing, only, changed}
use Rattle.rules.specs.Payloads.{group_named}
use Rattle.rules.specs.Sessions.{in_session}
use Rattle.rules.specs.Commands.{row, on_ok, reply_payload}
use Rattle.rules.proofs.Frames.{changed-nothing, replaced, changed-only, replaced-same}
use Rattle.changing.specs.Changing.{Coded, coded, coding}
use Rattle.creating.specs.Creating.{Made, made, making}
use Rattle.group_commands.specs.Grouping.{Deleted, deleted, deleting}
use Rattle.group_info.specs.Informing.{informing}
use Rattle.sessions.specs.Reading.{opened, Started, started, starting, reading}
use Rattle.acting.specs.Acting.{performed, performing, acting}
use Rattle.acting.proofs.Sizes.{asked-length, whole-binds, whole-groups, whole-members, whole-sessions, within-binds, within-groups, within-members}
use Rattle.acting.proofs.Sizes.{named-groups, some-room}

-- A code, and what it leaves

-- an effect by the code
changed_by : (L : Lent) (c : Code) (x : Effect) → changed (on_ok c x nothing) L ≡ on_ok c (changed x L) L
unfolding on_ok
changed_by L c x = step (eqb c.0 ok.0)
  where
    step : (b : Bool) → changed (cond b x nothing) L ≡ cond b (changed x L) L
    step true = refl
    step false = changed-nothing L

-- A handler's answer

-- nothing behind 0x00
code_alone : (c : Code) → on_ok {A = List ℕ} c [] [] ≡ []
unfolding on_ok
code_alone c = step (eqb c.0 ok.0)
  where
    step : (b : Bool) → cond {A = List ℕ} b [] [] ≡ []
    step true = refl
    step false = refl

-- a change of one table, by the code
replaced-done : (i : Kind) (L : Lent) (c : Code) (x : Change)
    → on_ok c (changed (only i x) L) L ≡ replaced i (on_ok c (written (size i) x (lent_of i L)) (lent_of i L)) L
unfolding on_ok
replaced-done i L c x = step (eqb c.0 ok.0)
  where
    step : (b : Bool) → cond b (changed (only i x) L) L ≡ replaced i (cond b (written (size i) x (lent_of i L)) (lent_of i L)) L
    step true = changed-only i x L
    step false = sym (replaced-same i L)

-- the arm of k in a handler with the table i, of which 0x00 is the whole reply
abbrev pub ActsOn : Kind → Type 0
ActsOn i = (L M : Lent) (s : DeviceAddress) (j k : Command) (p out out' t : List ℕ) (n : ℕ) (c : Code) (x : Change) → j ≡ k → out' ≡ over (c.0 ∷ []) out
    → n ≡ 1 → coded c t ≡ coding (size i) ((row k).verdict (tables L) s p) x (lent_of i L) → M ≡ replaced i t L → (row k).effect (tables L) s p ≡ only i x
    → (row k).behind (tables L) p ≡ [] → performed n M out' ≡ acting L s j p out

acts_on : (i : Kind) → ActsOn i
unfolding performing reply_payload coding
acts_on i L M s j k p out out' t n c x a o b d m e g =
    let v : Code = (row k).verdict (tables L) s p in
    let ec : c ≡ v = ap (λ (y : Coded). y.code) d in
    let et : t ≡ on_ok v (written (size i) x (lent_of i L)) (lent_of i L) = ap (λ (y : Coded). y.table) d in
    rw (o, b, m, a, changed_by L v ((row k).effect (tables L) s p), e, replaced-done i L v x, g, code_alone v, ec, et)

-- the arm of k in a handler that changes nothing and answers 0x00, which is the whole reply
pub acts_nothing : (L : Lent) (s : DeviceAddress) (j k : Command) (p out out' : List ℕ) (n : ℕ) (c : Code) → j ≡ k → out' ≡ over (c.0 ∷ []) out → n ≡ 1
    → c ≡ ok → (row k).verdict (tables L) s p ≡ ok → (row k).effect (tables L) s p ≡ nothing → (row k).behind (tables L) p ≡ []
    → performed n L out' ≡ acting L s j p out
unfolding performing reply_payload on_ok
acts_nothing L s j k p out out' n c a o b d v e g = rw (o, b, d, a, v, e, changed-nothing L, g)

module _ (L : Lent) (s : DeviceAddress) (p out : List ℕ) where
  pub acts_create_group : (M : Lent) (j : Command) (n : ℕ) (gs out' : List ℕ) → j ≡ CreateGroup → made n gs out' ≡ making L.groups p out
      → M ≡ replaced Groups gs L → performed n M out' ≡ acting L s j p out
  unfolding performing reply_payload making
  acts_create_group M j n gs out' a d m =
      let v : Code = (row CreateGroup).verdict (tables L) s p in
      rw (
        m,
        a,
        changed_by L v ((row CreateGroup).effect (tables L) s p),
        replaced-done Groups L v _,
        ap (λ (y : Made). y.length) d,
        ap (λ (y : Made). y.groups) d,
        ap (λ (y : Made). y.out) d,
      )

  -- Start leaves who has a session with it
  opened-done : (c : Code) (b : Bool) (x : Change) → on_ok c (changed (cond b nothing (only Sessions x)) L) L
      ≡ replaced Sessions (on_ok c (cond b L.sessions (written (size Sessions) x L.sessions)) L.sessions) L
  unfolding on_ok
  opened-done c true x =
      elim (eqb c.0 ok.0) as (λ w. cond w (changed nothing L) L ≡ replaced Sessions (cond w L.sessions L.sessions) L)
      [ true ↦ changed-nothing L ∙ sym (replaced-same Sessions L) | false ↦ sym (replaced-same Sessions L) ]
  opened-done c false x = replaced-done Sessions L c x

  pub acts_start_session : (M : Lent) (j : Command) (n : ℕ) (ss out' : List ℕ) → j ≡ StartSession
      → started n ss out' ≡ starting L.binds L.sessions s out → M ≡ replaced Sessions ss L → performed n M out' ≡ acting L s j p out
  unfolding performing reply_payload starting opened
  acts_start_session M j n ss out' a d m =
      let v : Code = (row StartSession).verdict (tables L) s p in
      rw (
        m,
        a,
        changed_by L v ((row StartSession).effect (tables L) s p),
        opened-done v (in_session (tables L Sessions) s) _,
        ap (λ (y : Started). y.length) d,
        ap (λ (y : Started). y.sessions) d,
        ap (λ (y : Started). y.out) d,
      )

  -- Delete Group changes three tables

  abbrev pub three : List ℕ → List ℕ → List ℕ → Lent
  three bs gs ms = replaced Binds bs (replaced Groups gs (replaced Members ms L))

  changed-three : (c : Code) (x y z : Change) → on_ok c (changed (also Groups y (also Members z (only Binds x))) L) L
      ≡ three (on_ok c (written (size Binds) x L.binds) L.binds) (on_ok c (written (size Groups) y L.groups) L.groups)
      (on_ok c (written (size Members) z L.members) L.members)
  unfolding on_ok changed also nothing written replaced
  changed-three c x y z = step (eqb c.0 ok.0)
    where
      step : (b : Bool) → cond b (changed (also Groups y (also Members z (only Binds x))) L) L
          ≡ three (cond b (written (size Binds) x L.binds) L.binds) (cond b (written (size Groups) y L.groups) L.groups)
          (cond b (written (size Members) z L.members) L.members)
      step true = refl
      step false = refl

  pub acts_delete_group : (M : Lent) (j : Command) (n : ℕ) (out' : List ℕ) (c : Code) (bs gs ms : List ℕ) → j ≡ DeleteGroup → out' ≡ over (c.0 ∷ []) out
      → n ≡ 1 → deleted c bs gs ms ≡ deleting (group_named p) L.binds L.groups L.members → M ≡ three bs gs ms
      → performed n M out' ≡ acting L s j p out
  unfolding performing reply_payload deleting
  acts_delete_group M j n out' c bs gs ms a o b d m =
      let v : Code = (row DeleteGroup).verdict (tables L) s p in
      rw (
        o,
        b,
        m,
        a,
        changed_by L v ((row DeleteGroup).effect (tables L) s p),
        changed-three v _ _ _,
        code_alone v,
        ap (λ (y : Deleted). y.code) d,
        ap (λ (y : Deleted). y.binds) d,
        ap (λ (y : Deleted). y.groups) d,
        ap (λ (y : Deleted). y.members) d,
      )

  -- a command that looks, and changes no table
  looks : (k : Command) (c : Code) → (row k).effect (tables L) s p ≡ nothing → changed (on_ok c ((row k).effect (tables L) s p) nothing) L ≡ L
  unfolding on_ok
  looks k c e = rw e (elim (eqb c.0 ok.0) as (λ b. changed (cond b nothing nothing) L ≡ L) [ true ↦ changed-nothing L | false ↦ changed-nothing L ])

  pub acts_get_group_info : (j : Command) (n : ℕ) (out' : List ℕ) → j ≡ GetGroupInfo
      → n ≡ length (informing (tables L Groups) (tables L Members) (group_named p))
      → out' ≡ over (informing (tables L Groups) (tables L Members) (group_named p)) out → performed n L out' ≡ acting L s j p out
  unfolding performing reply_payload informing
  acts_get_group_info j n out' a b o = rw (b, o, a, looks GetGroupInfo ((row GetGroupInfo).verdict (tables L) s p) refl)

  pub acts_get-entries : (f : Filter) (j : Command) (n : ℕ) (out' : List ℕ) → j ≡ GetEntries f
      → n ≡ length (reading (tables L Binds) (tables L Sessions) s f p) → out' ≡ over (reading (tables L Binds) (tables L Sessions) s f p) out
      → performed n L out' ≡ acting L s j p out
  unfolding performing reply_payload reading
  acts_get-entries f j n out' a b o = rw (b, o, a, looks (GetEntries f) ((row (GetEntries f)).verdict (tables L) s p) refl)

-- An arm of `act`: what its handler asks, and what its answer is

pub acts_on_binds : ActsOn Binds
acts_on_binds = acts_on Binds

pub acts_on_members : ActsOn Members
acts_on_members = acts_on Members

pub acts_on_sessions : ActsOn Sessions
acts_on_sessions = acts_on Sessions

pub ruleset arms = (
  rules,
  some-room,
  asked-length,
  whole-binds,
  whole-groups,
  whole-members,
  whole-sessions,
  within-binds,
  within-groups,
  within-members,
  named-groups,
  acts_on_binds,
  acts_on_members,
  acts_on_sessions,
  acts_nothing,
  acts_start_session,
  acts_get-entries,
  acts_create_group,
  acts_delete_group,
  acts_get_group_info,
)
