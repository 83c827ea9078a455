-- Over any run from free tables, the tables stay sound and of their lengths, and each holds the records that stand by history.
use native.Mathlib.Nat.{div-add-mod'}
use Rattle.words.specs.Basics.{◌≡◌, refl, ◌∙◌, true, false, cond, List, [], ◌∷◌, ℕ, zero, suc, ◌*◌, ◌/◌, arith, eqb, leb, length, take, drop, length-drop}
use Rattle.words.specs.Basics.{take-append-drop, eqb-true, le-leb}
use Rattle.rules.specs.Types.{Kind, Devices, Binds, Groups, Members}
use Rattle.rules.specs.Lists.{all}
use Rattle.rules.specs.Octets.{octet_string}
use Rattle.rules.specs.Tables.{Rec, cut, records, is_free}
use Rattle.rules.specs.Layout.{size, key}
use Rattle.rules.specs.Frame.{Lent, lent_of, tables, changed}
use Rattle.rules.specs.Sound.{sound_table, distinct, sound}
use Rattle.rules.specs.Calls.{roomy}
use Rattle.rules.specs.History.{Call, left, said, after, Event, history, octets_only, granted, has_page, silence, entries, stand}
use Rattle.rules.specs.History.{standing, free_table, free_tables}
use Rattle.rules.proofs.Lists.{and_parts, split, join, all_weaken, all_append}
use Rattle.rules.proofs.Frames.{every_at}
use Rattle.rules.proofs.Changes.{shaped-records}
use Rattle.rules.proofs.Kept.{sound_of, whole_length, Sane, table-changed, length-changed, sane_changed}
use Rattle.rules.proofs.Standing.{Agree, agree_change, agree_free, free-used}
use Rattle.rules.proofs.Steps.{entered, Step, step}

-- Soundness is kept by every call

pub sane_left : (L : Lent) (c : Call) → octets_only c ≡ true → Sane L → Sane (left L c)
sane_left L c o S = let s = step L c o S in rw s.leaves (sane_changed L s.change s.ok S)

-- outcome 16 never occurs to who starts sound and lends nothing but octets
pub sound-left : (L : Lent) (c : Call) → octets_only c ≡ true → ((k : Kind) → octet_string (lent_of k L) ≡ true) → sound L ≡ true → sound (left L c) ≡ true
sound-left L c o b h = (sane_left L c o (record { sound = h; octets = b })).sound

-- What a run keeps: start, tables and history

pub record Held (L₀ L : Lent) (h : List Event) : Type 0 where
  pub sane : Sane L
  pub lengths : (k : Kind) → length (lent_of k L) ≡ length (lent_of k L₀)
  pub pages : (k : Kind) → has_page k ≡ true → Agree (tables L k) (standing k h)

-- room is a matter of lengths, and these stay
pub same-room : {L₀ L : Lent} {h : List Event} → Held L₀ L h → (r l : List ℕ) → roomy L.binds L.members r l ≡ roomy L₀.binds L₀.members r l
unfolding roomy
same-room k r l = rw (k.lengths Binds, k.lengths Members)

-- one more event is one more entry
standing-event : (k : Kind) (e : Event) (h : List Event)
    → standing k (e ∷ h) ≡ stand (entered (granted e.call e.told) (entries e.call) k) (standing k h)
unfolding standing entered stand silence
standing-event k e h =
    elim (granted e.call e.told)
    as (λ b. cond b (stand (entries e.call k) (standing k h)) (standing k h) ≡ stand (cond b (entries e.call) silence k) (standing k h))
    [ true ↦ refl | false ↦ refl ]

held_step : (L₀ L : Lent) (c : Call) (h : List Event) → octets_only c ≡ true → Held L₀ L h → Held L₀ (left L c) (record { call = c; told = said L c } ∷ h)
held_step L₀ L c h o k = go (step L c o k.sane)
  where
    S : Sane L
    S = k.sane

    agree : (s : Step L c) (i : Kind) → has_page i ≡ true → Agree (tables (changed s.change L) i) (standing i (record { call = c; told = said L c } ∷ h))
    agree s i p =
        rw (table-changed L s.change s.ok S i, standing-event i (record { call = c; told = said L c }) h)
        (agree_change (size i) (tables L i) (standing i h) (s.told.page i p) (s.ok.order i).room
        (shaped-records (size i) (lent_of i L) (S.octets i)) (k.pages i p))

    go : Step L c → Held L₀ (left L c) (record { call = c; told = said L c } ∷ h)
    go s = rw s.leaves (record {
      sane = sane_changed L s.change s.ok S;
      lengths = λ i. length-changed L s.change s.ok S i ∙ k.lengths i;
      pages = agree s;
    })

-- Free tables are sound, and made of octets

pub free-at : (L : Lent) → free_tables L ≡ true → (k : Kind) → free_table k (lent_of k L) ≡ true
unfolding free_tables
free-at L h k = every_at (λ k. free_table k (lent_of k L)) h k

free-records : (k : Kind) (t : List ℕ) → free_table k t ≡ true → all is_free (records (size k) t) ≡ true
unfolding free_table
free-records k t h = (split h).1

free-record : (r : Rec) → is_free r ≡ true → octet_string r ≡ true
unfolding is_free octet_string
free-record r h = all_weaken (λ o. eqb o 255) (λ o. leb o 255) (λ o e. le-leb o 255 (omega (arith, eqb-true o 255 e))) r h

free-cut : (n k : ℕ) (t : List ℕ) → length t ≡ n * k → all is_free (cut n k t) ≡ true → octet_string t ≡ true
unfolding all octet_string
free-cut zero k [] e h = refl
free-cut zero k (o ∷ t) e h = absurd (omega arith)
free-cut (suc n) k t e h =
    let a = and_parts (is_free (take k t)) (all is_free (cut n k (drop k t))) h in
    rw (take-append-drop k t) at (all_append (λ o. leb o 255) (take k t) (drop k t) (free-record (take k t) a.0)
    (free-cut n k (drop k t) (rw length-drop (omega arith)) a.1))

free-octets : (k : Kind) (t : List ℕ) → free_table k t ≡ true → octet_string t ≡ true
unfolding free_table records
free-octets k t h =
    let a = split h in
    let e : length t ≡ length t / size k * size k = omega (arith, whole_length k t a.0, div-add-mod' (length t) (size k)) in
    free-cut (length t / size k) (size k) t e a.1

free-distinct : (n : ℕ) (t : List Rec) → all is_free t ≡ true → distinct n t ≡ true
unfolding distinct all
free-distinct n [] h = refl
free-distinct n (r ∷ t) h = let a = and_parts (is_free r) (all is_free t) h in rw (a.0) (free-distinct n t a.1)

free-sound : (k : Kind) (ds gs : List Rec) (t : List ℕ) → free_table k t ≡ true → sound_table k ds gs t ≡ true
unfolding free_table sound_table all
free-sound k ds gs t h = let a = split h in join (join a.0 (rw (free-used (records (size k) t) a.1))) (free-distinct (key k) (records (size k) t) a.1)

sane_start : (L : Lent) → free_tables L ≡ true → Sane L
sane_start L h = record {
  sound = sound_of L (λ k. free-sound k (tables L Devices) (tables L Groups) (lent_of k L) (free-at L h k));
  octets = λ k. free-octets k (lent_of k L) (free-at L h k);
}

held_start : (L : Lent) → free_tables L ≡ true → Held L L []
unfolding standing
held_start L h = record {
  sane = sane_start L h;
  lengths = λ k. refl;
  pages = λ k p. agree_free _ (free-records k _ (free-at L h k));
}

pub held_run : (L : Lent) → free_tables L ≡ true → (cs : List Call) → all octets_only cs ≡ true → Held L (after L cs) (history L cs)
unfolding after history all
held_run L f [] o = held_start L f
held_run L f (c ∷ cs) o = let a = and_parts (octets_only c) (all octets_only cs) o in held_step L (after L cs) c (history L cs) a.0 (held_run L f cs a.1)
