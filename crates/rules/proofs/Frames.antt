-- Laws of the frame of all tables: what holds of each kind is said once. Which tables there are is used in this file alone.
use mathlib.Core.Path.{fun_ext}
use Rattle.words.specs.Basics.{◌≡◌, refl, sym, ap, ◌∙◌, Bool, true, false, cond, List, ℕ, ◌<◌, ◌≤◌, arith, eqb, leb, length, get_or, eqb-true, leb-true}
use Rattle.rules.specs.Types.{Kind, Devices, Binds, Groups, Members, Sessions}
use Rattle.rules.specs.Lists.{all, ◌&◌}
use Rattle.rules.specs.Tables.{Change, none, written}
use Rattle.rules.specs.Layout.{size, key, full}
use Rattle.rules.specs.Frame.{Lent, lent_by, lent_of, each, kinds, every_table, place, also, Effect, nothing, only, changed}
use Rattle.rules.proofs.Lists.{split, all-at, all_of}

-- every kind stands in the list of kinds, at its place
abbrev kind_at : ℕ → Kind
kind_at n = get_or kinds n Devices

listed : (k : Kind) → (place k < length kinds) × (kind_at (place k) ≡ k)
listed Devices = (omega arith, refl)
listed Binds = (omega arith, refl)
listed Groups = (omega arith, refl)
listed Members = (omega arith, refl)
listed Sessions = (omega arith, refl)

same_kind : (j k : Kind) → eqb (place j) (place k) ≡ true → j ≡ k
same_kind j k e = sym (listed j).1 ∙ ap kind_at (eqb-true (place j) (place k) e) ∙ (listed k).1

-- what holds of every table holds of each, and back
pub every_at : (p : Kind → Bool) → every_table p ≡ true → (k : Kind) → p k ≡ true
unfolding every_table
every_at p h k = let l = listed k in rw (sym l.1) (all-at p kinds (place k) Devices l.0 h)

pub every_of : (p : Kind → Bool) → ((k : Kind) → p k ≡ true) → every_table p ≡ true
unfolding every_table
every_of p h = all_of p h kinds

-- of every table: a record has octets, a full table 2,304 at most, and a record its key
pub shapes : (k : Kind) → (0 < size k) × (full k ≤ 2304) × (key k ≤ size k)
unfolding every_table all ◌&◌
shapes k =
    let h = every_at (λ k. leb 1 (size k) & leb (full k) 2304 & leb (key k) (size k)) refl k in
    let a = split h in
    let b = split a.0 in
    (leb-true 1 (size k) b.0, leb-true (full k) 2304 b.1, leb-true (key k) (size k) a.1)

-- one table of a frame by kind
pub lent_by_lem : (t : Kind → List ℕ) (k : Kind) → lent_of k (lent_by t) ≡ t k
lent_by_lem t Devices = refl
lent_by_lem t Binds = refl
lent_by_lem t Groups = refl
lent_by_lem t Members = refl
lent_by_lem t Sessions = refl

-- what holds of a and b for the table k, and of x and y for every table, holds of a beside x and b beside y
pub also-both : {A B : Type 0} (P : Kind → A → B → Type 0) (k : Kind) (a : A) (b : B) (x : Kind → A) (y : Kind → B)
    → P k a b → ((j : Kind) → P j (x j) (y j)) → (j : Kind) → P j (also k a x j) (also k b y j)
unfolding also
also-both P k a b x y h g j = step (eqb (place j) (place k)) refl
  where
    step : (w : Bool) → eqb (place j) (place k) ≡ w → P j (cond w a (x j)) (cond w b (y j))
    step true e = let z : j ≡ k = same_kind j k e in rw z h
    step false e = g j

pub also-all : {A : Type 0} (P : Kind → A → Type 0) (k : Kind) (a : A) (x : Kind → A)
    → P k a → ((j : Kind) → P j (x j)) → (j : Kind) → P j (also k a x j)
also-all P k a x h g = also-both (λ j c d. P j c) k a a x x h g

-- Effects

-- nothing changes no octet
pub changed-nothing : (L : Lent) → changed nothing L ≡ L
unfolding changed nothing written
changed-nothing L = refl

pub lent-changed : (x : Effect) (L : Lent) (k : Kind) → lent_of k (changed x L) ≡ written (size k) (x k) (lent_of k L)
unfolding changed
lent-changed x L k = lent_by_lem (λ j. written (size j) (x j) (lent_of j L)) k

-- the frame with another table k
unfoldable pub replaced : Kind → List ℕ → Lent → Lent
replaced k t L = each (λ j s. also k t (λ i. lent_of i L) j) L

-- two ways to make each table anew that agree make one frame
each_same : (f g : Kind → List ℕ → List ℕ) (L : Lent) → ((k : Kind) → f k (lent_of k L) ≡ g k (lent_of k L)) → each f L ≡ each g L
each_same f g L e = ap lent_by (fun_ext e)

-- an effect on one table leaves the others
pub changed-only : (k : Kind) (c : Change) (L : Lent) → changed (only k c) L ≡ replaced k (written (size k) c (lent_of k L)) L
unfolding changed replaced nothing written
changed-only k c L =
    each_same (λ j. written (size j) (only k c j)) (λ j s. also k (written (size k) c (lent_of k L)) (λ i. lent_of i L) j) L
    (also-both (λ j x t. written (size j) x (lent_of j L) ≡ t) k c (written (size k) c (lent_of k L)) nothing (λ i. lent_of i L) refl (λ j. stays j))
  where
    stays : (j : Kind) → written (size j) none (lent_of j L) ≡ lent_of j L
    stays j = refl

-- the frame with the table that it has
pub replaced-same : (k : Kind) (L : Lent) → replaced k (lent_of k L) L ≡ L
unfolding replaced
replaced-same k L =
    each_same (λ j s. also k (lent_of k L) (λ i. lent_of i L) j) (λ j s. s) L
    (also-all (λ j t. t ≡ lent_of j L) k (lent_of k L) (λ i. lent_of i L) refl (λ j. refl))
