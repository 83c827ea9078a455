-- Ways over the records of a table: a loop `for record in table.chunks_exact(size)`, a chain on these chunks, and a loop over the places.
use native.Mathlib.Nat.{div-add-mod', div-mul-le_self, mod-lt, mod-eq_of_lt}
use denote.Ref.{Bor}
use lib.Seq.{take_at}
use Rattle.std.specs.Iterator.{AlwaysYields}
use Rattle.std.specs.Slice.Iter.{chunks_exact_rest, chunks_exact_size, chunks_exact_steps}
use Rattle.std.specs.declared.slice.ChunksExact.{ChunksExact}
use Rattle.std.proofs.lemmas.Iterator.{YieldsList}
use Rattle.words.specs.Basics.{◌≡◌, refl, sym, ap, ◌∙◌, Bool, true, false, cond, List, [], ◌∷◌, ◌++◌, ℕ, zero, suc, ◌+◌, ◌-◌, ◌*◌, ◌/◌, ◌%◌, ◌<◌, ◌≤◌}
use Rattle.words.specs.Basics.{arith, leb, leb-true, leb-false, length, take, drop, replicate, length-append, length-drop, length-replicate, drop_at, sets}
use Rattle.rules.specs.Octets.{starts}
use Rattle.rules.specs.Tables.{Rec, cut, records, matches, clear}
use Rattle.rules.proofs.Records.{records-cons, records-nil, matches-at, length-record, Changing, changing_hit, changing_miss, clear_hit, clear_miss}

-- A loop `for record in table.chunks_exact(size)`: what F says of the records that are left is what was to be said of all. F may change from one turn to
-- the next, as a sum grows or a place moves on.

-- of chunks of n octets the octets t are left
pub record Rest {A : Type 0} (F : List Rec → A) (k : ℕ) (all : A) (n : ℕ) (t : List ℕ) : Type 0 where
  pub some : 0 < k
  pub size : n ≡ k
  pub rest : F (records k t) ≡ all

-- .. as an iterator has them
abbrev pub Left : {A : Type 0} → (List Rec → A) → ℕ → A → ChunksExact ℕ → Type 0
Left F k all s = Rest F k all (chunks_exact_size s) (chunks_exact_rest s)

-- a turn, as std tells it: the record r comes
abbrev pub Comes : ℕ → List ℕ → Rec → ℕ → List ℕ → List ℕ → List ℕ → Type 0
Comes n t r n' t' m m' = (n' ≡ n) × ((t ≡ r ++ t') × (length r ≡ n)) × (m' ≡ m)

-- it is the first of those that were left
pub records_come : (k : ℕ) (r t : List ℕ) → 0 < k → length r ≡ k → records k (r ++ t) ≡ r ∷ records k t
records_come k r t h l = rw (records-cons k (r ++ t) h (rw length-append (omega arith)), take_at r t k l, drop_at r t k l)

module _ {A : Type 0} {F : List Rec → A} {k : ℕ} {all : A} {n : ℕ} {t : List ℕ} where
  come : (r t' : List ℕ) → Rest F k all n t → t ≡ r ++ t' → length r ≡ n → F (r ∷ records k t') ≡ all
  come r t' w e l = sym (ap F (rw e (records_come k r t' w.some (l ∙ w.size)))) ∙ w.rest

  -- the record that came makes no difference, but that of it F may become G
  pub left_more : {G : List Rec → A} {n' : ℕ} {t' m m' : List ℕ} (r : List ℕ) → Rest F k all n t → Comes n t r n' t' m m'
      → F (r ∷ records k t') ≡ G (records k t') → Rest G k all n' t'
  left_more {G} {n'} {t'} r w c e = record { some = w.some; size = c.0 ∙ w.size; rest = sym e ∙ come r t' w c.1.0 c.1.1 }

  -- the record that came decides
  pub left_hit : {v : A} {n' : ℕ} {m m' : List ℕ} (r t' : List ℕ) → Rest F k all n t → Comes n t r n' t' m m' → F (r ∷ records k t') ≡ v → v ≡ all
  left_hit r t' w c e = sym e ∙ come r t' w c.1.0 c.1.1

  -- none is left
  pub left_end : Rest F k all n t → length t < n → F [] ≡ all
  left_end w h = sym (ap F (records-nil k t (omega (arith, w.size)))) ∙ w.rest

-- A chain on `table.chunks_exact(size)` goes over the records: what it gives, std's lemmas that end in `from_yields_List` say.

each_comes : (k n : ℕ) (t : List ℕ) (s : ChunksExact ℕ) → 0 < k → chunks_exact_size s ≡ k → chunks_exact_rest s ≡ t → n * k ≤ length t → length t < n * k + k
    → AlwaysYields chunks_exact_steps (λ (r : Bor Rec). r.now) s (cut n k t)
each_comes k zero t s h e d l m = λ x j c. absurd (omega (arith, c.1.1, ap length c.1.0, ap length d, length-append x.now (chunks_exact_rest j)))
each_comes k (suc n) t s h e d l m = (
  (λ j c. absurd (omega (arith, c.1.0, ap length d))),
  λ x j c.
      let w : length x.now ≡ k = c.1.1 ∙ e in
      let u : t ≡ x.now ++ chunks_exact_rest j = sym d ∙ c.1.0 in
      let v : chunks_exact_rest j ≡ drop k t = rw (u, drop_at x.now (chunks_exact_rest j) k w) in
      let first : x.now ≡ take k t = rw (u, take_at x.now (chunks_exact_rest j) k w) in
      (first, each_comes k n (drop k t) j h (c.0 ∙ e) v (rw length-drop (omega arith)) (rw length-drop (omega arith))),
)

pub records-yielded : (k : ℕ) (t : List ℕ) {s : ChunksExact ℕ} → 0 < k → chunks_exact_rest s ≡ t → chunks_exact_size s ≡ k
    → YieldsList chunks_exact_steps (λ (r : Bor Rec). r.now) s (records k t)
unfolding records
records-yielded k t {s} h d e =
    record { runs = each_comes k (length t / k) t s h e d (div-mul-le_self (length t) k) (omega (arith, div-add-mod' (length t) k, mod-lt (length t) h)) }

-- A loop `for at in (0..table.len()).step_by(size)` that writes, at a table of whole records

-- there is room for the record at `at`
pub room : (n at k : ℕ) → at < n → (n - at) % k ≡ 0 → at + k ≤ n
room n at k h e = elim (leb k (n - at)) as (λ b. leb k (n - at) ≡ b → at + k ≤ n) [
  | true ↦ λ l. omega (arith, leb-true _ _ l)
  | false ↦ λ l. absurd (omega (arith, mod-eq_of_lt (leb-false _ _ l), e))
] refl

-- one turn of a removal: b says whether the record at `at` goes
pub clear_turn : (from k : ℕ) (w : List ℕ) {t₀ t t' : List ℕ} {at : ℕ} (b : Bool) → Changing (clear (matches from w)) k t₀ t at → 0 < k → from + length w ≤ k
    → at < length t → b ≡ starts w (drop (at + from) t) → t' ≡ cond b (sets t at (replicate k 255)) t → Changing (clear (matches from w)) k t₀ t' (at + k)
clear_turn from k w {t₀} {t} {t'} {at} b c h f l e s = step b (matches-at from k at w t f e) s
  where
    fits : at + k ≤ length t
    fits = room (length t) at k l c.whole

    step : (b : Bool) → matches from w (take k (drop at t)) ≡ b → t' ≡ cond b (sets t at (replicate k 255)) t
        → Changing (clear (matches from w)) k t₀ t' (at + k)
    step true m s = changing_hit (replicate k 255) (length-replicate _ _) c h fits (clear_hit _ k _ _ (length-record k at t fits) m) s
    step false m s = changing_miss c h fits (clear_miss _ _ _ m) s
