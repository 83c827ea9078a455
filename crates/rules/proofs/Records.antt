-- Laws of a table's octets and its records, by which loops over octets meet the definitions over records. Proofs above use these laws; how `records`
-- cuts is used in this file alone.
use native.Mathlib.Nat.{div-eq-sub-div, div-eq_of_lt, div-add-mod', mod-eq-sub-mod, mod-eq_of_lt, div-mul-le_self}
use native.Mathlib.Nat.{mul-div_cancel, sub-zero, zero-mul, zero-add, not-suc-le-zero, le_of_suc-le-suc}
use native.Mathlib.Numerals.{add-one}
use lib.Seq.{get_or-take, take-length, take-add, take_at}
use Rattle.words.specs.Basics.{◌≡◌, refl, sym, ap, ◌∙◌, Bool, true, false, cond, ◌&&◌, ◌||◌, List, [], ◌∷◌, ◌++◌, append-nil, append_assoc, ℕ, zero, suc, ◌+◌}
use Rattle.words.specs.Basics.{◌-◌, ◌*◌, ◌/◌, ◌%◌, ◌<◌, ◌≤◌, arith, eqb, length, take, drop, replicate, length-drop, length-append, length-map, sets}
use Rattle.words.specs.Basics.{length-take-le, drop_at, drop-length, drop-drop, get_or-drop, length-sets, sets-eq}
use Rattle.rules.specs.Octets.{octet, starts}
use Rattle.rules.specs.Tables.{Rec, cut, records, bytes, is_free, blank, matches, put, clear}

-- Cutting

pub records-cons : (k : ℕ) (t : List ℕ) → 0 < k → k ≤ length t → records k t ≡ take k t ∷ records k (drop k t)
unfolding records
records-cons k t h l = rw (div-eq-sub-div h l, add-one, length-drop)

pub records-nil : (k : ℕ) (t : List ℕ) → length t < k → records k t ≡ []
unfolding records
records-nil k t l = rw (div-eq_of_lt l)

-- the record at `at`, and those after it
pub records-at : (k at : ℕ) (t : List ℕ) → 0 < k → at + k ≤ length t → records k (drop at t) ≡ take k (drop at t) ∷ records k (drop (at + k) t)
records-at k at t h l = rw (records-cons k (drop at t) h (rw length-drop (omega arith)), drop-drop)

-- none is left
pub records_end : (k at : ℕ) (t : List ℕ) → length t - at < k → records k (drop at t) ≡ []
records_end k at t l = records-nil k (drop at t) (rw length-drop l)

length_cut : (n k : ℕ) (t : List ℕ) → length (cut n k t) ≡ n
length_cut zero k t = refl
length_cut (suc n) k t = ap suc (length_cut n k (drop k t))

pub length-records : (k : ℕ) (t : List ℕ) → length (records k t) ≡ length t / k
unfolding records
length-records k t = length_cut (length t / k) k t

-- the record at `at` has k octets
pub length-record : (k at : ℕ) (t : List ℕ) → at + k ≤ length t → length (take k (drop at t)) ≡ k
length-record k at t l = length-take-le k (drop at t) (rw length-drop (omega arith))

-- octet i of the record at `at`
pub octet-at : (k at i : ℕ) (t : List ℕ) → i < k → octet i (take k (drop at t)) ≡ octet (at + i) t
octet-at k at i t h = rw (get_or-take k (drop at t) i 0 h, get_or-drop)

-- What holds of no records, and of the record at `at` with those after it where it holds of those, holds of all.
records-from : (k : ℕ) (t : List ℕ) (P : ℕ → List Rec → Type 0) → ((at : ℕ) → P at [])
    → ((at : ℕ) (rs : List Rec) → at + k ≤ length t → P (at + k) rs → P at (take k (drop at t) ∷ rs))
    → (n at : ℕ) → at + n * k ≤ length t → P at (cut n k (drop at t))
records-from k t P base more zero at h = base at
records-from k t P base more (suc n) at h =
    more at (cut n k (drop k (drop at t))) (omega arith) (rw drop-drop (records-from k t P base more n (at + k) (omega arith)))

pub records-all : (k : ℕ) (t : List ℕ) (P : ℕ → List Rec → Type 0) → ((at : ℕ) → P at [])
    → ((at : ℕ) (rs : List Rec) → at + k ≤ length t → P (at + k) rs → P at (take k (drop at t) ∷ rs)) → P 0 (records k t)
unfolding records
records-all k t P base more = records-from k t P base more (length t / k) 0 (rw zero-add (div-mul-le_self (length t) k))

-- A test of the record at `at`, by a test of the table

starts-take : (w s : List ℕ) (k : ℕ) → length w ≤ k → starts w (take k s) ≡ starts w s
starts-take [] s k h = refl
starts-take (x ∷ xs) s zero h = absurd (not-suc-le-zero h)
starts-take (x ∷ xs) [] (suc k) h = refl
starts-take (x ∷ xs) (y ∷ ys) (suc k) h = ap (λ (b : Bool). eqb y x && b) (starts-take xs ys k (le_of_suc-le-suc h))

matches-take : (from : ℕ) (w s : List ℕ) (k : ℕ) → from + length w ≤ k → matches from w (take k s) ≡ matches from w s
unfolding matches
matches-take zero w s k h = starts-take w s k (omega arith)
matches-take (suc f) w s zero h = absurd (omega arith)
matches-take (suc f) w [] (suc k) h = refl
matches-take (suc f) w (y ∷ ys) (suc k) h = matches-take f w ys k (omega arith)

pub matches-at : (from k at : ℕ) (w t : List ℕ) {b : Bool} → from + length w ≤ k → b ≡ starts w (drop (at + from) t) → matches from w (take k (drop at t)) ≡ b
unfolding matches
matches-at from k at w t h e = matches-take from w (drop at t) k h ∙ rw drop-drop (sym e)

-- Records and their octets

bytes_cut : (n k : ℕ) (t : List ℕ) → bytes (cut n k t) ≡ take (n * k) t
bytes_cut zero k t = rw zero-mul
bytes_cut (suc n) k t =
    let e : k + n * k ≡ suc n * k = omega arith in
    rw (bytes_cut n k (drop k t), ← e) (sym (take-add k (n * k) t))

-- a table of whole records is the octets of its records
pub bytes-records : (k : ℕ) (t : List ℕ) → length t % k ≡ 0 → bytes (records k t) ≡ t
unfolding records
bytes-records k t h =
    let e : length t / k * k ≡ length t = omega (arith, div-add-mod' (length t) k) in
    rw (bytes_cut, e) (take-length t)

-- every record has k octets
abbrev pub Each : ℕ → List Rec → Type 0
Each k [] = Unit
Each k (r ∷ rs) = (length r ≡ k) × Each k rs

each-cut : (n k : ℕ) (t : List ℕ) → n * k ≤ length t → Each k (cut n k t)
each-cut zero k t h = tt
each-cut (suc n) k t h = (length-take-le k t (omega arith), each-cut n k (drop k t) (rw length-drop (omega arith)))

pub each-records : (k : ℕ) (t : List ℕ) → Each k (records k t)
unfolding records
each-records k t = each-cut (length t / k) k t (div-mul-le_self (length t) k)

pub length-blank : (r : Rec) → length (blank r) ≡ length r
unfolding blank
length-blank r = length-map r _

pub each-put : (k : ℕ) (r : Rec) (rs : List Rec) → length r ≡ k → Each k rs → Each k (put r rs)
unfolding put
each-put k r [] h e = tt
each-put k r (x ∷ rs) h e = elim (is_free x) as (λ b. Each k (cond b (r ∷ rs) (x ∷ put r rs))) [ true ↦ (h, e.1) | false ↦ (e.0, each-put k r rs h e.1) ]

pub each-clear : (k : ℕ) (q : Rec → Bool) (rs : List Rec) → Each k rs → Each k (clear q rs)
unfolding clear
each-clear k q [] e = tt
each-clear k q (r ∷ rs) e =
    (elim (q r) as (λ b. length (cond b (blank r) r) ≡ k) [ true ↦ length-blank r ∙ e.0 | false ↦ e.0 ], each-clear k q rs e.1)

pub length-bytes : (k : ℕ) (rs : List Rec) → Each k rs → length (bytes rs) ≡ length rs * k
length-bytes k [] e = rw zero-mul
length-bytes k (r ∷ rs) e = rw (length-append, e.0, length-bytes k rs e.1) (omega arith)

cut-bytes : (k : ℕ) (rs : List Rec) → Each k rs → cut (length rs) k (bytes rs) ≡ rs
cut-bytes k [] e = refl
cut-bytes k (r ∷ rs) e = rw (take_at r (bytes rs) k e.0, drop_at r (bytes rs) k e.0, cut-bytes k rs e.1)

-- what is written reads back
pub records-bytes : (k : ℕ) (rs : List Rec) → 0 < k → Each k rs → records k (bytes rs) ≡ rs
unfolding records
records-bytes k rs h e = rw (length-bytes k rs e, mul-div_cancel (length rs) h) (cut-bytes k rs e)

-- Whole records: what is left of n octets past `at` is a multiple of k

pub whole_more : (n at k : ℕ) → at + k ≤ n → (n - at) % k ≡ 0 → (n - (at + k)) % k ≡ 0
whole_more n at k h e =
    let l : k ≤ n - at = omega arith in
    let s : n - (at + k) ≡ n - at - k = omega arith in
    rw (s, ← mod-eq-sub-mod l) e

pub whole_end : (n at k : ℕ) → at ≤ n → n - at < k → (n - at) % k ≡ 0 → at ≡ n
whole_end n at k h l e = omega (arith, sym (mod-eq_of_lt l) ∙ e)

-- A change from `at` on of the records of a table whose earlier octets are done

head_length : (t r : List ℕ) (at : ℕ) → at + length r ≤ length t → length (take at t ++ r) ≡ at + length r
head_length t r at h = rw (length-append, length-take-le at t (omega arith))

take-sets : (t r : List ℕ) (at : ℕ) → at + length r ≤ length t → take (at + length r) (sets t at r) ≡ take at t ++ r
take-sets t r at h = rw (sets-eq r t at h) (take_at (take at t ++ r) (drop (at + length r) t) (at + length r) (head_length t r at h))

drop-sets : (t r : List ℕ) (at : ℕ) → at + length r ≤ length t → drop (at + length r) (sets t at r) ≡ drop (at + length r) t
drop-sets t r at h = rw (sets-eq r t at h) (drop_at (take at t ++ r) (drop (at + length r) t) (at + length r) (head_length t r at h))

-- a free record of k octets
blank-record : (k : ℕ) (r : Rec) → length r ≡ k → blank r ≡ replicate k 255
unfolding blank
blank-record k [] h = rw (sym h)
blank-record zero (o ∷ r) h = absurd (omega arith)
blank-record (suc k) (o ∷ r) h = ap (λ (s : List ℕ). 255 ∷ s) (blank-record k r (omega arith))

-- t is t₀ with the change F made to the records before `at`; F changes a list of records from its front on
pub record Changing (F : List Rec → List Rec) (k : ℕ) (t₀ t : List ℕ) (at : ℕ) : Type 0 where
  pub within : at ≤ length t
  pub same : length t ≡ length t₀
  pub whole : (length t - at) % k ≡ 0
  pub rest : take at t ++ bytes (F (records k (drop at t))) ≡ bytes (F (records k t₀))

module _ {F : List Rec → List Rec} {k : ℕ} {t₀ : List ℕ} where
  pub changing_start : length t₀ % k ≡ 0 → Changing F k t₀ t₀ 0
  changing_start h = record { within = omega arith; same = refl; whole = rw sub-zero h; rest = refl }

  -- the record at `at` stays
  pub changing_miss : {t t' : List ℕ} {at : ℕ} → Changing F k t₀ t at → 0 < k → at + k ≤ length t
      → F (take k (drop at t) ∷ records k (drop (at + k) t)) ≡ take k (drop at t) ∷ F (records k (drop (at + k) t)) → t' ≡ t → Changing F k t₀ t' (at + k)
  changing_miss {t} {t'} {at} c h l e s =
      rw s (record {
        within = l;
        same = c.same;
        whole = whole_more (length t) at k l c.whole;
        rest = rw (take-add, append_assoc) (rw (records-at k at t h l, e) at c.rest);
      })

  -- the record at `at` becomes r
  pub changing_hit : {t t' : List ℕ} {at : ℕ} (r : Rec) → length r ≡ k → Changing F k t₀ t at → 0 < k → at + k ≤ length t
      → F (take k (drop at t) ∷ records k (drop (at + k) t)) ≡ r ∷ F (records k (drop (at + k) t)) → t' ≡ sets t at r → Changing F k t₀ t' (at + k)
  changing_hit {t} {t'} {at} r m c h l e s =
      let f : at + length r ≤ length t = omega arith in
      let n : length t' ≡ length t = ap length s ∙ length-sets t at r in
      record {
        within = omega arith;
        same = n ∙ c.same;
        whole = rw n (whole_more (length t) at k l c.whole);
        rest = rw (s, rw m at (take-sets t r at f), rw m at (drop-sets t r at f), append_assoc) (rw (records-at k at t h l, e) at c.rest);
      }

  -- no whole record is left, and F makes nothing of none
  pub changing_end : {t : List ℕ} {at : ℕ} → Changing F k t₀ t at → length t - at < k → F [] ≡ [] → t ≡ bytes (F (records k t₀))
  changing_end {t} {at} c l e =
      let d : at ≡ length t = whole_end (length t) at k c.within l c.whole in
      sym (rw (d, take-length, drop-length, records-nil k [] (omega arith), e, append-nil)) ∙ c.rest

-- The two changes

-- all records that pass become free
pub clear_hit : (q : Rec → Bool) (k : ℕ) (r : Rec) (rs : List Rec) → length r ≡ k → q r ≡ true → clear q (r ∷ rs) ≡ replicate k 255 ∷ clear q rs
unfolding clear
clear_hit q k r rs h e = rw (e, blank-record k r h)

pub clear_miss : (q : Rec → Bool) (r : Rec) (rs : List Rec) → q r ≡ false → clear q (r ∷ rs) ≡ r ∷ clear q rs
unfolding clear
clear_miss q r rs e = rw e

pub clear_end : (q : Rec → Bool) → clear q [] ≡ []
unfolding clear
clear_end q = refl

-- one removal after another is the removal of what passes either
pub clear_twice : (p q : Rec → Bool) (rs : List Rec) → clear q (clear p rs) ≡ clear (λ r. p r || q r) rs
unfolding clear blank
clear_twice p q [] = refl
clear_twice p q (r ∷ rs) = step (p r) (clear_twice p q rs)
  where
    again : (r : Rec) → blank (blank r) ≡ blank r
    again [] = refl
    again (o ∷ r) = ap (λ (s : List ℕ). 255 ∷ s) (again r)

    free_stays : (b : Bool) → cond b (blank (blank r)) (blank r) ≡ blank r
    free_stays true = again r
    free_stays false = refl

    step : (b : Bool) → clear q (clear p rs) ≡ clear (λ r. p r || q r) rs
        → cond (q (cond b (blank r) r)) (blank (cond b (blank r) r)) (cond b (blank r) r) ∷ clear q (clear p rs)
        ≡ cond (b || q r) (blank r) r ∷ clear (λ r. p r || q r) rs
    step true ih = rw (free_stays (q (blank r)), ih)
    step false ih = rw ih

-- the first free record takes the new one
pub put_hit : (r x : Rec) (rs : List Rec) → is_free x ≡ true → put r (x ∷ rs) ≡ r ∷ rs
unfolding put
put_hit r x rs e = rw e

pub put_miss : (r x : Rec) (rs : List Rec) → is_free x ≡ false → put r (x ∷ rs) ≡ x ∷ put r rs
unfolding put
put_miss r x rs e = rw e

pub put_end : (r : Rec) → put r [] ≡ []
unfolding put
put_end r = refl

-- .. and with it the table is done
pub put-done : (r : Rec) {k : ℕ} {t₀ t : List ℕ} {at : ℕ} → length r ≡ k → Changing (put r) k t₀ t at → 0 < k → at + k ≤ length t
    → is_free (take k (drop at t)) ≡ true → sets t at r ≡ bytes (put r (records k t₀))
put-done r {k} {t₀} {t} {at} m c h l e =
    let f : at + length r ≤ length t = omega arith in
    let w : (length (drop (at + k) t)) % k ≡ 0 = rw length-drop (whole_more (length t) at k l c.whole) in
    let p : put r (take k (drop at t) ∷ records k (drop (at + k) t)) ≡ r ∷ records k (drop (at + k) t) = put_hit r _ (records k (drop (at + k) t)) e in
    sets-eq r t at f ∙ rw (m, append_assoc) (rw (records-at k at t h l, p, bytes-records k (drop (at + k) t) w) at c.rest)
