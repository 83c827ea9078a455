-- One theory of the five filters (document 02, request 1: "The facts about matching are proved once over the five filters"): what a read gives are whole
-- records in use that match, in table order, none twice, all where they fit, and no more than fit behind the header. Proved of any choice of records, and
-- so of every filter. (The entries of a history are something else: what a call writes on the sheet.)
use Rattle.words.specs.Basics.{◌≡◌, refl, Bool, true, false, cond, not, ◌||◌, List, [], ◌∷◌, ℕ, zero, suc, ◌+◌, ◌≤◌, min, arith, length}
use Rattle.words.specs.Basics.{take, drop, length-take, take_all, not-true}
use Rattle.words.specs.Names.{header_length, longest}
use Rattle.rules.specs.Types.{Filter, Index, Part, Binds}
use Rattle.rules.specs.Lists.{any, all, keep}
use Rattle.rules.specs.Octets.{octet, word}
use Rattle.rules.specs.Tables.{Rec, is_free, used, matches}
use Rattle.rules.specs.Layout.{size, part_is}
use Rattle.rules.specs.Sound.{distinct}
use Rattle.rules.specs.Payloads.{wanted}
use Rattle.rules.specs.Sessions.{most_entries, chosen, entries_by, listing}
use Rattle.rules.proofs.Lists.{and_parts, or_parts, all_keep, all-kept, all_take, all_drop}
use Rattle.rules.proofs.Records.{Each, length-bytes}

-- Some of a list, in its order

pub data Within {A : Type 0} : List A → List A → Type 0 where
  nothing_left : {l : List A} → Within [] l
  taken : {x : A} {k l : List A} → Within k l → Within (x ∷ k) (x ∷ l)
  passed : {x : A} {k l : List A} → Within k l → Within k (x ∷ l)

module _ {A : Type 0} where
  pub within-take : (n : ℕ) {k l : List A} → Within k l → Within (take n k) l
  within-take zero w = nothing_left
  within-take (suc n) nothing_left = nothing_left
  within-take (suc n) (taken w) = taken (within-take n w)
  within-take (suc n) (passed w) = passed (within-take (suc n) w)

  pub within-keep : (q : A → Bool) {k l : List A} → Within k l → Within (keep q k) l
  unfolding keep
  within-keep q nothing_left = nothing_left
  within-keep q (taken {x = x} {k = k} {l = l} w) =
      elim (q x) as (λ b. Within (cond b (x ∷ keep q k) (keep q k)) (x ∷ l)) [ true ↦ taken (within-keep q w) | false ↦ passed (within-keep q w) ]
  within-keep q (passed w) = passed (within-keep q w)

  pub within-drop : (i : ℕ) {k l : List A} → Within k l → Within (drop i k) l
  within-drop zero w = w
  within-drop (suc i) nothing_left = nothing_left
  within-drop (suc i) (taken w) = passed (within-drop i w)
  within-drop (suc i) (passed w) = passed (within-drop (suc i) w)

  pub within_all : (l : List A) → Within l l
  within_all [] = nothing_left
  within_all (x ∷ l) = taken (within_all l)

-- what all of a list have, some of it have

pub within-each : (n : ℕ) {k l : List Rec} → Within k l → Each n l → Each n k
within-each n nothing_left e = tt
within-each n (taken w) e = (e.0, within-each n w e.1)
within-each n (passed w) e = within-each n w e.1

any-within : (q : Rec → Bool) {k l : List Rec} → Within k l → any q l ≡ false → any q k ≡ false
unfolding any
any-within q nothing_left h = refl
any-within q (taken {x = x} w) h = let a = or_parts (q x) _ h in rw (a.0) (any-within q w a.1)
any-within q (passed {x = x} w) h = any-within q w (or_parts (q x) _ h).1

used-within : {k l : List Rec} → Within k l → Within (used k) (used l)
unfolding used keep
used-within nothing_left = nothing_left
used-within (taken {x = x} {k = k} {l = l} w) =
    elim (not (is_free x)) as (λ b. Within (cond b (x ∷ used k) (used k)) (cond b (x ∷ used l) (used l))) [ true ↦ taken (used-within w) | false ↦ used-within w ]
used-within (passed {x = x} {k = k} {l = l} w) =
    elim (not (is_free x)) as (λ b. Within (used k) (cond b (x ∷ used l) (used l))) [ true ↦ passed (used-within w) | false ↦ used-within w ]

pub within-distinct : (n : ℕ) {k l : List Rec} → Within k l → distinct n l ≡ true → distinct n k ≡ true
unfolding distinct
within-distinct n nothing_left d = refl
within-distinct n (taken {x = x} {k = k} {l = l} w) d =
    let a = and_parts (is_free x || not (any (matches 0 (take n x)) (used l))) (distinct n l) d in
    rw (alone (is_free x) a.0) (within-distinct n w a.1)
  where
    alone : (b : Bool) → (b || not (any (matches 0 (take n x)) (used l))) ≡ true → (b || not (any (matches 0 (take n x)) (used k))) ≡ true
    alone true h = refl
    alone false h = rw (any-within (matches 0 (take n x)) (used-within w) (not-true _ h))
within-distinct n (passed {x = x} {l = l} w) d =
    within-distinct n w (and_parts (is_free x || not (any (matches 0 (take n x)) (used l))) (distinct n l) d).1

-- Any choice of records

module _ (i n : ℕ) (q : Rec → Bool) (t : List Rec) where
  pub chosen-within : Within (chosen i n q t) t
  unfolding chosen used
  chosen-within = within-take n (within-keep q (within-drop i (within-keep (λ r. not (is_free r)) (within_all t))))

  pub chosen-few : length (chosen i n q t) ≤ n
  unfolding chosen
  chosen-few = omega (arith, length-take n (keep q (drop i (used t))))

  -- what all of the records in use have, those that are chosen have
  chosen-all : (p : Rec → Bool) → all p (used t) ≡ true → all p (chosen i n q t) ≡ true
  unfolding chosen
  chosen-all p h = all_take p n (keep q (drop i (used t))) (all_keep p q (drop i (used t)) (all_drop p i (used t) h))

  chosen-used : all (λ r. not (is_free r)) (chosen i n q t) ≡ true
  unfolding used
  chosen-used = chosen-all (λ r. not (is_free r)) (all-kept (λ r. not (is_free r)) t)

  chosen_pass : all q (chosen i n q t) ≡ true
  unfolding chosen
  chosen_pass = all_take q n (keep q (drop i (used t))) (all-kept q (drop i (used t)))

  chosen-whole : length (keep q (drop i (used t))) ≤ n → chosen i n q t ≡ keep q (drop i (used t))
  unfolding chosen
  chosen-whole h = take_all n (keep q (drop i (used t))) h

-- A read

-- what a filter asks: from which number on, at most how many, and of each record

abbrev pub from_on : Filter → List ℕ → ℕ
from_on Index p = word 0 p
from_on (Part q) p = 0

abbrev pub at_most : Filter → List ℕ → ℕ
at_most Index p = min (octet 2 p) most_entries
at_most (Part q) p = most_entries

abbrev pub asks_for : Filter → List ℕ → Rec → Bool
asks_for Index p b = true
asks_for (Part q) p b = part_is q (wanted q p) b

as_chosen : (f : Filter) (p : List ℕ) (bs : List Rec) → entries_by f p bs ≡ chosen (from_on f p) (at_most f p) (asks_for f p) bs
unfolding entries_by
as_chosen Index p bs = refl
as_chosen (Part q) p bs = refl

no_more : (f : Filter) (p : List ℕ) → at_most f p ≤ most_entries
no_more Index p = omega arith
no_more (Part q) p = omega arith

-- what is known of the entries es of a read, in a table of these binds
pub record Entered (f : Filter) (p : List ℕ) (bs es : List Rec) : Type 0 where
  -- those of the table, in its order
  pub order : Within es bs
  -- in use, and such as it asks for
  pub in_use : all (λ r. not (is_free r)) es ≡ true
  pub asked : all (asks_for f p) es ≡ true
  -- all of these, where no more are there than it may give
  pub complete : length (keep (asks_for f p) (drop (from_on f p) (used bs))) ≤ at_most f p → es ≡ keep (asks_for f p) (drop (from_on f p) (used bs))
  -- no more than fit
  pub few : length es ≤ most_entries
  -- whole records
  pub whole : Each (size Binds) es
  -- none twice
  pub once : distinct (size Binds) es ≡ true
  -- nothing beyond the part of the reply behind the header
  pub short : header_length + suc (length (listing es)) ≤ longest

pub entries_by_lem : (f : Filter) (p : List ℕ) (bs : List Rec) → Each (size Binds) bs → distinct (size Binds) bs ≡ true → Entered f p bs (entries_by f p bs)
unfolding listing
entries_by_lem f p bs e d =
    let i : ℕ = from_on f p in
    let n : ℕ = at_most f p in
    let q : Rec → Bool = asks_for f p in
    let w = chosen-within i n q bs in
    let z = within-each (size Binds) w e in
    let l : length (chosen i n q bs) ≤ most_entries = omega (arith, chosen-few i n q bs, no_more f p) in
    rw (as_chosen f p bs) (record {
      order = w;
      in_use = chosen-used i n q bs;
      asked = chosen_pass i n q bs;
      complete = chosen-whole i n q bs;
      few = l;
      whole = z;
      once = within-distinct (size Binds) w d;
      short = omega (arith, l, length-bytes (size Binds) (chosen i n q bs) z);
    })
