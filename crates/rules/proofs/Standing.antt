-- A table holds the records that stand by history: where a call does to a table what its entry says, they agree before it and after it.
use Rattle.words.specs.Basics.{◌≡◌, refl, sym, ap, ◌∙◌, Bool, true, not, ◌&&◌, List, [], ◌∷◌, ℕ}
use Rattle.rules.specs.Lists.{tick, count, any, all, keep}
use Rattle.rules.specs.Tables.{Rec, is_free, used, Change, none, store, wipe, change}
use Rattle.rules.specs.History.{Entry, silent, adds, withdraws, stand}
use Rattle.rules.proofs.Lists.{is_positive, and_parts, count-keep, count_alike, any-count}
use Rattle.rules.proofs.Words.{shaped}
use Rattle.rules.proofs.Changes.{Storable, count-put, count-clear, all-used}

-- what the sheet says is what the table suffers; a stroke and a removal need only agree on records of the table's size
pub data Says (k : ℕ) : Change → Entry → Type 0 where
  says_nothing : Says k none silent
  says_added : {r : Rec} → Says k (store r) (adds r)
  says_withdrawn : {q w : Rec → Bool} → ((r : Rec) → shaped k r ≡ true → q r ≡ w r) → Says k (wipe q) (withdraws w)

-- a record stored is the one added
pub says_stored : {k : ℕ} {r x : Rec} → r ≡ x → Says k (store r) (adds x)
says_stored e = rw e says_added

-- the used records of t are those of l, each as often, in whatever order: no test can tell them apart by counting
unfoldable pub Agree : List Rec → List Rec → Type 0
Agree t l = (p : Rec → Bool) → count p (used t) ≡ count p l

pub agree_change : (k : ℕ) {c : Change} {e : Entry} (t l : List Rec) → Says k c e → Storable c t → all (shaped k) t ≡ true → Agree t l
    → Agree (change c t) (stand e l)
unfolding Agree Storable change stand count
agree_change k t l says_nothing f s a p = a p
agree_change k t l (says_added {r = r}) f s a p = count-put p r t f.0 f.1 ∙ ap (tick (p r)) (a p)
agree_change k t l (says_withdrawn {q = q} {w = w} e) f s a p =
    count-clear p q t
    ∙ count_alike (shaped k) (λ r. not (q r) && p r) (λ r. not (w r) && p r) (λ r h. rw (e r h)) (used t) (all-used (shaped k) t s)
    ∙ a _
    ∙ sym (count-keep p (λ r. not (w r)) l)

-- what no count tells apart, no search tells apart
pub agree_any : (t l : List Rec) → Agree t l → (p : Rec → Bool) → any p (used t) ≡ any p l
unfolding Agree
agree_any t l a p = any-count p (used t) ∙ ap is_positive (a p) ∙ sym (any-count p l)

pub free-used : (t : List Rec) → all is_free t ≡ true → used t ≡ []
unfolding used keep all
free-used [] h = refl
free-used (r ∷ t) h = let a = and_parts (is_free r) (all is_free t) h in rw (a.0) (free-used t a.1)

-- a free table and an empty sheet
pub agree_free : (t : List Rec) → all is_free t ≡ true → Agree t []
unfolding Agree count
agree_free t h p = rw (free-used t h)
