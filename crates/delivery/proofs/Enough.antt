-- The room that outcome 17 asks for is enough for any tables: the recipients, each once, are no more than the binds and the member records.
use Rattle.std.specs.Prelude.{Option}
use Rattle.words.specs.Basics.{◌≡◌, refl, sym, ◌∙◌, Bool, true, false, cond, ◌&&◌, ◌||◌, false≢true, or-false, or-true, List, [], ◌∷◌, ◌++◌, map, flat_map, ℕ}
use Rattle.words.specs.Basics.{◌+◌, ◌*◌, ◌/◌, ◌≤◌, arith, eqb, length, length-append, length-map}
use Rattle.rules.specs.Types.{GroupAddress, Fields, Binds, Members}
use Rattle.rules.specs.Lists.{any, has, keep}
use Rattle.rules.specs.Units.{once}
use Rattle.rules.specs.Tables.{Rec, used}
use Rattle.rules.specs.Layout.{size, to_group, bound_group, bind_to, member_number}
use Rattle.rules.specs.Frame.{table}
use Rattle.rules.specs.Recipients.{members_of, bind_matches, reached, bound}
use Rattle.rules.proofs.Lists.{and_parts, any-keep, any-map, any-flat_map}
use Rattle.rules.proofs.Records.{length-records}
use Rattle.units.specs.Listing.{units, added_all, Enough}
use Rattle.collecting.specs.Leaving.{leaving, members_but, bound_but}
use Rattle.units.proofs.Units.{or_either, has-none, has-cons, has-append}
use Rattle.units.proofs.Taking.{has-added_all, once-added_all, fewer}

-- every unit of vs is one of ws
abbrev pub Within : List ℕ → List ℕ → Type 0
Within vs ws = (x : ℕ) → has x vs ≡ true → has x ws ≡ true

pub count-within : (vs ws : List ℕ) → Within vs ws → length (added_all vs []) ≤ length ws
unfolding once
count-within vs ws w = fewer (added_all vs []) ws (once-added_all vs [] refl) (λ x h. w x (sym (has-added_all x vs [] ∙ rw has-none) ∙ h))

pub enough_within : {vs : List ℕ} {n : ℕ} {l : List ℕ} (ws : List ℕ) → n ≡ 0 → Within vs ws → 3 * length ws ≤ length l → Enough vs n l
unfolding units
enough_within {vs} ws z w h = rw z (record { fits = omega (arith, count-within vs ws w) })

-- A test that some element passes

module _ {A : Type 0} where
  any_weaken : (p q : A → Bool) → ((x : A) → p x ≡ true → q x ≡ true) → (l : List A) → any p l ≡ true → any q l ≡ true
  unfolding any
  any_weaken p q w [] h = h
  any_weaken p q w (x ∷ l) h = or_either (p x) (any p l) h (λ e. rw (w x e)) (λ e. rw (any_weaken p q w l e) (or-true (q x)))

  any-kept : (p q : A → Bool) (l : List A) → any p (keep q l) ≡ true → any p l ≡ true
  any-kept p q l h = any_weaken (λ x. q x && p x) p (λ x e. (and_parts (q x) (p x) e).1) l (sym (any-keep p q l) ∙ h)

  any-or : (p : A → Bool) (b : Bool) (l : List A) → any (λ x. p x || b) l ≡ true → (any p l || b) ≡ true
  any-or p true l h = or-true (any p l)
  any-or p false l h = or-false (any p l) ∙ any_weaken (λ x. p x || false) p (λ x e. sym (or-false (p x)) ∙ e) l h

-- The members of a group are in member records

members-all : (g : GroupAddress) (ms : List Rec) → Within (members_of ms g) (map member_number ms)
unfolding members_of used has
members-all g ms x h =
    any-map (eqb x) member_number ms ∙ any-kept _ _ ms (any-kept _ _ _ (sym (any-map (eqb x) member_number _) ∙ h))

-- the units of all member records
unfoldable pub member_units : List ℕ → List ℕ
member_units ms = map member_number (table Members ms)

pub length-member_units : (ms : List ℕ) → length (member_units ms) ≡ length ms / size Members
unfolding member_units
length-member_units ms = rw (length-map, length-records)

pub members-within : (x : Option ℕ) (g : GroupAddress) (ms : List ℕ) → Within (members_but x g (table Members ms)) (member_units ms)
unfolding members_but leaving has member_units
members-within x g ms u h = members-all g (table Members ms) u (any-kept (eqb u) _ (members_of (table Members ms) g) h)

-- Whom binds reach is named by a bind or is in a member record

reached-within : (ms : List Rec) (b : Rec) (x : ℕ) → has x (reached ms b) ≡ true → (eqb x (bind_to b) || has x (map member_number ms)) ≡ true
unfolding reached
reached-within ms b x = go (to_group b)
  where
    go : (t : Bool) → has x (cond t (members_of ms (bound_group b)) (bind_to b ∷ [])) ≡ true → (eqb x (bind_to b) || has x (map member_number ms)) ≡ true
    go true h = rw (members-all (bound_group b) ms x h) (or-true (eqb x (bind_to b)))
    go false h = or_either (eqb x (bind_to b)) (has x []) (sym (has-cons x (bind_to b) []) ∙ h) (λ e. rw e) (λ e. absurd (false≢true (sym (has-none x) ∙ e)))

-- the units of all binds and all member records
unfoldable pub all_units : List ℕ → List ℕ → List ℕ
all_units bs ms = map bind_to (table Binds bs) ++ member_units ms

pub length-all_units : (bs ms : List ℕ) → length (all_units bs ms) ≡ length bs / size Binds + length ms / size Members
unfolding all_units
length-all_units bs ms = rw (length-append, length-map, length-records, length-member_units)

pub bound-within : (x : Option ℕ) (f : Fields) (bs ms : List ℕ) → Within (bound_but x f (table Members ms) (table Binds bs)) (all_units bs ms)
unfolding bound_but bound leaving used has all_units member_units
bound-within x f bs ms u h =
    let M = table Members ms in
    let B = table Binds bs in
    let r = sym (any-flat_map (eqb u) (reached M) _) ∙ any-kept (eqb u) _ (flat_map (reached M) (keep (bind_matches f) (used B))) h in
    let w = any_weaken (λ b. has u (reached M b)) (λ b. eqb u (bind_to b) || has u (map member_number M)) (λ b. reached-within M b u) B
    (any-kept _ _ B (any-kept _ _ _ r)) in
    has-append u (map bind_to B) (map member_number M) ∙ rw (any-map (eqb u) bind_to B) (any-or (λ b. eqb u (bind_to b)) (has u (map member_number M)) B w)
