-- The number of members that Get Group Info gives (document 01, Commands and codes): each member is one unit, so none is lost to the order.
use lib.Seq.{get_or-append-add, ext_get_or}
use Rattle.words.specs.Basics.{◌≡◌, refl, sym, ◌∙◌, Bool, true, false, cond, not, ◌&&◌, ◌||◌, List, [], ◌∷◌, ◌++◌, map, append_assoc, ℕ, zero, suc, ◌+◌, ◌*◌}
use Rattle.words.specs.Basics.{◌/◌, ◌%◌, ◌<◌, ◌≤◌, arith, eqb, length, take, drop, get_or, length-drop, length-map, length-take-le, not-true, eq-eqb, eqb-true}
use Rattle.words.specs.Basics.{leb-true}
use Rattle.words.specs.Names.{ok}
use Rattle.rules.specs.Types.{GroupAddress, Groups, Members}
use Rattle.rules.specs.Lists.{◌&◌, count, any, all, keep, has, first_of}
use Rattle.rules.specs.Octets.{octet, word, octets, starts}
use Rattle.rules.specs.Units.{unit_number, unit_at, unit_octets, ordered, once}
use Rattle.rules.specs.Tables.{Rec, is_free, used, matches, addressed}
use Rattle.rules.specs.Layout.{size, most, full, longest_name, name_length, group_name, member_group, member_number, in_group}
use Rattle.rules.specs.Frame.{Lent, table, tables}
use Rattle.rules.specs.Exists.{group_exists}
use Rattle.rules.specs.Sound.{group_fits, fits, distinct, sound_table}
use Rattle.rules.specs.Recipients.{members_of}
use Rattle.rules.specs.Commands.{info_head, info, group_info}
use Rattle.rules.proofs.Lists.{and_parts, split, any-map, any-keep, none_weaken, count_alike, length-kept, few-kept, first_passes}
use Rattle.rules.proofs.Records.{length-records}
use Rattle.rules.proofs.Words.{shaped, octet_small, addressed-word, word_of, shaped-length}
use Rattle.rules.proofs.Changes.{all-used, shaped-records}
use Rattle.rules.proofs.Order.{length-ordered, few-ordered}
use Rattle.rules.proofs.Kept.{sound-at, Sane}

-- Two members of a group are two units

starts_self : (n : ℕ) (s : List ℕ) → starts (take n s) s ≡ true
starts_self zero s = refl
starts_self (suc n) [] = refl
starts_self (suc n) (o ∷ s) = rw (eq-eqb o o refl) (starts_self n s)

-- members with the same group and unit are the same five octets
same_member : (g : ℕ) (r x : Rec) → shaped 5 r ≡ true → shaped 5 x ≡ true → addressed g r ≡ true → addressed g x ≡ true
    → member_number r ≡ member_number x → r ≡ x
unfolding shaped unit_at unit_number word
same_member g r x s t a b e = ext_get_or 0 r x (eqb-true (length r) 5 (split s).0 ∙ sym (eqb-true (length x) 5 (split t).0)) each
  where
    g1 : word 0 r ≡ word 0 x
    g1 = word_of g r a ∙ sym (word_of g x b)

    below : (i : ℕ) → (octet i r ≤ 255) × (octet i x ≤ 255)
    below i = (octet_small r i (split s).1, octet_small x i (split t).1)

    each : (i : ℕ) → i < length r → get_or r i 0 ≡ get_or x i 0
    each zero l = omega (arith, g1, below 1)
    each (suc zero) l = omega (arith, g1, below 1)
    each (suc (suc zero)) l = omega (arith, e, below 3, below 4)
    each (suc (suc (suc zero))) l = omega (arith, e, below 3, below 4)
    each (suc (suc (suc (suc zero)))) l = omega (arith, e, below 3, below 4)
    each (suc (suc (suc (suc (suc i))))) l = absurd (omega (arith, eqb-true (length r) 5 (split s).0))

module _ (g : GroupAddress) where
  once-members : (ms : List Rec) → all (shaped 5) ms ≡ true → distinct 5 ms ≡ true → once (map member_number (keep (in_group g) (used ms))) ≡ true
  unfolding distinct used keep once all has matches ◌&◌
  once-members [] s d = refl
  once-members (r ∷ t) s d =
      let a = and_parts (shaped 5 r) (all (shaped 5) t) s in
      let c = and_parts (is_free r || not (any (matches 0 (take 5 r)) (used t))) (distinct 5 t) d in
      step (is_free r) (in_group g r) refl c.0 (once-members t a.1 c.1)
    where
      other : in_group g r ≡ true → any (matches 0 (take 5 r)) (used t) ≡ false
          → any (eqb (member_number r)) (map member_number (keep (in_group g) (used t))) ≡ false
      other i n =
          let a = and_parts (shaped 5 r) (all (shaped 5) t) s in
          any-map (eqb (member_number r)) member_number (keep (in_group g) (used t))
          ∙ any-keep (λ x. eqb (member_number r) (member_number x)) (in_group g) (used t)
          ∙ none_weaken (shaped 5) (matches 0 (take 5 r)) (λ x. in_group g x && eqb (member_number r) (member_number x))
          (λ x w e.
          let b = and_parts (in_group g x) (eqb (member_number r) (member_number x)) e in
          let z : r ≡ x = same_member g.0 r x a.0 w i b.0 (eqb-true (member_number r) (member_number x) b.1) in
          rw z (starts_self 5 x))
          (used t) (all-used (shaped 5) t a.1) n

      step : (b c : Bool) → in_group g r ≡ c → (b || not (any (matches 0 (take 5 r)) (used t))) ≡ true
          → once (map member_number (keep (in_group g) (used t))) ≡ true
          → once (map member_number (keep (in_group g) (cond (not b) (r ∷ used t) (used t)))) ≡ true
      step true c e n ih = ih
      step false false e n ih = rw e ih
      step false true e n ih = rw (e, other e (not-true _ n)) ih

  pub length-members : (L : Lent) → Sane L
      → length (ordered (members_of (tables L Members) g)) ≡ count (λ x. eqb (member_group x).0 g.0) (used (tables L Members))
  unfolding members_of sound_table
  length-members L S =
      let shapes = shaped-records 5 L.members (S.octets Members) in
      length-ordered _ (once-members (tables L Members) shapes (split (sound-at L S.sound Members)).1)
      ∙ length-map (keep (in_group g) (used (tables L Members))) member_number
      ∙ length-kept (in_group g) (used (tables L Members))
      ∙ count_alike (shaped 5) (in_group g) (λ x. eqb (member_group x).0 g.0) (λ x s. addressed-word 5 g.0 x (omega arith) s)
      (used (tables L Members)) (all-used (shaped 5) (tables L Members) shapes)

  -- .. and no more than records
  pub few-members : (t : List ℕ) → length t ≤ full Members → length (ordered (members_of (table Members t) g)) ≤ most Members
  unfolding members_of used
  few-members t h =
      let taken : List Rec = keep (λ r. not (is_free r)) (table Members t) in
      let kept : List Rec = keep (in_group g) taken in
      omega (
        arith,
        few-ordered (map member_number kept),
        length-map kept member_number,
        few-kept (in_group g) taken,
        few-kept (λ r. not (is_free r)) (table Members t),
        length-records (size Members) t,
      )

-- Where the number stands in the reply: behind the code, the name's length and the name

word-behind : (n a b : ℕ) (xs rest : List ℕ) → length xs ≡ n → word (2 + n) (0 ∷ n ∷ (xs ++ a ∷ b ∷ rest)) ≡ a * 256 + b
unfolding word
word-behind n a b xs rest e =
    let i : 2 + n ≡ suc (suc (length xs + 0)) = omega arith in
    let j : 2 + n + 1 ≡ suc (suc (length xs + 1)) = omega arith in
    rw (j, i, get_or-append-add xs (a ∷ b ∷ rest) 0 0, get_or-append-add xs (a ∷ b ∷ rest) 1 0)

info-behind : (r : Rec) (us rest : List ℕ) → length (group_name r) ≡ name_length r
    → word (2 + octet 1 (ok.0 ∷ info r us ++ rest)) (ok.0 ∷ info r us ++ rest) ≡ length us
unfolding info info_head octets
info-behind r us rest e =
    rw spread (word-behind (name_length r) (length us / 256) (length us % 256) (group_name r) (unit_octets us ++ rest) e ∙ halves (length us))
  where
    spread : 0 ∷ info r us ++ rest ≡ 0 ∷ name_length r ∷ (group_name r ++ length us / 256 ∷ length us % 256 ∷ (unit_octets us ++ rest))
    spread = simp append_assoc

    halves : (n : ℕ) → n / 256 * 256 + n % 256 ≡ n
    halves n = omega arith

-- a group's name, which its record holds whole
pub name_length_lem : (r : Rec) → length r ≡ size Groups → name_length r ≤ longest_name → length (group_name r) ≡ name_length r
name_length_lem r h l = length-take-le (name_length r) (drop 3 r) (rw length-drop (omega arith))

pub name-fits : (r : Rec) → group_fits r ≡ true → name_length r ≤ longest_name
unfolding group_fits
name-fits r h = leb-true (name_length r) longest_name (split (split h).0).1

module _ (L : Lent) (g : GroupAddress) (S : Sane L) (e : group_exists (tables L Groups) g ≡ true) where
  shapes : all (shaped 16) (used (tables L Groups)) ≡ true
  shapes = all-used (shaped 16) (tables L Groups) (shaped-records 16 L.groups (S.octets Groups))

  meets : all group_fits (used (tables L Groups)) ≡ true
  unfolding sound_table fits
  meets = (split (split (sound-at L S.sound Groups)).0).1

  abbrev told : List ℕ → List ℕ
  told rest = ok.0 ∷ group_info (tables L Groups) (tables L Members) g ++ rest

  pub info-count : (rest : List ℕ) → word (2 + octet 1 (told rest)) (told rest) ≡ count (λ x. eqb (member_group x).0 g.0) (used (tables L Members))
  unfolding group_info group_exists
  info-count rest =
      let r : Rec = first_of [] (addressed g.0) (used (tables L Groups)) in
      info-behind r (ordered (members_of (tables L Members) g)) rest
      (name_length_lem r (shaped-length 16 r (first_passes [] (addressed g.0) (shaped 16) (used (tables L Groups)) e shapes))
      (name-fits r (first_passes [] (addressed g.0) group_fits (used (tables L Groups)) e meets)))
      ∙ length-members g L S
