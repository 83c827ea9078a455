-- A read's reply, piece by piece: the entries, and before them the code and their number.
use borrow.Rule.Slice.PartMut.{mid_of, put_mid}
use Rattle.words.specs.Basics.{◌≡◌, refl, Bool, List, [], ◌∷◌, ℕ, ◌+◌, ◌-◌, ◌*◌, ◌≤◌, min, arith, length}
use Rattle.words.specs.Names.{ok}
use Rattle.rules.specs.Types.{BindPart, Binds, Index, Part}
use Rattle.rules.specs.Octets.{octet, word, over}
use Rattle.rules.specs.Tables.{Rec, records, bytes, matches}
use Rattle.rules.specs.Layout.{size, part_start, part_is}
use Rattle.rules.specs.Payloads.{wanted}
use Rattle.rules.specs.Sessions.{most_entries, chosen, entries_by, listing}
use Rattle.rules.proofs.Records.{length-bytes}
use Rattle.rules.proofs.Entries.{chosen-few}
use Rattle.messages.proofs.Replies.{rest_is, behind}
use Rattle.entries.proofs.Entering.{chosen-each}

-- no more than asked
pub ruleset few = (chosen-few)

module _ (index most : ℕ) (q : Rec → Bool) (t : List ℕ) where
  abbrev es : List Rec
  es = chosen index most q (records (size Binds) t)

  listing-length : 2 + size Binds * length es ≡ length (ok.0 ∷ listing es)
  unfolding listing
  listing-length = omega (arith, length-bytes (size Binds) es (chosen-each (size Binds) index t most q))

  -- the entries behind, code and number before them
  pub listed : (old part : List ℕ) {n : ℕ} → 2 ≤ length old → n ≡ length es → part ≡ over (bytes es) (mid_of 2 (length old - 2) old)
      → (2 + size Binds * n ≡ length (ok.0 ∷ listing es)) × (over (ok.0 ∷ n ∷ []) (put_mid 2 (length old - 2) old part) ≡ over (ok.0 ∷ listing es) old)
  unfolding listing
  listed old part l e p = rw e (listing-length, behind 2 (ok.0 ∷ length es ∷ []) (bytes es) old part refl l (rw (rest_is 2 old) at p))

-- by index: every bind has the octets that it looks for
pub any-bind : (p : List ℕ) (bs : List Rec) {i m : ℕ} {w : List ℕ} → i ≡ word 0 p → m ≡ min (octet 2 p) most_entries → w ≡ []
    → chosen i m (matches 0 w) bs ≡ entries_by Index p bs
unfolding entries_by matches
any-bind p bs e f g = rw (e, f, g) refl

-- by a part: what it looks for, from the place that it looks from
pub by_part : (q : BindPart) (p : List ℕ) (bs : List Rec) {from : ℕ} {w : List ℕ} → from ≡ part_start q → w ≡ wanted q p
    → chosen 0 most_entries (matches from w) bs ≡ entries_by (Part q) p bs
unfolding entries_by part_is
by_part q p bs e g = rw (e, g) refl
