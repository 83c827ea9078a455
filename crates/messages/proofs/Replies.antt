-- Laws of replies: the ranges of fields, and octets written over others in parts, a payload over the part behind the header and a header over the front.
use lib.Seq.{drop-append-le, set-append_left}
use borrow.Rule.Slice.PartMut.{mid_of, put_mid}
use Rattle.words.specs.Basics.{◌≡◌, refl, sym, ap, ◌∙◌, List, [], ◌∷◌, ◌++◌, append-nil, append_assoc, ℕ, suc, ◌+◌, ◌-◌, ◌<◌, ◌≤◌, arith, length, take, drop}
use Rattle.words.specs.Basics.{set, length-drop, length-append, length-set, take-append-drop, sets, length-take-le, take_all, drop_at, drop-length, drop-drop}
use Rattle.words.specs.Names.{header_length}
use Rattle.rules.specs.Types.{Fields}
use Rattle.rules.specs.Octets.{over, flag, number}
use Rattle.rules.specs.Message.{fields, header, answering, reply}
use Rattle.rules.proofs.RoundTrip.{header_length_lem}
use Rattle.messages.specs.Ranges.{Ranged}

-- what was read is in range, and so is what answers it
pub fields_ranged : (m : List ℕ) → Ranged (fields m)
unfolding fields flag number
fields_ranged m = record { source = omega arith; address_type_of = omega arith; destination = omega arith; interface_type_of = omega arith; uid = omega arith }

pub answering_ranged : (f : Fields) (n : ℕ) → Ranged f → Ranged (answering f n)
unfolding answering
answering_ranged f n r = record { source = omega arith; address_type_of = omega arith; destination = r.source; interface_type_of = r.interface_type_of; uid = r.uid }

-- `&s[n..]`, as it is lent, is the rest
pub rest_is : (n : ℕ) (s : List ℕ) → mid_of n (length s - n) s ≡ drop n s
rest_is n s = take_all (length s - n) (drop n s) (rw length-drop (omega arith))

-- `&mut s[n..]`, come back as `part`: what stands before it, and the part
pub rest_put : (n : ℕ) (s part : List ℕ) → n ≤ length s → put_mid n (length s - n) s part ≡ take n s ++ part
rest_put n s part h =
    let w : n + (length s - n) ≡ length s = omega arith in
    rw (drop-drop, w, drop-length, append-nil)

-- the part behind n octets was lent, and `new` written over it; then n octets over the front
pub behind : (n : ℕ) (head new old part : List ℕ) → length head ≡ n → n ≤ length old → part ≡ over new (drop n old)
    → over head (put_mid n (length old - n) old part) ≡ over (head ++ new) old
unfolding over
behind n head new old part e l p =
    rw (rest_put n old part l, e, drop_at (take n old) part n (length-take-le n old l), p, append_assoc, length-append, e, drop-drop)

-- the same where only k octets were lent behind the n
between : (n k : ℕ) (head new old part : List ℕ) → length head ≡ n → n + k ≤ length old → length new ≤ k → part ≡ over new (mid_of n k old)
    → over head (put_mid n k old part) ≡ over (head ++ new) old
unfolding over
between n k head new old part e l m p =
    let f : n ≤ length old = omega arith in
    let g : k ≤ length (drop n old) = rw length-drop (omega arith) in
    let h : length new ≤ length (take k (drop n old)) = rw (length-take-le k (drop n old) g) m in
    let w : drop (length new) (take k (drop n old)) ++ drop k (drop n old) ≡ drop (length new) (drop n old) =
    sym (drop-append-le (length new) (take k (drop n old)) (drop k (drop n old)) h)
    ∙ ap (λ (s : List ℕ). drop (length new) s) (take-append-drop k (drop n old)) in
    rw (e, drop_at (take n old) (part ++ drop k (drop n old)) n (length-take-le n old f), p, append_assoc, append_assoc, w, length-append, e, drop-drop)

-- the same of a reply to a request of these fields: the payload p behind the header, then the header
pub reply-behind : (k : ℕ) (f : Fields) (p old part : List ℕ) → header_length + k ≤ length old → length p ≤ k → part ≡ over p (mid_of header_length k old)
    → over (header (answering f (length p))) (put_mid header_length k old part) ≡ over (reply f p) old
unfolding reply
reply-behind k f p old part l m e = between header_length k (header (answering f (length p))) p old part (header_length_lem _) l m e

-- what was written is within what it was written over, where that kept its length
pub within-room : (new old : List ℕ) {after : List ℕ} → after ≡ over new old → length after ≡ length old → length new ≤ length old
unfolding over
within-room new old e h = omega (arith, ap length e, length-append new (drop (length new) old))

-- a run stored in what was written over is a run of it
pub sets_in : (m old : List ℕ) (at : ℕ) (run : List ℕ) → at + length run ≤ length m → sets (over m old) at run ≡ over (sets m at run) old
unfolding over
sets_in m old at [] h = refl
sets_in m old at (v ∷ run) h =
    ap (λ (l : List ℕ). sets l (suc at) run) (one m old at v (omega arith)) ∙ sets_in (set m at v) old (suc at) run (rw length-set (omega arith))
  where
    one : (m old : List ℕ) (at v : ℕ) → at < length m → set (over m old) at v ≡ over (set m at v) old
    one m old at v l = rw (set-append_left m (drop (length m) old) at v l, length-set)
