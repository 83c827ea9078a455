-- Get Group Info's reply, piece by piece: what stands before the members, and the members behind it.
use Rattle.std.specs.Prelude.{None}
use borrow.Rule.Slice.PartMut.{put_mid}
use Rattle.words.specs.Basics.{◌≡◌, refl, sym, List, [], ◌∷◌, ◌++◌, ℕ, ◌+◌, ◌-◌, ◌*◌, ◌≤◌, arith, length, take, drop, sets}
use Rattle.words.specs.Names.{ok, header_length, longest}
use Rattle.rules.specs.Types.{GroupAddress, Groups, Members}
use Rattle.rules.specs.Octets.{octets, over}
use Rattle.rules.specs.Units.{unit_octets, ordered}
use Rattle.rules.specs.Tables.{Rec}
use Rattle.rules.specs.Layout.{size, longest_name, name_length, group_name}
use Rattle.rules.specs.Frame.{table}
use Rattle.rules.specs.Recipients.{members_of}
use Rattle.rules.specs.Commands.{info_head, info}
use Rattle.rules.proofs.Counts.{name_length_lem}
use Rattle.rules.proofs.Replied.{length-info_head, length-info}
use Rattle.octets.proofs.Runs.{sets_behind, sets_over}
use Rattle.messages.proofs.Replies.{behind}
use Rattle.collecting.specs.Leaving.{members_but}
use Rattle.group_info.proofs.Informed.{all-members}

-- 0x00, name length, name, number of members
pub length_head : (r : Rec) (n : ℕ) → length r ≡ size Groups → name_length r ≤ longest_name → length (ok.0 ∷ info_head r n) ≡ name_length r + 2 + 2
length_head r n h l = omega (arith, length-info_head r n, name_length_lem r h l)

-- 0x00 and the name's length, the name, the number of members
pub head_written : (r out : List ℕ) (n : ℕ) → length r ≡ size Groups → name_length r ≤ longest_name → longest ≤ header_length + length out
    → sets (sets (sets out 0 (ok.0 ∷ name_length r ∷ [])) 2 (take (name_length r + 3 - 3) (drop 3 r))) (name_length r + 2) (octets n)
    ≡ over (ok.0 ∷ info_head r n) out
unfolding info_head
head_written r out n h l m =
    let e : name_length r + 3 - 3 ≡ name_length r = omega arith in
    let w : 0 + length (ok.0 ∷ name_length r ∷ group_name r) ≡ name_length r + 2 = omega (arith, name_length_lem r h l) in
    rw (e, sets_behind out (ok.0 ∷ name_length r ∷ []) (group_name r) 0 refl, sets_behind out (ok.0 ∷ name_length r ∷ group_name r) (octets n) 0 w)
    (sets_over (ok.0 ∷ name_length r ∷ (group_name r ++ octets n)) out (omega (arith, length_head r n h l)))

-- the whole reply

info-length : (r : Rec) (us : List ℕ) → length r ≡ size Groups → name_length r ≤ longest_name
    → length (ok.0 ∷ info r us) ≡ name_length r + 2 + 2 + 3 * length us
info-length r us h l = omega (arith, length-info r us, name_length_lem r h l)

pub info-counted : (r : Rec) (g : GroupAddress) (t : List ℕ) {n : ℕ} → length r ≡ size Groups → name_length r ≤ longest_name
    → n ≡ length (ordered (members_but None g (table Members t)))
    → name_length r + 2 + 2 + 3 * n ≡ length (ok.0 ∷ info r (ordered (members_of (table Members t) g)))
info-counted r g t {n} h l c = rw (c, all-members g (table Members t)) (sym (info-length r (ordered (members_of (table Members t) g)) h l))

-- the members behind, the rest before them
pub info-written : (r : Rec) (g : GroupAddress) (t old part : List ℕ) {n : ℕ} → length r ≡ size Groups → name_length r ≤ longest_name
    → name_length r + 2 + 2 ≤ length old → n ≡ length (ordered (members_but None g (table Members t)))
    → part ≡ over (unit_octets (ordered (members_but None g (table Members t)))) (drop (name_length r + 2 + 2) old)
    → over (ok.0 ∷ info_head r n) (put_mid (name_length r + 2 + 2) (length old - (name_length r + 2 + 2)) old part)
    ≡ over (ok.0 ∷ info r (ordered (members_of (table Members t) g))) old
unfolding info
info-written r g t old part {n} h l m c p =
    let us : List ℕ = ordered (members_of (table Members t) g) in
    let head : List ℕ = ok.0 ∷ info_head r (length us) in
    rw (c, all-members g (table Members t))
    (behind (name_length r + 2 + 2) head (unit_octets us) old part (length_head r (length us) h l) m (rw (all-members g (table Members t)) at p))
