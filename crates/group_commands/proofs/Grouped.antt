-- Laws of Delete Group, by what was found.
use Rattle.words.specs.Basics.{◌≡◌, Bool, true, false, List, ℕ}
use Rattle.words.specs.Names.{flag_set, ok, invalid_argument}
use Rattle.words.specs.declared.BindPart.TheVariants.{Destination}
use Rattle.rules.specs.Types.{GroupAddress, Binds, Groups, Members}
use Rattle.rules.specs.Lists.{any, ask}
use Rattle.rules.specs.Octets.{octets, joined}
use Rattle.rules.specs.Tables.{Rec, used, matches, addressed, wipe, written}
use Rattle.rules.specs.Layout.{size, part_start, part_is, to_this_group, in_group}
use Rattle.rules.specs.Frame.{table}
use Rattle.rules.specs.Exists.{group_exists}
use Rattle.rules.specs.Commands.{naming, on_ok}
use Rattle.group_commands.specs.Grouping.{deleted, deleting}

-- Delete Group: a group and its members are found by its address, the binds to it by its flag and address

pub address_freed : (k a : ℕ) (t : List ℕ) {w t' : List ℕ} → w ≡ octets a → t' ≡ written k (wipe (matches 0 w)) t → t' ≡ written k (wipe (addressed a)) t
unfolding addressed
address_freed k a t e h = rw e at h

pub binds_freed : (g : GroupAddress) (t : List ℕ) {w t' : List ℕ} → w ≡ octets (joined flag_set g.0)
    → t' ≡ written (size Binds) (wipe (matches (part_start Destination) w)) t → t' ≡ written (size Binds) (wipe (to_this_group g)) t
unfolding part_is
binds_freed g t e h = rw e at h

pub bound_found : (g : GroupAddress) (t : List Rec) {w : List ℕ} {b : Bool} → w ≡ octets (joined flag_set g.0)
    → b ≡ any (matches (part_start Destination) w) (used t) → b ≡ any (to_this_group g) (used t)
unfolding part_is
bound_found g t e h = rw e at h

-- .. by what was found

pub no_group : (g : GroupAddress) (bs gs ms : List ℕ) → group_exists (table Groups gs) g ≡ false → deleted invalid_argument bs gs ms ≡ deleting g bs gs ms
unfolding deleting naming ask on_ok
no_group g bs gs ms h = rw h

pub group-gone : (g : GroupAddress) (bs gs ms : List ℕ) {bs' gs' ms' : List ℕ} → group_exists (table Groups gs) g ≡ true
    → (bs' ≡ written (size Binds) (wipe (to_this_group g)) bs) × (gs' ≡ written (size Groups) (wipe (addressed g.0)) gs)
    × (ms' ≡ written (size Members) (wipe (in_group g)) ms)
    → deleted ok bs' gs' ms' ≡ deleting g bs gs ms
unfolding deleting naming ask on_ok
group-gone g bs gs ms h f = rw (h, f.0, f.1, f.2)
