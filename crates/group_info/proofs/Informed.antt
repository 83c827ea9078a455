-- Get Group Info lists every member, and there are no more of them than records.
use Rattle.std.specs.Prelude.{None}
use Rattle.words.specs.Basics.{◌≡◌, refl, ap, true, List, [], ◌∷◌, ℕ, ◌≤◌, length}
use Rattle.rules.specs.Types.{GroupAddress, Members}
use Rattle.rules.specs.Lists.{keep}
use Rattle.rules.specs.Units.{ordered}
use Rattle.rules.specs.Tables.{Rec}
use Rattle.rules.specs.Layout.{most, full}
use Rattle.rules.specs.Frame.{table}
use Rattle.rules.specs.Recipients.{members_of}
use Rattle.rules.proofs.Counts.{few-members}
use Rattle.collecting.specs.Leaving.{leaving, members_but}

-- nobody is left out

keep_every : (us : List ℕ) → keep (λ u. true) us ≡ us
unfolding keep
keep_every [] = refl
keep_every (u ∷ us) = ap (λ (s : List ℕ). u ∷ s) (keep_every us)

pub all-members : (g : GroupAddress) (ms : List Rec) → members_but None g ms ≡ members_of ms g
unfolding members_but leaving
all-members g ms = keep_every (members_of ms g)

-- there are no more members than records
pub few-listed : (g : GroupAddress) (t : List ℕ) {n : ℕ} → n ≡ length (ordered (members_but None g (table Members t)))
    → length t ≤ full Members → n ≤ most Members
few-listed g t e h = rw (e, all-members g (table Members t)) (few-members g t h)
