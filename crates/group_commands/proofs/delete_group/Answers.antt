-- `group_commands::delete_group` meets its contract: all goes with a group that exists, and nothing without.
use Rattle.words.specs.Basics.{sym}
use Rattle.group_commands.proofs.Grouped.{no_group, group-gone}
use Rattle.group_commands.proofs.delete_group.Goals as goal

pub returns-then-not-group_exists : goal.returns-then-not-group_exists
returns-then-not-group_exists c =
    rw (c.invalid_argument.ensures, ← c.group_named-group.ensures.0) (no_group _ _ _ _ (sym c.if-not-group_exists.ensures))

pub returns : goal.returns
returns c = rw (c.ok.ensures, ← c.group_named-group.ensures.0) (group-gone _ _ _ _ (sym c.if-not-group_exists.ensures) c.free_group.ensures)
