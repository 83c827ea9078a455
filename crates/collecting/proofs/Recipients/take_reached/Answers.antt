-- `collecting::Recipients::take_reached` meets its contract. The flag tells a group's members from the unit that is named.
use Rattle.std.proofs.Common.{rules}
use Rattle.rules.specs.Types.{Members}
use Rattle.rules.specs.Frame.{table}
use Rattle.collecting.proofs.Collecting.{bound_small, reached-group, reached_unit}
use Rattle.collecting.proofs.Recipients.take_reached.Goals as goal

pub take_members-requires : goal.take_members-requires
take_members-requires c =
    rw (reached-group c.args.except (table Members c.args.members.now) c.args.bind c.to_group.ensures (search rules) c.bound_group.ensures)
    at c.requires

pub returns-then-to_group : goal.returns-then-to_group
returns-then-to_group c =
    rw (reached-group c.args.except (table Members c.args.members.now) c.args.bind c.to_group.ensures (search rules) c.bound_group.ensures)
    c.take_members.ensures

pub take_unless-requires : goal.take_unless-requires
take_unless-requires c = (
  bound_small c.args.bind (λ j. search rules) c.bind_to.ensures,
  rw (reached_unit c.args.except (table Members c.args.members.now) c.args.bind c.to_group.ensures (search rules) c.bind_to.ensures)
      at c.requires,
)

pub returns : goal.returns
returns c =
    rw (reached_unit c.args.except (table Members c.args.members.now) c.args.bind c.to_group.ensures (search rules) c.bind_to.ensures)
    c.take_unless.ensures
