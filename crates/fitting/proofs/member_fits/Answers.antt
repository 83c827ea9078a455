-- What `member_fits` returns, by the definition.
use Rattle.rules.specs.Lists.{◌&◌}
use Rattle.rules.specs.Sound.{member_fits}
use Rattle.fitting.proofs.member_fits.Goals as goal

pub returns : goal.returns
unfolding member_fits ◌&◌
returns c =
    rw (
      c.group_exists-group_there.ensures,
      c.member_group.ensures,
      c.unit_exists-unit_there.ensures,
      c.member_device-device.ensures,
      c.member_unit.ensures,
    )
