-- What `fits` returns: each table has its own rule.
use Rattle.words.specs.Basics.{ap, ◌∙◌}
use Rattle.rules.specs.Types.{Binds, Members}
use Rattle.rules.specs.Layout.{size}
use Rattle.rules.specs.Sound.{fits}
use Rattle.layouts.proofs.Copied.{whole-record}
use Rattle.fitting.proofs.fits.Goals as goal

pub returns-in-Devices : goal.returns-in-Devices
unfolding fits
returns-in-Devices c = rw c.in-Devices.is c.device_fits.ensures

pub returns-in-Binds : goal.returns-in-Binds
unfolding fits
returns-in-Binds c =
    let whole = whole-record (size Binds) c.args.rec.now (c.requires ∙ ap size c.in-Binds.is) in
    rw c.in-Binds.is (c.bind_fits.ensures ∙ rw (c.bind_at.ensures, whole))

pub returns-in-Groups : goal.returns-in-Groups
unfolding fits
returns-in-Groups c = rw c.in-Groups.is c.group_fits.ensures

pub returns-in-Members : goal.returns-in-Members
unfolding fits
returns-in-Members c =
    let whole = whole-record (size Members) c.args.rec.now (c.requires ∙ ap size c.in-Members.is) in
    rw c.in-Members.is (c.member_fits.ensures ∙ rw (c.member_at.ensures, whole))

pub returns-in-Sessions : goal.returns-in-Sessions
unfolding fits
returns-in-Sessions c = rw c.in-Sessions.is c.session_fits.ensures
