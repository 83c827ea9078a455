-- `hosting::release` meets its contract: on sound tables the device is dismissed.
use Rattle.words.specs.Basics.{ap, not}
use Rattle.rules.specs.Types.{Devices, Binds, Members, Sessions}
use Rattle.rules.specs.Frame.{lent}
use Rattle.hosting.proofs.Hosting.{whole-table, release-unsound, release-sound}
use Rattle.hosting.proofs.release.Goals as goal

pub returns-then-not-sound : goal.returns-then-not-sound
returns-then-not-sound c = release-unsound _ _ c.sound.ensures (ap not c.if-not-sound.true)

-- tables that are sound are whole records
pub dismiss-requires : goal.dismiss-requires
dismiss-requires c =
    let L = lent c.args.devices.now c.args.binds.now c.args.groups.now c.args.members.now c.args.sessions.now in
    let whole = whole-table L c.sound.ensures (ap not c.if-not-sound.false) in
    (whole Devices, whole Binds, whole Members, whole Sessions)

pub returns : goal.returns
returns c = rw (c.dismiss.ensures c.args.groups.now) (release-sound _ _ c.sound.ensures (ap not c.if-not-sound.false))
