-- `hosting::admit` meets its contract: the record is stored where nothing is refused, and only there.
use Rattle.std.specs.Prelude.{Err}
use Rattle.std.proofs.Common.{rules}
use Rattle.words.specs.Basics.{◌≡◌, ap, not, arith}
use Rattle.rules.specs.Types.{Devices}
use Rattle.rules.specs.Frame.{also}
use Rattle.rules.proofs.Frames.{replaced}
use Rattle.hosting.proofs.Hosting.{whole-table, admit-unsound, admit-refused, admit-done}
use Rattle.hosting.proofs.admit.Goals as goal

pub returns-then-not-sound : goal.returns-then-not-sound
returns-then-not-sound c = admit-unsound _ c.sound.ensures _ _ _ (ap not c.if-not-sound.true)

pub returns-in_err-admission : goal.returns-in_err-admission
returns-in_err-admission c =
    let r : c.from_residual.result ≡ Err c.in_err-admission.field-0.0 = search rules in
    rw r (admit-refused _ c.sound.ensures _ _ _ (ap not c.if-not-sound.false) c.in_err-admission.ensures)

pub store-requires : goal.store-requires
store-requires c = (omega arith, whole-table _ c.sound.ensures (ap not c.if-not-sound.false) Devices, search rules)

pub returns : goal.returns
unfolding replaced also
returns c =
    admit-done _ c.sound.ensures _ _ _ (ap not c.if-not-sound.false) c.in_ok-admission.ensures c.device_record-record.ensures c.store.ensures
