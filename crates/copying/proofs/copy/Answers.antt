-- `copying::copy` meets its contract. The message can be read or not; then the copy fits or does not.
use Rattle.std.proofs.lemmas.Result.{err_from_is_err_and}
use Rattle.messages.proofs.Reading.{read-long}
use Rattle.copying.proofs.Copies.{copy-refused, copy_unfit, copy_done, copy-room}
use Rattle.copying.proofs.copy.Goals as goal

pub returns-in_err-read : goal.returns-in_err-read
returns-in_err-read c =
    let p = err_from_is_err_and c.from_residual.result c.from_residual.ensures.1 in
    rw (p.1, p.2) (copy-refused _ _ _ _ c.in_err-read.ensures)

pub returns-then-not-copy_fits : goal.returns-then-not-copy_fits
returns-then-not-copy_fits c = copy_unfit _ _ _ _ c.in_ok-read.ensures c.copy_fits.ensures c.if-not-copy_fits.true

pub write_copy-requires : goal.write_copy-requires
write_copy-requires c = (read-long _ c.in_ok-read.ensures, copy-room _ _ _ _ c.copy_fits.ensures c.if-not-copy_fits.false)

pub returns : goal.returns
returns c = rw c.write_copy.ensures (copy_done _ _ _ _ c.in_ok-read.ensures c.copy_fits.ensures c.if-not-copy_fits.false)
