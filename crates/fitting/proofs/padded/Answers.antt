-- What `padded` returns: past the name the octets are 0x00, where there are any.
use Rattle.fitting.proofs.Fields.{padding_none, padding_rest}
use Rattle.fitting.proofs.padded.Goals as goal

pub returns-then-rec-end : goal.returns-then-rec-end
returns-then-rec-end c = padding_none c.args.rec.now c.if-rec-end.true

pub returns : goal.returns
returns c = padding_rest c.args.rec.now c.all_at.ensures
