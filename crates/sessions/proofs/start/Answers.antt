-- `sessions::start` meets its contract: the session, and the number of binds behind 0x00.
use Rattle.words.specs.Basics.{arith}
use Rattle.sessions.proofs.Opened.{starts, few-binds}
use Rattle.sessions.proofs.start.Goals as goal

pub overflow_cast-count : goal.overflow_cast-count
overflow_cast-count c = omega (arith, few-binds c.args.binds.now c.requires.0 c.number_of_binds-count.ensures)

pub returns : goal.returns
returns c = starts _ _ _ _ c.open-code.ensures c.number_of_binds-count.ensures c.write_word.ensures
