-- `writing::Text::write_decimal` meets its contract. One, two or three digits, as the tests say.
use Rattle.words.specs.Basics.{arith}
use Rattle.writing.proofs.Decimal.{one-digit, two_digits, three-digits}
use Rattle.writing.proofs.Text.write_decimal.Goals as goal

pub returns-then-n-lt10 : goal.returns-then-n-lt10
returns-then-n-lt10 c = rw (one-digit c.args.n (omega arith), ← c.digit-last.ensures) c.write_run.ensures

pub returns-then-n-lt100 : goal.returns-then-n-lt100
returns-then-n-lt100 c =
    rw (two_digits c.args.n (omega arith) (omega arith), ← c.digit-tens.ensures, ← c.digit-last.ensures) c.write_run-then-n-lt100.ensures

pub returns-else-n-lt100 : goal.returns-else-n-lt100
returns-else-n-lt100 c =
    rw (three-digits c.args.n (omega arith) (omega arith), ← c.digit.ensures, ← c.digit-tens.ensures, ← c.digit-last.ensures)
    c.write_run-else-n-lt100.ensures
