-- `links::main` is safe and ends: what is printed is within the text.
use Rattle.std.proofs.Common.{sym, length-take-le}
use Rattle.writing.proofs.Pieces.{printed-within}
use Rattle.links.proofs.main.Goals as goal

-- the text, and the words of a reason

pub slice_bounds-text-end : goal.slice_bounds-text-end
slice_bounds-text-end c = printed-within _ _ c.print-answer.ensures.0 c.print-answer.auto.text

pub slice_bounds-write_all-end : goal.slice_bounds-write_all-end
slice_bounds-write_all-end c = sym (length-take-le _ _ (printed-within _ _ c.print-answer.ensures.0 c.print-answer.auto.text))

pub slice_bounds-words-end : goal.slice_bounds-words-end
slice_bounds-words-end c = printed-within _ _ c.write_reason-said.ensures c.write_reason-said.auto.text

pub slice_bounds-write_all-end-2 : goal.slice_bounds-write_all-end-2
slice_bounds-write_all-end-2 c = sym (length-take-le _ _ (printed-within _ _ c.write_reason-said.ensures c.write_reason-said.auto.text))
