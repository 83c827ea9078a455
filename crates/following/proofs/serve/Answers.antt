-- `following::serve` meets its contract: the payload behind the header, then the header.
use borrow.Rule.Slice.PartMut.{same_len_mid}
use Rattle.words.specs.Basics.{◌+◌, ◌≤◌, arith}
use Rattle.words.specs.Names.{header_length, longest}
use Rattle.following.proofs.Acts.{performed_short, serves}
use Rattle.following.proofs.serve.Goals as goal

pub write_header-requires : goal.write_header-requires
write_header-requires c =
    let short : header_length + c.perform-done.result.length ≤ longest = performed_short _ c.args.command c.args.f c.args.payload.now c.args.reply.now
    c.requires.room c.perform-done.auto.out c.perform-done.ensures.performed in (
      rw (same_len_mid header_length _ c.args.reply.now _ c.perform-done.auto.out) (omega (arith, c.requires.room)),
      omega arith,
      c.requires.request,
    )

pub overflow_add-result : goal.overflow_add-result
overflow_add-result c =
    let short : header_length + c.perform-done.result.length ≤ longest = performed_short _ c.args.command c.args.f c.args.payload.now c.args.reply.now
    c.requires.room c.perform-done.auto.out c.perform-done.ensures.performed in
    omega arith

pub returns-clause-serves : goal.returns-clause-serves
returns-clause-serves c =
    rw c.write_header.ensures
    (serves _ c.args.command c.args.f c.args.payload.now c.args.reply.now c.requires.room c.perform-done.auto.out c.perform-done.ensures.performed
    c.perform-done.ensures.reason)
