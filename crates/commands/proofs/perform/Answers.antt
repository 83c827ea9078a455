-- `commands::perform` meets its contract: rights, then length and fault, then the command itself, and sessions closed behind it.
use Rattle.words.specs.Basics.{sym, ap, ◌∙◌, arith}
use Rattle.words.specs.Names.{not_authorized, invalid_argument}
use Rattle.words.specs.Reasons.{fault_in}
use Rattle.rules.specs.Frame.{Lent, also}
use Rattle.rules.proofs.Frames.{replaced}
use Rattle.lent.specs.Held.{viewed}
use Rattle.acting.specs.Acting.{acting}
use Rattle.acting.proofs.Sizes.{whole-sessions}
use Rattle.commands.proofs.Checks.{refused, without-rights, wrong-length, faulty, behind_checks, told-nothing, told-fault, told_no_fault, err_is}
use Rattle.commands.proofs.Closing.{closes_too}
use Rattle.commands.proofs.perform.Goals as goal

pub returns-then-not-rights_fit-clause-performed : goal.returns-then-not-rights_fit-clause-performed
returns-then-not-rights_fit-clause-performed c =
    let B = viewed c.view-given.result in
    let judged = without-rights B _ c.args.command c.args.payload.now c.demands-asked.ensures.rights c.rights_fit.ensures c.if-not-rights_fit.true in
    rw (← c.view-given.ensures, c.refuse.ensures.0, c.refuse.ensures.2, c.not_authorized.ensures, judged) (refused B _ _ _ _ not_authorized (λ z. omega arith))

pub returns-then-not-rights_fit-clause-reason : goal.returns-then-not-rights_fit-clause-reason
returns-then-not-rights_fit-clause-reason c =
    let B = viewed c.view-given.result in
    rw (← c.view-given.ensures)
    (c.refuse.ensures.1 ∙ told-nothing _ _ _ (without-rights B c.args.source c.args.command c.args.payload.now c.demands-asked.ensures.rights c.rights_fit.ensures c.if-not-rights_fit.true))

pub returns-then-payload-asked-clause-performed : goal.returns-then-payload-asked-clause-performed
returns-then-payload-asked-clause-performed c =
    let B = viewed c.view-given.result in
    let d = c.demands-asked.ensures in
    let w = c.refuse-then-payload-asked.ensures in
    let judged = wrong-length B _ _ _ d.rights c.rights_fit.ensures c.if-not-rights_fit.false d.length c.if-payload-asked.true in
    rw (← c.view-given.ensures, w.0, w.2, c.invalid_argument.ensures, judged) (refused B _ _ _ _ invalid_argument (λ z. omega arith))

pub returns-then-payload-asked-clause-reason : goal.returns-then-payload-asked-clause-reason
returns-then-payload-asked-clause-reason c =
    let B = viewed c.view-given.result in
    let d = c.demands-asked.ensures in
    let judged = wrong-length B c.args.source _ _ d.rights c.rights_fit.ensures c.if-not-rights_fit.false d.length c.if-payload-asked.true in
    rw (← c.view-given.ensures) (c.refuse-then-payload-asked.ensures.1 ∙ c.err.ensures.value ∙ told-fault _ _ _ (err_is _ ∙ c.fault_of-fault.ensures) judged)

pub returns-in-Err-clause-performed : goal.returns-in-Err-clause-performed
returns-in-Err-clause-performed c =
    let B = viewed c.view-given.result in
    let d = c.demands-asked.ensures in
    let w = c.refuse-in-Err.ensures in
    let judged = faulty B _ _ _ d.rights c.rights_fit.ensures c.if-not-rights_fit.false d.length c.if-payload-asked.false c.fault_of-fault.ensures
    (ap fault_in c.in-Err.is) in
    rw (← c.view-given.ensures, w.0, w.2, c.invalid_argument-in-Err.ensures, judged) (refused B _ _ _ _ invalid_argument (λ z. omega arith))

pub returns-in-Err-clause-reason : goal.returns-in-Err-clause-reason
returns-in-Err-clause-reason c =
    let B = viewed c.view-given.result in
    let d = c.demands-asked.ensures in
    let judged = faulty B c.args.source _ _ d.rights c.rights_fit.ensures c.if-not-rights_fit.false d.length c.if-payload-asked.false c.fault_of-fault.ensures
    (ap fault_in c.in-Err.is) in
    rw (← c.view-given.ensures) (c.refuse-in-Err.ensures.1 ∙ told-fault _ _ _ (sym (ap fault_in c.in-Err.is) ∙ c.fault_of-fault.ensures) judged)

pub close_all-requires : goal.close_all-requires
close_all-requires c = rw c.act-length.ensures.same.sessions.1 (whole-sessions _ _ _ _ _ c.requires.0)

pub returns-clause-performed : goal.returns-clause-performed
unfolding replaced also
returns-clause-performed c =
    let B = viewed c.view-given.result in
    let d = c.demands-asked.ensures in
    let judged = behind_checks B _ _ _ d.rights c.rights_fit.ensures c.if-not-rights_fit.false d.length c.if-payload-asked.false c.fault_of-fault.ensures (ap fault_in c.in_default.is) in
    rw (← c.view-given.ensures)
    (closes_too B _ _ _ _ judged c.touches-touching.ensures
    (c.act-length.ensures.acts ∙ ap (λ (L : Lent). acting L c.args.source c.args.command c.args.payload.now c.args.out.now) (sym c.view-given.ensures))
    c.close_all.ensures)

pub returns-clause-reason : goal.returns-clause-reason
returns-clause-reason c = rw (← c.view-given.ensures) (told_no_fault _ _ _ _ c.fault_of-fault.ensures (ap fault_in c.in_default.is))
