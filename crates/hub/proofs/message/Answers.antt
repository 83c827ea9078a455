-- `hub::message` meets its contract: each check that fails is the answer, and each way's part gives it.
use Rattle.std.specs.Prelude.{Ok}
use Rattle.std.proofs.lemmas.Result.{err_from_is_err_and}
use Rattle.words.specs.Basics.{refl, ap, ◌≤◌, arith, length}
use Rattle.words.specs.Names.{header_length}
use Rattle.rules.specs.Frame.{Lent}
use Rattle.hub.proofs.Acts.{not-lent, not-read, way-decided, refuses, has-header, servable, handled-whole, listable, forwarded-whole}
use Rattle.hub.proofs.message.Goals as goal

pub returns-in_err-lending-clause-message : goal.returns-in_err-lending-clause-message
returns-in_err-lending-clause-message c =
    let p = err_from_is_err_and c.from_residual.result c.from_residual.ensures.1 in
    rw (p.1, p.2) (refuses _ _ _ _ (not-lent _ c.args.msg.now _ _ (rw c.view.ensures at c.in_err-lending.ensures)) refl)

pub returns-in_err-f-clause-message : goal.returns-in_err-f-clause-message
returns-in_err-f-clause-message c =
    let p = err_from_is_err_and c.from_residual-in_err-f.result c.from_residual-in_err-f.ensures.1 in
    rw (p.1, p.2) (refuses _ _ _ _ (not-read _ c.args.msg.now _ _ (rw c.view.ensures at c.in_ok-lending.ensures) c.in_err-f.ensures) refl)

pub returns-in_err-way-clause-message : goal.returns-in_err-way-clause-message
returns-in_err-way-clause-message c =
    let p = err_from_is_err_and c.from_residual-in_err-way.result c.from_residual-in_err-way.ensures.1 in
    rw (p.1, p.2) (refuses _ _ _ _
    (way-decided _ c.args.msg.now _ _ (rw c.view.ensures at c.in_ok-lending.ensures) c.in_ok-f.ensures (rw (ap (λ (L : Lent). L.devices) c.view-given.ensures, ap (λ (L : Lent). L.groups) c.view-given.ensures) at c.in_err-way.ensures)) refl)

pub slice_bounds-serve-count : goal.slice_bounds-serve-count
slice_bounds-serve-count c = has-header _ _ _ _ (way-decided _ c.args.msg.now _ _ (rw c.view.ensures at c.in_ok-lending.ensures) c.in_ok-f.ensures
    (rw (ap (λ (L : Lent). L.devices) c.view-given.ensures, ap (λ (L : Lent). L.groups) c.view-given.ensures) at c.in_ok-way.ensures)) (ap Ok c.in-Serve.is)

pub slice_bounds-serve-start : goal.slice_bounds-serve-start
slice_bounds-serve-start c =
    let h : header_length ≤ length c.args.msg.now = has-header _ _ _ _ (way-decided _ c.args.msg.now _ _ (rw c.view.ensures at c.in_ok-lending.ensures) c.in_ok-f.ensures
    (rw (ap (λ (L : Lent). L.devices) c.view-given.ensures, ap (λ (L : Lent). L.groups) c.view-given.ensures) at c.in_ok-way.ensures)) (ap Ok c.in-Serve.is) in
    omega arith

pub serve-requires : goal.serve-requires
serve-requires c = servable _ _ _ _ (way-decided _ c.args.msg.now _ _ (rw c.view.ensures at c.in_ok-lending.ensures) c.in_ok-f.ensures
    (rw (ap (λ (L : Lent). L.devices) c.view-given.ensures, ap (λ (L : Lent). L.groups) c.view-given.ensures) at c.in_ok-way.ensures)) (ap Ok c.in-Serve.is) c.in_ok-f.ensures

pub forward-requires : goal.forward-requires
forward-requires c =
    rw (ap (λ (L : Lent). L.binds) c.view-given.ensures, ap (λ (L : Lent). L.members) c.view-given.ensures)
    (listable _ _ _ _ (way-decided _ c.args.msg.now _ _ (rw c.view.ensures at c.in_ok-lending.ensures) c.in_ok-f.ensures
    (rw (ap (λ (L : Lent). L.devices) c.view-given.ensures, ap (λ (L : Lent). L.groups) c.view-given.ensures) at c.in_ok-way.ensures)) (ap Ok c.in-Forward.is))

pub returns-in-Serve-clause-message : goal.returns-in-Serve-clause-message
returns-in-Serve-clause-message c = handled-whole _ _ _ _ (way-decided _ c.args.msg.now _ _ (rw c.view.ensures at c.in_ok-lending.ensures) c.in_ok-f.ensures
    (rw (ap (λ (L : Lent). L.devices) c.view-given.ensures, ap (λ (L : Lent). L.groups) c.view-given.ensures) at c.in_ok-way.ensures)) (ap Ok c.in-Serve.is) c.in_ok-f.ensures c.serve.ensures.serves

pub returns-in-Forward-clause-message : goal.returns-in-Forward-clause-message
returns-in-Forward-clause-message c =
    forwarded-whole _ _ _ _ (way-decided _ c.args.msg.now _ _ (rw c.view.ensures at c.in_ok-lending.ensures) c.in_ok-f.ensures
    (rw (ap (λ (L : Lent). L.devices) c.view-given.ensures, ap (λ (L : Lent). L.groups) c.view-given.ensures) at c.in_ok-way.ensures)) (ap Ok c.in-Forward.is) c.in_ok-f.ensures
    (rw (ap (λ (L : Lent). L.binds) c.view-given.ensures, ap (λ (L : Lent). L.members) c.view-given.ensures) at c.forward.ensures)
