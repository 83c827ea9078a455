-- `nearby::take_near` meets its contract. The two runs are what is near.
use Rattle.std.proofs.Common.{rules}
use Rattle.rules.specs.Types.{Members}
use Rattle.rules.specs.Frame.{table}
use Rattle.collecting.specs.Leaving.{bound_but}
use Rattle.collecting.proofs.Collecting.{bound_additive, bound-none}
use Rattle.nearby.specs.Running.{near_but}
use Rattle.nearby.proofs.Running.{standing-named}
use Rattle.nearby.proofs.Near.{own_enough, any_enough, both_taken}
use Rattle.nearby.proofs.take_near.Goals as goal

pub take_run-r-requires : goal.take_run-r-requires
unfolding near_but
take_run-r-requires c =
    let F = bound_but c.args.except c.args.f (table Members c.args.members.now) in (
      standing-named c.requires.0 c.run_of-own.ensures,
      own_enough F (bound_additive _ _ _) c.args.f c.run_of-own.ensures c.run_of-any.ensures c.none.ensures
          (λ i. search rules) c.requires.1,
    )

pub take_run-requires : goal.take_run-requires
unfolding near_but
take_run-requires c =
    let F = bound_but c.args.except c.args.f (table Members c.args.members.now) in (
      standing-named c.requires.0 c.run_of-any.ensures,
      any_enough F (bound_additive _ _ _) c.args.f c.run_of-own.ensures c.run_of-any.ensures c.none.ensures
          (λ i. search rules) c.requires.1 c.take_run-r.auto.list c.take_run-r.ensures,
    )

pub returns : goal.returns
unfolding near_but
returns c =
    let F = bound_but c.args.except c.args.f (table Members c.args.members.now) in
    both_taken F (bound_additive _ _ _) c.args.f c.run_of-own.ensures c.run_of-any.ensures c.none.ensures
    (λ i. search rules) c.requires.1 c.take_run-r.auto.list c.take_run-r.ensures (bound-none _ _ _)
    c.take_run.auto.list c.take_run.ensures
