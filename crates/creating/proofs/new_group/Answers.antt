-- `creating::new_group` meets its contract: of the addresses from here on it finds what it would find from the first.
use Rattle.words.specs.Basics.{sym, ◌∙◌, arith}
use Rattle.creating.proofs.Smallest.{numbering_start, numbering_more, numbering_hit, numbering_end}
use Rattle.creating.proofs.new_group.Goals as goal

pub loop-address-init : goal.loop-address-init
loop-address-init c = numbering_start c.args.groups.now

pub returns-then-not-group_exists : goal.returns-then-not-group_exists
returns-then-not-group_exists c =
    numbering_hit c.loop-address.invariant c.loop-address-test.true (sym c.group_exists.ensures ∙ c.if-not-group_exists.true)

pub loop-address-preserved : goal.loop-address-preserved
loop-address-preserved c =
    numbering_more c.loop-address.invariant c.loop-address-test.true (sym c.group_exists.ensures ∙ c.if-not-group_exists.false)

pub returns : goal.returns
returns c = numbering_end c.loop-address.invariant c.loop-address-test.false (omega (arith, c.loop-address.auto.address-end))
