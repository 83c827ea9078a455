-- `group_commands::add_to_group` meets its contract: the field rules, then the addition.
use Rattle.words.specs.Basics.{sym, ◌∙◌}
use Rattle.rules.proofs.Lists.{ask_pass, ask_fail}
use Rattle.changing.proofs.Changed.{refuses}
use Rattle.group_commands.proofs.add_to_group.Goals as goal

pub returns-then-not-member_fits : goal.returns-then-not-member_fits
returns-then-not-member_fits c =
    rw (← c.member_of-member.ensures)
    (refuses _ _ c.invalid_argument.ensures (ask_fail _ _ (sym c.member_fits.ensures ∙ c.if-not-member_fits.true)))

pub returns : goal.returns
returns c =
    rw (← c.member_of-member.ensures, ask_pass _ _ (sym c.member_fits.ensures ∙ c.if-not-member_fits.false)) c.add.ensures
