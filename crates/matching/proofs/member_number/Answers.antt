-- `matching::member_number` meets its contract. Device and unit make the member's number.
use Rattle.words.specs.Basics.{◌∙◌}
use Rattle.layouts.proofs.Copied.{whole-record}
use Rattle.rules.specs.Units.{unit_at}
use Rattle.matching.proofs.member_number.Goals as goal

pub returns : goal.returns
unfolding unit_at
returns c =
    let m = whole-record _ _ c.requires in
    (c.unit_number.ensures.0 ∙ rw (c.member_device.ensures, c.member_unit.ensures, c.member_at-member.ensures, m), c.unit_number.ensures.1)
