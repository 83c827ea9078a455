-- `creating::creation` meets its contract: one check after the other.
use Rattle.words.specs.Basics.{sym, ◌∙◌}
use Rattle.creating.proofs.Created.{name_too_long, no_group-room, creatable}
use Rattle.creating.proofs.creation.Goals as goal

pub returns-then-payload-gt-LONGEST_NAME : goal.returns-then-payload-gt-LONGEST_NAME
returns-then-payload-gt-LONGEST_NAME c = c.not_enough_resources.ensures ∙ name_too_long _ _ c.if-payload-gt-LONGEST_NAME.true

pub returns-then-not-has_room : goal.returns-then-not-has_room
returns-then-not-has_room c =
    c.not_enough_resources-then-not-has_room.ensures
    ∙ no_group-room _ _ c.if-payload-gt-LONGEST_NAME.false (sym c.has_room.ensures ∙ c.if-not-has_room.true)

pub returns : goal.returns
returns c = c.ok.ensures ∙ creatable _ _ c.if-payload-gt-LONGEST_NAME.false (sym c.has_room.ensures ∙ c.if-not-has_room.false)
