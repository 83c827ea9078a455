-- `hosting::admission` meets its contract: one check after the other. What each check came to is found among the facts, whatever their order.
use Rattle.hosting.proofs.Hosting.{out_of_range, already_there, no_room, is_new}
use Rattle.hosting.proofs.admission.Goals as goal

pub returns-then-not-fits : goal.returns-then-not-fits
returns-then-not-fits c = out_of_range _ _ _ _ (cc)

pub returns-then-there : goal.returns-then-there
returns-then-there c = already_there _ _ _ _ (cc) (cc)

pub returns-then-not-room : goal.returns-then-not-room
returns-then-not-room c = no_room _ _ _ _ (cc) (cc) (cc)

pub returns : goal.returns
returns c = is_new _ _ _ _ (cc) (cc) (cc)
