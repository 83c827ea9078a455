-- `acting::act` meets its contract: each arm knows its command, and its handler's answer is the command's.
use Rattle.rules.specs.Frame.{also}
use Rattle.rules.proofs.Frames.{replaced}
use Rattle.acting.proofs.Acts.{arms}
use Rattle.acting.proofs.act.Goals as goal

pub add_bind-code-requires : goal.add_bind-code-requires
add_bind-code-requires c = search arms

pub remove_binds-code-requires : goal.remove_binds-code-requires
remove_binds-code-requires c = search arms

pub start-requires : goal.start-requires
start-requires c = search arms

pub end-code-requires : goal.end-code-requires
end-code-requires c = search arms

pub create-requires : goal.create-requires
create-requires c = search arms

pub delete_group-code-requires : goal.delete_group-code-requires
delete_group-code-requires c = search arms

pub add_to_group-code-requires : goal.add_to_group-code-requires
add_to_group-code-requires c = search arms

pub remove_from_group-code-requires : goal.remove_from_group-code-requires
remove_from_group-code-requires c = search arms

pub get_group_info-requires : goal.get_group_info-requires
get_group_info-requires c = search arms

pub returns-in-AddBind : goal.returns-in-AddBind
unfolding replaced also
returns-in-AddBind c = search arms

pub returns-in-RemoveBinds : goal.returns-in-RemoveBinds
unfolding replaced also
returns-in-RemoveBinds c = search arms

pub returns-in-StartSession : goal.returns-in-StartSession
unfolding replaced also
returns-in-StartSession c = search arms

pub returns-in-EndSession : goal.returns-in-EndSession
unfolding replaced also
returns-in-EndSession c = search arms

pub returns-in-GetEntries : goal.returns-in-GetEntries
unfolding replaced also
returns-in-GetEntries c = search arms

pub returns-in-CreateGroup : goal.returns-in-CreateGroup
unfolding replaced also
returns-in-CreateGroup c = search arms

pub returns-in-DeleteGroup : goal.returns-in-DeleteGroup
unfolding replaced also
returns-in-DeleteGroup c = search arms

pub returns-in-AddToGroup : goal.returns-in-AddToGroup
unfolding replaced also
returns-in-AddToGroup c = search arms

pub returns-in-RemoveFromGroup : goal.returns-in-RemoveFromGroup
unfolding replaced also
returns-in-RemoveFromGroup c = search arms

pub returns-in-GetGroupInfo : goal.returns-in-GetGroupInfo
unfolding replaced also
returns-in-GetGroupInfo c = search arms
