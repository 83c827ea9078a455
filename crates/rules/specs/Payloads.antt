-- Which message is which command (document 01, Commands and codes; document 000, 6.2.5 and 6.3.5), and what its payload says.
use Rattle.std.specs.Prelude.{cond, List, ◌++◌, ℕ, eqb, leb, take, drop, Option, None, Some}
use Rattle.words.specs.Names.{group, command_type, asking_type, flag_set, bind_management, group_management, add_bind, remove_bind, remove_by_source, remove_by_source_unit}
use Rattle.words.specs.Names.{remove_by_destination, remove_by_destination_unit, start_session, end_session, get_by_index, get_by_source, get_by_source_unit}
use Rattle.words.specs.Names.{get_by_destination, get_by_destination_unit, create_group, delete_group, add_to_group, remove_from_group, get_group_info}
use Rattle.words.specs.declared.BindPart.TheVariants.{Whole, Source, SourceUnit, Destination, DestinationUnit}
use Rattle.rules.specs.Types.{GroupAddress, Fields, BindPart, AddBind, RemoveBinds, CreateGroup, DeleteGroup, AddToGroup, RemoveFromGroup, GetGroupInfo, Command}
use Rattle.rules.specs.Types.{StartSession, EndSession, GetEntries, Index, Part}
use Rattle.rules.specs.Lists.{ask, ◌&◌}
use Rattle.rules.specs.Octets.{word, ignore_top}
use Rattle.rules.specs.Tables.{Rec}
use Rattle.rules.specs.Layout.{address_length, part_start}

-- Bind Management, by member: what reads binds back (document 000, Table 27)
unfoldable pub read_command : ℕ → Option Command
read_command n =
    cond (eqb n start_session) (Some StartSession)
    (cond (eqb n end_session) (Some EndSession)
    (cond (eqb n get_by_index) (Some (GetEntries Index))
    (cond (eqb n get_by_source) (Some (GetEntries (Part Source)))
    (cond (eqb n get_by_source_unit) (Some (GetEntries (Part SourceUnit)))
    (cond (eqb n get_by_destination) (Some (GetEntries (Part Destination)))
    (cond (eqb n get_by_destination_unit) (Some (GetEntries (Part DestinationUnit)))
    None))))))

-- .. and what changes them, before it (Table 26)
unfoldable pub bind_command : ℕ → Option Command
bind_command n =
    cond (eqb n add_bind) (Some AddBind)
    (cond (eqb n remove_bind) (Some (RemoveBinds Whole))
    (cond (eqb n remove_by_source) (Some (RemoveBinds Source))
    (cond (eqb n remove_by_source_unit) (Some (RemoveBinds SourceUnit))
    (cond (eqb n remove_by_destination) (Some (RemoveBinds Destination))
    (cond (eqb n remove_by_destination_unit) (Some (RemoveBinds DestinationUnit))
    (read_command n))))))

-- Group Management, by member
unfoldable pub group_command : ℕ → Option Command
group_command n =
    cond (eqb n create_group) (Some CreateGroup)
    (cond (eqb n delete_group) (Some DeleteGroup)
    (cond (eqb n add_to_group) (Some AddToGroup)
    (cond (eqb n remove_from_group) (Some RemoveFromGroup)
    (cond (eqb n get_group_info) (Some GetGroupInfo)
    None))))

-- one of the commands "as type 0x01 or 0x02 to a server interface"
unfoldable pub command : Fields → Option Command
command f =
    ask (leb command_type f.message_type & leb f.message_type asking_type) None
    (ask (eqb f.interface_type flag_set) None
    (cond (eqb f.uid bind_management) (bind_command f.member)
    (cond (eqb f.uid group_management) (group_command f.member)
    None)))

-- What a payload says

-- the bind of 8 octets: "Octet 1's top bit .. is ignored in a command and stored as 0"
unfoldable pub bind_of : List ℕ → Rec
bind_of p = ignore_top p

-- the octets that a removal or a read by a part looks for: a source's top bit is ignored, "The two forms by destination carry octets 6-7, flag included."
unfoldable pub wanted : BindPart → List ℕ → List ℕ
wanted q p = cond (eqb (part_start q) (part_start Source)) (ignore_top p) p

-- the member: group, device, unit
unfoldable pub member_of : List ℕ → Rec
member_of p = ignore_top (take address_length p) ++ ignore_top (drop address_length p)

-- the group of Delete Group and Get Group Info
unfoldable pub group_named : List ℕ → GroupAddress
group_named p = group (word 0 (ignore_top p))
