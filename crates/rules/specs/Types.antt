-- The types of the paper's words and their cases, passed on, so that a file brings them by one line. `Destination` is the name of two of
-- them, and stays with its own module.
pub use Rattle.words.specs.declared.DeviceAddress.{DeviceAddress}
pub use Rattle.words.specs.declared.GroupAddress.{GroupAddress}
pub use Rattle.words.specs.declared.Code.{Code}
pub use Rattle.words.specs.declared.Fields.{Fields}
pub use Rattle.words.specs.declared.Destination.TheVariants.{Concentrator, BindAddress, Unit, Group}
pub use Rattle.words.specs.declared.BindPart.{BindPart}
pub use Rattle.words.specs.declared.BindPart.TheVariants.{Whole, Source, SourceUnit, DestinationUnit}
pub use Rattle.words.specs.declared.Command.{Command}
pub use Rattle.words.specs.declared.Filter.{Filter}
pub use Rattle.words.specs.declared.Filter.TheVariants.{Index, Part}
pub use Rattle.words.specs.declared.Command.TheVariants.{AddBind, RemoveBinds, StartSession, EndSession, GetEntries, CreateGroup, DeleteGroup, AddToGroup}
pub use Rattle.words.specs.declared.Command.TheVariants.{RemoveFromGroup, GetGroupInfo}
pub use Rattle.words.specs.declared.Kind.{Kind}
pub use Rattle.words.specs.declared.Kind.TheVariants.{Devices, Binds, Groups, Members, Sessions}
pub use Rattle.words.specs.Outcomes.{Outcome}
pub use Rattle.words.specs.declared.Accepted.{Accepted}
pub use Rattle.words.specs.declared.Accepted.TheVariants.{Done, Forwarded, Nobody}
pub use Rattle.words.specs.declared.Refusal.{Refusal}
pub use Rattle.words.specs.declared.Refusal.TheVariants.{WrongLength, WrongDataLength, WrongType, NoSource, NoDestination, ResponseToMany, Unsound}
pub use Rattle.words.specs.declared.Refusal.TheVariants.{NoRoom, NotServed, NoCopy, OutOfRange, AlreadyAdmitted, NoFreeRecord, NotAdmitted}
pub use Rattle.words.specs.declared.Reason.{Reason}
pub use Rattle.words.specs.declared.Reason.TheVariants.{PayloadLength, NoSourceDevice, NoSourceUnit, DestinationUnitFF, NoDestinationDevice}
pub use Rattle.words.specs.declared.Reason.TheVariants.{NoDestinationUnit, NoGroup, BoundToItself, AlreadyPresent}
pub use Rattle.words.specs.declared.Way.{Way}
pub use Rattle.words.specs.declared.Way.TheVariants.{Serve, Forward}
pub use Rattle.words.specs.declared.Told.{Told}
