-- The definitions that the contracts of `report` cite.
pub mod Text
