-- What the checks of a table ask of one record.
pub mod Asking
