-- What the tables hold, where they are lent as one value.
pub mod Held
