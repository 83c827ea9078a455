-- What follows from the words alone.
pub mod Apart
pub mod Lengths
