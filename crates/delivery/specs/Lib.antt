-- The definitions that the contracts of this crate cite beside those of the rules and of the crates below.
pub mod Delivering
