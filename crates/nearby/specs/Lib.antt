-- The definitions that the contracts of this crate cite beside those of the rules, of the index and of the crates below.
pub mod Running
