-- The laws that the proofs of this crate cite.
pub mod Telling
pub mod Once
pub mod Explained
pub mod Runs
