-- The laws that the proofs of this crate cite.
pub mod Running
pub mod Near
pub mod Reaching
