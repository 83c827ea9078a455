-- The laws that the proofs of this crate cite, and the rows of the paper.
pub mod Lines
pub mod Rows
