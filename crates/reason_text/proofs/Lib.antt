-- The laws that the proofs of this crate cite, and its texts.
pub mod Sentences
