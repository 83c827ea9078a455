-- The laws that the proofs of this crate and of those above it cite.
pub mod Units
pub mod Taking
pub mod Listing
pub mod Places
pub mod Ordering
