-- The definitions that the contracts of this crate and of those above it cite beside those of the rules.
pub mod Listing
