-- The definitions that the contracts of this crate and of delivery cite beside those of the rules and of units.
pub mod Leaving
