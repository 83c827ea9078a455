-- The definitions that the contracts of `messages` cite beside those of `rules`.
pub mod Ranges
