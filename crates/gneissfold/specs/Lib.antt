-- The definitions that the contracts of `gneissfold` cite beside those of `rules`.
pub mod Numbers
