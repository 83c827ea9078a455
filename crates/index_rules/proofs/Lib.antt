-- What follows from the definitions of the index: laws that the proofs of the code cite, and the theorems that a reader is promised.
pub mod Ranks
pub mod Leading
pub mod Entries
pub mod Right
pub mod One
pub mod Nearby
pub mod Moving
pub mod Changes
