-- The index of the bind table (document 02, request 3): what it is, and the calls that are lent it. What the definitions use stands in `rules` and `words`.
pub mod Index
pub mod Walks
pub mod Calls
