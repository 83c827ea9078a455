-- What a search asks of one record, and where it ends.
pub mod Search
