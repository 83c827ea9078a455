-- What `links` prints for an input.
pub mod Printing
