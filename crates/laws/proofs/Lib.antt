-- For the proofs of every crate. `Tests`: from a test to a fact and back. `Choices`: a chain of choices, as code and definitions have it. `Lists`: elements taken from a place of a list on. `Bits`: the bits of a number.
pub mod Tests
pub mod Choices
pub mod Lists
pub mod Bits
