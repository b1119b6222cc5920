-- The plain calls of paper 01, with their refusals, which the contracts of this crate cite.
pub mod Calls
