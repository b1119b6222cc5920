-- Demand 3, about the calls that the multiplexer's contracts cite.
pub mod Isolation
