-- `Executing`: what the tests show, and the loop over a stream.
pub mod Executing
