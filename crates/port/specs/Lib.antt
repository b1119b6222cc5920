-- Paper 01 as definitions, in its order: state, validity, codes, bytes, streams. Blocks and rows are in `block`.
pub mod State
pub mod Valid
pub mod Effect
pub mod Codes
pub mod Step
pub mod Stream
pub mod Commands
pub mod Keeps
