-- `Located`: the refusals by the multiplexer, in the paper's order, and else the slot that a call goes to. `Calls`: the calls by client of paper 01.
pub mod Located
pub mod Calls
