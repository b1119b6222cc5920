-- `Verdict`: refusal 1, for every call that takes a screen, and a call that is refused before it starts. `Calls`: what a call on a port does that is not. `Taking`: what a taking of its marks does.
pub mod Verdict
pub mod Calls
pub mod Taking
