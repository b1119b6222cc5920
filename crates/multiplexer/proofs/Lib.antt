-- `Chains`: a chain of refusals that ends at a slot or accepts. `Claims`: when a claim of a slot is refused, and when not. `Clients`: the same of a call for an open client. `Replying`: what a call leaves, by where it goes.
pub mod Chains
pub mod Claims
pub mod Clients
pub mod Replying
