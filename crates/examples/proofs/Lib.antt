-- `Computed` turns a test that antt computes into what an example states; `Claim` is the claim over the table. `Wrong`: no write that meets the promise is one of the wrong consoles.
pub mod Computed
pub mod Claim
pub mod Wrong
