-- How the code meets the definitions of paper 01. `Plans`: a plan stands for an effect.
-- What some codes need besides: `Moves` for the cursor's and for printing, `Places` for those with parameters, `Bits` for the masks of $15.
pub mod Plans
pub mod Moves
pub mod Places
pub mod Bits
