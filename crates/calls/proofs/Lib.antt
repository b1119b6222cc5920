-- `Verdicts`: when a call is refused before it starts, refusal 1 among them.
-- Laws of the calls below their judging, from which those of the plain calls and of the calls by client follow: `Refusals`: a refused one changes nothing. `Cut`: a stream may be cut anywhere, and what a write counts. `Blocks`: a block put straight back.
pub mod Verdicts
pub mod Refusals
pub mod Cut
pub mod Blocks
