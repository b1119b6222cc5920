-- `Sizes`: when lent bytes are a screen. `Rewrites`: how a run of places starts, grows and joins another. `Parts`: what a part that came back is of the whole. `Rest`: the same of all from a place on, with cells moved. `Lines`: a walk over a rectangle's lines, and full lines at once. `Stores`: one cell stored. `Runs`: how a run of codes starts and grows.
pub mod Sizes
pub mod Rewrites
pub mod Parts
pub mod Rest
pub mod Lines
pub mod Stores
pub mod Runs
pub mod Chunks
