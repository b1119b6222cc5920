-- Blocks and rows of a rectangle.
pub mod Block
