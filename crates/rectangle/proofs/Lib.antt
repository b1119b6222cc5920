-- `Rectangles`, `Overlaps`: what the tests of rectangles decide. `Edits`: what an edit leaves in one cell. `Local`: edits keep to a rectangle, and what keeps to rectangles with no cell in common commutes.
pub mod Rectangles
pub mod Overlaps
pub mod Edits
pub mod Local
