-- `Cells`: the cells of a screen. `Rectangles`: what is said of a rectangle, and of two. `Edit`: what an edit of one makes of the cells. `Local`: what it is for a change to keep to one.
pub mod Cells
pub mod Rectangles
pub mod Edit
pub mod Local
