-- `Marking`: what is marked as a number is marked line by line. `Cells`: the cells of lines that are stored to, and of those that are not.
pub mod Marking
pub mod Cells
