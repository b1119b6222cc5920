-- Request 02: which lines of the screen were stored to.
pub mod Marks
