-- `Draws`: edits one after another. `Printing`: one byte, and the loop that prints spaces. `Codes`: printing codes as a stream of them.
pub mod Draws
pub mod Printing
pub mod Codes
