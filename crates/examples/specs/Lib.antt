-- The worked examples of paper 01, about the call that the console's contract cites; and the wrong consoles that it names.
pub mod Example
pub mod Table
pub mod Wrong
