-- `Texts`: the text in front of a buffer. `Pasting`: bytes that are copied within a buffer. `Pressing`: each way through the function of a key. `Keeps`: what every key keeps.
pub mod Texts
mod Pasting
pub mod Pressing
pub mod Keeps
