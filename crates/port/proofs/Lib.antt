-- The laws of paper 01's definitions. `Validity`: the tests decide the propositions, and each setter keeps a port valid.
-- `Views`, `Steps`: a code, a byte keep validity and home, and edit inside the viewport, and mark the lines of their edits. `Streams`: a stream may be cut, and what it marks.
-- `Outcomes`: what rings, what waits, and which bytes leave what is saved alone. `Prints`: which codes are printed.
pub mod Validity
pub mod Views
pub mod Steps
pub mod Streams
pub mod Outcomes
pub mod Prints
