-- For other crates too: what a row and a block hold, and how long they are.
pub mod Rows
-- For other crates too: what a block put back leaves, and that one handed out and put straight back changes nothing.
pub mod Restores
-- For this crate's loops: one row more, all rows.
pub mod Copies
