-- The range rule for stored bytes. Other crates cite `stored_byte`.
pub mod Stored
