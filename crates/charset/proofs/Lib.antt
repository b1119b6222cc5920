-- `Agreement`: a test over a whole table shows that it agrees with the range rule. `Entries`: this crate's table does.
pub mod Agreement
pub mod Entries
