-- `Following`: one slot against its standalone console. `Isolation`: the whole statement, and that no other server meets it.
-- `Instance`: demand 3 is not empty. `Refuted`: wrong servers that it excludes.
pub mod Following
pub mod Isolation
pub mod Instance
pub mod Refuted
