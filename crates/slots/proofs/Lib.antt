-- `Validity`: the test for validity is true exactly when its clauses hold.
-- `Slots`: which slot a client has, another slot in a place, and a slot just opened.
pub mod Validity
pub mod Slots
