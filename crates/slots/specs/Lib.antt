-- The slots of a multiplexer, which paper 01 calls a wall: its state, where its slots lie, when a pane shares a cell with another, and when it is valid.
pub mod State
pub mod Places
pub mod Panes
pub mod Valid
