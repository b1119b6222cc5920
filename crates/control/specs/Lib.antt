-- `Active`: the active part of a port. `Obey`: what it is to obey a byte on it.
pub mod Active
pub mod Obey
