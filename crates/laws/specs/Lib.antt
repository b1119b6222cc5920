-- `Tabulate`: lists given by a function from the place to the element. `Parts`: parts of lent slices. `Bits`: the bits of a number.
pub mod Tabulate
pub mod Parts
pub mod Bits
