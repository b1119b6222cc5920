-- `Execute`: what it is to carry an effect or an outcome out on a screen. `Print`: to print codes one after another.
pub mod Execute
pub mod Print
