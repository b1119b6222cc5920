-- `Arms`: what the arms of a `match` on a code come to.
pub mod Arms
