-- Theorems about the calls as they are promised: `Answers`: what is refused, and that it then changes nothing. `Cut`: a stream may be cut anywhere, and the count of a write. `Blocks`: a block put straight back changes nothing but the marks, and a good row is there.
pub mod Answers
pub mod Cut
pub mod Blocks
