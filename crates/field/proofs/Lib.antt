-- `Verdicts`: when a call is refused, and when it is made. `Endings`: the ending keys. `Reading`: keys read one after another. `Replying`: each way through a call.
pub mod Verdicts
pub mod Endings
pub mod Reading
mod Replying
