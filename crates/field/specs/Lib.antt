-- `Statuses`: the request's number of each status. `Endings`: the ending keys. `Verdict`: when a call is refused. `Rules`: the same as propositions. `Typing`: keys read one after another. `Calls`: all that each call leaves.
pub mod Statuses
pub mod Endings
pub mod Verdict
pub mod Rules
pub mod Typing
pub mod Calls
