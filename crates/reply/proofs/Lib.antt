-- `Rules`: a chain of rules, over the type of the statuses.
pub mod Rules
