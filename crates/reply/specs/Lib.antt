-- `Numbers`: the paper's number of each status. `Handed`: what a call hands back in code. `Reply`: all that a call leaves, and what a call promises, over the types of its status, state and result. `Laws`: what is claimed of several replies. `Answers`: when each status is given.
pub mod Numbers
pub mod Handed
pub mod Reply
pub mod Laws
pub mod Answers
