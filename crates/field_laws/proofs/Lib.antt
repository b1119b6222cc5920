-- `Answers`: when each status is given. `Ran`: what keys that are read one after another keep. `Cut`: keys cut in two. `Limits`: what a call keeps within limits. `Chosen`: what the user has chosen.
pub mod Answers
pub mod Ran
pub mod Cut
pub mod Limits
pub mod Chosen
