-- `Consoles`: all that is needed of the standalone console. `Serving`: the calls are those of the contracts; one call's frame. `Refusals`: a refused call changes nothing.
-- `Opened`, `Closed`, `Taken`: what an opening, a closing and a taking leave. Every call leaves a valid multiplexer valid: `serve_valid`, `open_valid`, `close_valid`, `take_valid`.
-- The laws: `Answers`: when each status is given. `Relaying`: a client's call is the call on its slot's port. `Cut`: a stream cut in two, and the count of a write. `RoundTrip`: a block put straight back.
pub mod Consoles
pub mod Serving
pub mod Taken
pub mod Refusals
pub mod Opened
pub mod Closed
pub mod Answers
pub mod Relaying
pub mod Cut
pub mod RoundTrip
