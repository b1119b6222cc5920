-- `Tracks`: what one call on a port marks. `Plain`: a plain console. `Clients`: a multiplexer. `Examples`: what bytes mark. `Wrong`: a console that spares equal bytes, refuted.
pub mod Tracks
pub mod Plain
pub mod Clients
pub mod Examples
pub mod Wrong
