-- `Session`: what it is to feed a session bytes. `Answer`: its end as bytes.
pub mod Session
pub mod Answer
