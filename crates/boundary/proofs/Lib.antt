-- `Streams`: each way through a run of a stream. `FieldRuns`: each way through a call on an input field.
pub mod Streams
pub mod FieldRuns
