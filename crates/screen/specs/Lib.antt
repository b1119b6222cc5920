-- `Size`: when lent bytes are a screen. `Rewrite`: what a loop over neighbouring cells leaves. `Run`: what a run of printing codes leaves.
pub mod Size
pub mod Rewrite
pub mod Run
