-- `Script`: what is said of a script of calls. `Run`: what an export leaves. `Stream`: what a run of a stream answers. `Fields`: what a call on an input field answers.
pub mod Script
pub mod Run
pub mod Stream
pub mod Fields
