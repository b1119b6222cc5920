-- `Laws`: what a host of an input field can rely on.
pub mod Laws
