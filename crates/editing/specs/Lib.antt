-- `Keys`: what each key does to a text and a cursor. `Buffer`: where the text lies, and what a function for a key promises.
pub mod Keys
pub mod Buffer
