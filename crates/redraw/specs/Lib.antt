-- `Redraw`: a screen that is drawn anew by its marks. `Marks`: what each call marks, what a taking hands out, and that marks only grow but by taking and closing. `Table`: what bytes mark, by example. `Wrong`: a console that spares equal bytes.
pub mod Redraw
pub mod Marks
pub mod Table
pub mod Wrong
