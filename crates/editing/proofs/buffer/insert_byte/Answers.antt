-- `editing::buffer::insert_byte` meets its contract: what is copied one place on, and the byte stored before it, are the text with the byte put in. Assumes nothing.
use Rattle.editing.proofs.Pasting.{byte_inserted}
use Rattle.editing.proofs.buffer.insert_byte.Goals as goal

pub returns : goal.returns
returns c = byte_inserted c.args.buffer.now _ c.args.size c.args.at c.args.byte c.requires.0 c.requires.1 c.copy_within.ensures.after
