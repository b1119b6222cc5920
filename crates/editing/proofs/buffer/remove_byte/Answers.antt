-- `editing::buffer::remove_byte` meets its contract: what is copied one place back is the text with the byte taken out. Assumes nothing.
use native.Mathlib.Omega.{arith}
use Rattle.editing.proofs.Pasting.{byte_removed}
use Rattle.editing.proofs.buffer.remove_byte.Goals as goal

pub returns : goal.returns
returns c = byte_removed c.args.buffer.now _ c.args.size c.args.at _ c.requires.0 c.requires.1 c.copy_within.ensures.after (omega arith)
