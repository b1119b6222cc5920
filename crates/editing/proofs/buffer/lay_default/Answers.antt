-- `editing::buffer::lay_default` meets its contract: a copy of the default in front is the default laid over the buffer. Assumes nothing.
use borrow.Author.Rules.{rules}
use Rattle.editing.specs.Buffer.{laid}
use Rattle.editing.proofs.buffer.lay_default.Goals as goal

pub returns : goal.returns
unfolding laid
returns c = search rules
