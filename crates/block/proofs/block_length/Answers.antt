-- `block::block_length` meets its contract: width and height are the definition's, and their product is too small to wrap. Assumes nothing.
use Rattle.block.specs.Block.{block_length}
use Rattle.block.proofs.block_length.Goals as goal

pub returns : goal.returns
unfolding block_length
returns c = rw (c.width_of.ensures, c.height_of.ensures)
