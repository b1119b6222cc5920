-- `block::block_fits` meets its contract. A block of the right length has at least two bytes, and the rest of the definition is the two
-- tests of the code; at another length the definition is false too. Assumes nothing.
use native.Mathlib.Omega.{arith}
use borrow.Author.Tests.{eq-eqb, ne_eqb}
use lib.ListN.{length}
use Rattle.block.specs.Block.{block_length, block_fits}
use Rattle.block.proofs.block_fits.Goals as goal

pub bounds-block-0 : goal.bounds-block-0
unfolding block_length
bounds-block-0 c = omega arith

pub bounds-block-1 : goal.bounds-block-1
unfolding block_length
bounds-block-1 c = omega arith

pub returns-then-block-block_length : goal.returns-then-block-block_length
unfolding block_fits
returns-then-block-block_length c = let a = c.args in
    let sized = eq-eqb (length a.block.now) (block_length a.rect) (omega arith) in
    rw (sized, c.width_of.ensures, c.height_of.ensures)

pub returns : goal.returns
unfolding block_fits
returns c = let a = c.args in
    rw (ne_eqb (length a.block.now) (block_length a.rect) (λ sized. omega arith))
