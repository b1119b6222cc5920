-- `calls::return_block` meets its contract: a block is too short exactly where the definition refuses it. Assumes nothing.
use mathlib.Core.Path.{refl}
use native.Mathlib.Omega.{arith}
use lib.ListN.{length}
use borrow.Author.Tests.{lt-ltb}
use Rattle.block.specs.Block.{block_length}
use Rattle.calls.specs.Calls.{block_returned}
use Rattle.calls.proofs.return_block.Goals as goal

pub returns-then-block-size : goal.returns-then-block-size
unfolding block_returned
returns-then-block-size c = let a = c.args in
    rw (c.refused.ensures, lt-ltb (length a.block.now) (block_length a.p.view.viewport) (omega arith))
    (record { status_is = refl; state_is = refl; result_is = refl; cells = refl; bytes = refl })
