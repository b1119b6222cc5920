-- `block::copy_out` meets its contract. A row's place and its width keep it in the block. Assumes nothing.
use mathlib.Core.Path.{refl}
use native.Mathlib.Omega.{arith}
use borrow.Author.Rules.{rules}
use lib.ListN.{length-set}
use Rattle.screen.proofs.Rewrites.{none, ends}
use Rattle.block.specs.Block.{block_length, row_start}
use Rattle.block.proofs.Copies.{row_out, all_out}
use Rattle.block.proofs.copy_out.Goals as goal

pub bounds-block-0 : goal.bounds-block-0
unfolding block_length
bounds-block-0 c = omega arith

pub bounds-block-1 : goal.bounds-block-1
unfolding block_length
bounds-block-1 c = simp length-set (omega arith)

pub loop-row-init : goal.loop-row-init
loop-row-init c = (omega arith, ends none refl (omega arith))

pub loop-row-preserved : goal.loop-row-preserved
unfolding row_start
loop-row-preserved c = let a = c.args in (
  omega arith,
  row_out a.rect (search rules) c.loop-row.row (omega arith) (row_start a.rect c.loop-row.row) c.row_place-place.result _ refl c.row_place-place.ensures.place (omega arith) a.screen.now _ c.told-screen (omega (arith, simp length-set at c.loop-row.invariant.1.len)) c.read_cells.ensures c.loop-row.invariant.1,
)

pub returns : goal.returns
returns c = all_out _ _ _ (search rules) (omega arith) (omega arith) (omega arith) (omega arith) (omega arith) c.loop-row.invariant.1
