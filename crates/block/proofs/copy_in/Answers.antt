-- `block::copy_in` meets its contract, by its invariant. Assumes nothing.
use mathlib.Core.Path.{refl}
use native.Mathlib.Omega.{arith}
use borrow.Author.Rules.{rules}
use Rattle.screen.proofs.Rewrites.{none, ends}
use Rattle.block.specs.Block.{row_start}
use Rattle.block.proofs.Copies.{row_in, all_in}
use Rattle.block.proofs.copy_in.Goals as goal

pub loop-row-init : goal.loop-row-init
loop-row-init c = (omega arith, ends none refl (omega arith))

pub loop-row-preserved : goal.loop-row-preserved
unfolding row_start
loop-row-preserved c = let a = c.args in (
  omega arith,
  row_in a.rect (search rules) c.loop-row.row (omega arith) (row_start a.rect c.loop-row.row) c.row_place-place.result _ refl c.row_place-place.ensures.place (omega arith) a.block.now (omega arith) (omega arith) c.write_cells.ensures c.loop-row.invariant.1,
)

pub returns : goal.returns
returns c = all_in _ _ _ (search rules) (omega arith) (omega arith) c.loop-row.invariant.1
