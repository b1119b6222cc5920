-- `screen::moves::copy_chunks` meets its contract, by its invariant. Assumes nothing.
use Prim.Native.Nat.{◌+◌}
use mathlib.Core.Path.{refl}
use native.Mathlib.Omega.{arith}
use Rattle.screen.proofs.Rewrites.{none, ends}
use Rattle.screen.proofs.Chunks.{chunk_more, all_copied}
use Rattle.screen.proofs.moves.copy_chunks.Goals as goal
use Rattle.screen.proofs.moves.copy_chunks.Goals.{else-loop-done-test, then-loop-done-test+else-done-step-last}

pub loop-done-init : goal.loop-done-init
loop-done-init g c = (omega arith, ends none refl (omega arith))

pub loop-done-preserved : goal.loop-done-preserved
loop-done-preserved g c = (
  omega arith,
  chunk_more c.args.from c.args.to c.args.count (omega arith) (omega arith) g.row.SIZE c.loop-done.done c.loop-done.done (omega arith) (omega arith) (omega arith) c.loop-done.invariant.1 c.copy_chunk.ensures,
)

-- the loop ends where the last chunk starts, or in it
pub returns : goal.returns
returns g c =
    elim c.loop-done-test.branch [
      | else-loop-done-test w ↦ all_copied _ _ _ (omega arith) (omega arith) g.row.SIZE c.loop-done.done (omega arith) (omega arith) (omega arith) c.loop-done.invariant.1 w.screen-is c.copy_chunk-2.ensures
      | then-loop-done-test+else-done-step-last w ↦
          all_copied _ _ _ (omega arith) (omega arith) g.row.SIZE (c.loop-done.done + g.row.SIZE) (omega arith) (omega arith) (omega arith)
          (chunk_more c.args.from c.args.to c.args.count (omega arith) (omega arith) g.row.SIZE c.loop-done.done c.loop-done.done (omega arith) (omega arith) (omega arith) c.loop-done.invariant.1 w.copy_chunk.ensures)
          w.screen-is c.copy_chunk-2.ensures
    ]
