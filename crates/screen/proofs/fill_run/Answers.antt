-- `screen::fill_run` meets its contract, by its invariant: the part comes back with byte in each place. Assumes nothing.
use mathlib.Core.Path.{refl}
use native.Mathlib.Omega.{arith}
use Rattle.screen.proofs.Rewrites.{one_after}
use Rattle.screen.proofs.Parts.{filled}
use Rattle.screen.proofs.fill_run.Goals as goal

pub loop-cell-preserved : goal.loop-cell-preserved
loop-cell-preserved c = one_after c.loop-cell.invariant (omega arith) c.loop-cell-test.true refl

pub returns : goal.returns
returns c = filled c.args.start c.args.end c.args.byte c.args.screen.now _ (omega arith) (omega arith) c.loop-cell-test.false c.loop-cell.invariant
