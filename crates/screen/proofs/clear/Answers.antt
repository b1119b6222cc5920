-- `screen::clear` meets its contract, by its invariant. Assumes nothing.
use native.Mathlib.Omega.{arith}
use borrow.Author.Rules.{rules}
use Rattle.screen.proofs.Lines.{fill_below, all_done}
use Rattle.screen.proofs.clear.Goals as goal

pub loop-line-preserved : goal.loop-line-preserved
loop-line-preserved c = fill_below _ (search rules) (omega arith) (omega arith) (omega arith) (omega arith) _ _ _ c.fill_run.ensures (λ i h. tt) c.loop-line.invariant

pub returns : goal.returns
returns c = all_done _ _ _ _ (omega arith) (search rules) (search rules) c.loop-line.invariant
