-- `screen::scroll_up_by_line` meets its contract. The bottom line is filled last. Assumes nothing.
use mathlib.Core.Path.{refl}
use native.Mathlib.Omega.{arith}
use borrow.Author.Rules.{rules}
use Rattle.screen.proofs.Rewrites.{ends}
use Rattle.screen.proofs.Lines.{up_line, fill_below, all_done}
use Rattle.screen.proofs.scroll_up_by_line.Goals as goal

pub loop-line-preserved : goal.loop-line-preserved
loop-line-preserved c = up_line _ (search rules) (omega arith) (omega arith) (omega arith) (omega arith) _ _ c.copy_line.ensures (omega arith) c.loop-line.invariant

pub returns : goal.returns
returns c =
    all_done _ _ _ _ refl (search rules) (search rules)
    (fill_below _ (search rules) (omega arith) (omega arith) (omega arith) (omega arith) _ _ _ c.fill_run.ensures (λ i h. h) (ends c.loop-line.invariant refl (omega arith)))
