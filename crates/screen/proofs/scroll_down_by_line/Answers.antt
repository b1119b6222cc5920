-- `screen::scroll_down_by_line` meets its contract. The top line is filled last. Assumes nothing.
use Prim.Native.Nat.{◌+◌, ◌-◌}
use mathlib.Core.Path.{refl}
use native.Mathlib.Omega.{arith}
use borrow.Author.Rules.{rules}
use Rattle.screen.proofs.Rewrites.{none, ends}
use Rattle.screen.proofs.Lines.{between, down_line, fill_above, all_done}
use Rattle.screen.proofs.scroll_down_by_line.Goals as goal

pub loop-line-init : goal.loop-line-init
loop-line-init c = (ends none refl (omega arith), omega arith)

pub loop-line-preserved : goal.loop-line-preserved
loop-line-preserved c = let walk = ends c.loop-line.invariant.0 (omega arith) refl in (
  down_line (c.loop-line.line - 1 + 1) (search rules) (omega arith) (omega arith) (omega arith) (omega arith) _ _ _ refl (between c.args.rect _ _ c.copy_line.ensures (omega arith) (omega arith)) (omega arith) _ (omega arith) walk,
  omega arith,
)

pub returns : goal.returns
returns c =
    all_done _ _ _ _ refl (search rules) (search rules)
    (fill_above _ (search rules) (omega arith) (omega arith) (omega arith) (omega arith) _ _ _ c.fill_run.ensures (λ i h. h) _ (omega arith) (ends c.loop-line.invariant.0 (omega arith) refl))
