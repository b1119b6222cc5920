-- `screen::shift_left` meets its contract. A gap of at most the width keeps what is moved and what is filled of a line in the rectangle. Assumes nothing.
use mathlib.Core.Path.{refl}
use native.Mathlib.Omega.{arith}
use borrow.Author.Rules.{rules}
use Rattle.screen.proofs.Parts.{pulled}
use Rattle.screen.proofs.Lines.{left_line, all_done}
use Rattle.screen.proofs.shift_left.Goals as goal

pub loop-line-preserved : goal.loop-line-preserved
loop-line-preserved c =
    let cells = pulled _ _ c.gap_of-gap.result c.loop-line.screen _ c.copy_within.ensures.by_index c.copy_within.ensures.len (omega arith) (omega arith) (omega arith) in
    left_line _ (search rules) (omega arith) (omega arith) (omega arith) (omega arith) _ _ _ c.gap_of-gap.result (omega arith) refl cells c.fill_run.ensures c.loop-line.invariant

pub returns : goal.returns
returns c = all_done _ _ _ _ (omega arith) (search rules) (search rules) c.loop-line.invariant
