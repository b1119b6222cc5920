-- `marks::line_marks` meets its contract: the lines from top on but for those below bottom. Assumes nothing.
use borrow.Author.Rules.{rules}
use Rattle.marks.proofs.Marking.{top_below, lines_shifted}
use Rattle.marks.proofs.line_marks.Goals as goal

pub overflow_sub-result : goal.overflow_sub-result
overflow_sub-result c = search (top_below, rules)

pub returns : goal.returns
returns c = search lines_shifted
