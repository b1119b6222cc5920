-- `marks::within_lines` meets its contract: a rectangle that is not legal has no lines. Assumes nothing.
use Rattle.marks.proofs.Marking.{legal_lines, lines_tested, not_tested}
use Rattle.marks.proofs.within_lines.Goals as goal

pub line_marks-lines-requires : goal.line_marks-lines-requires
line_marks-lines-requires c = let start = c in legal_lines start.args.marks start.args.rect _ c.legal.ensures c.if-legal.true

pub returns-then-legal : goal.returns-then-legal
returns-then-legal c = search lines_tested

pub returns : goal.returns
returns c = search not_tested
