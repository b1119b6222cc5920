-- The invariant of `screen::fill_run`: the cells of the part that the loop has passed hold byte, and the others are as they were. Assumes nothing.
use Rattle.screen.specs.Rewrite.{Filled}
use Rattle.screen.proofs.fill_run.Given as goal

abbrev pub invariant-loop-cell : goal.invariant-loop-cell
invariant-loop-cell l = Filled 0 l.cell-index l.byte l.initial.cells l.cells
