-- `printer::draw::draw_plan` meets its contract: the loop keeps that what is left of the edits, drawn from here, is what was asked. Assumes nothing.
use lib.ListN.{drop}
use Rattle.printer.proofs.Draws.{Drawing}
use Rattle.printer.proofs.draw.draw_plan.Given as goal

abbrev pub invariant-loop-change : goal.invariant-loop-change
invariant-loop-change g l = Drawing l.to.edits l.initial.after l.initial.screen (drop l.change-index l.to.edits) l.after l.screen
