-- `printer::draw::draw_plan` meets its contract: the loop keeps that what is left of the edits, drawn from here, is what was asked. Assumes nothing.
use mathlib.Core.Path.{refl}
use borrow.Author.Rules.{rules}
use Rattle.printer.proofs.Draws.{next_on_screen, drawing_again, all_drawn}
use Rattle.printer.proofs.draw.draw_plan.Goals as goal

pub loop-change-init : goal.loop-change-init
loop-change-init g c = record { edits = c.requires; marks_are = refl; cells_are = refl }

pub draw_change-after-requires : goal.draw_change-after-requires
draw_change-after-requires g c = next_on_screen c.args.to.edits c.loop-change.change-index c.loop-change.invariant (search rules)

pub loop-change-preserved : goal.loop-change-preserved
loop-change-preserved g c =
    let done = c.draw_change-after.ensures in
    drawing_again c.args.to.edits c.loop-change.change-index c.loop-change.invariant (search rules) done.0 done.1

pub returns : goal.returns
returns g c =
    let done = all_drawn c.args.to.edits c.loop-change.change-index c.loop-change.invariant (search rules) in
    record { view = refl; marks = done.0; cells = done.1 }
