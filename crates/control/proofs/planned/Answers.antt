-- `control::planned` meets its contract: what was drawn is the plan, as an effect. Assumes nothing.
use Rattle.control.proofs.Arms.{drawn_as}
use Rattle.control.proofs.planned.Goals as goal

pub returns : goal.returns
returns g c = let done = c.draw_plan.ensures in
    (drawn_as c.args.a done c.with_drawn.ensures, done.cells)
