-- The invariant of `screen::shift_left`: the rectangle's lines from its top up to line are shifted, and nothing else is changed. Assumes nothing.
use Rattle.rectangle.specs.declared.Motion.{Motion}
use Rattle.screen.proofs.Lines.{Done}
use Rattle.screen.proofs.shift_left.Given as goal

abbrev pub invariant-loop-line : goal.invariant-loop-line
invariant-loop-line l = Done l.rect (Motion.Left l.count) l.fill l.rect.top l.line l.initial.screen l.screen
