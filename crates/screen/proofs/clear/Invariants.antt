-- The invariant of `screen::clear`: the rectangle's lines from its top up to line are filled, and nothing else is changed. Assumes nothing.
use Rattle.rectangle.specs.declared.Motion.{Motion}
use Rattle.screen.proofs.Lines.{Done}
use Rattle.screen.proofs.clear.Given as goal

abbrev pub invariant-loop-line : goal.invariant-loop-line
invariant-loop-line l = Done l.fn.rect Motion.Clear l.fill l.fn.rect.top l.line l.initial.screen l.screen
