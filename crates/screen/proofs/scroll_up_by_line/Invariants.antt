-- The invariant of `screen::scroll_up_by_line`: each of the rectangle's lines from its top up to line holds what the one below it held at entry, and nothing else is changed. Assumes nothing.
use Rattle.rectangle.specs.declared.Motion.{Motion}
use Rattle.screen.proofs.Lines.{Done}
use Rattle.screen.proofs.scroll_up_by_line.Given as goal

abbrev pub invariant-loop-line : goal.invariant-loop-line
invariant-loop-line l = Done l.fn.rect Motion.Up l.fill l.fn.rect.top l.line l.initial.screen l.screen
