-- The invariant of `screen::scroll_down_by_line`: each of the rectangle's lines below line holds what the one above it held at entry, and nothing else is changed. Assumes nothing.
use Prim.Native.Nat.{◌+◌, ◌≤◌}
use Rattle.rectangle.specs.declared.Motion.{Motion}
use Rattle.screen.proofs.Lines.{Done}
use Rattle.screen.proofs.scroll_down_by_line.Given as goal

abbrev pub invariant-loop-line : goal.invariant-loop-line
invariant-loop-line l = Done l.fn.rect Motion.Down l.fill (l.line + 1) (l.bottom + 1) l.initial.screen l.screen × (l.top ≤ l.line)
