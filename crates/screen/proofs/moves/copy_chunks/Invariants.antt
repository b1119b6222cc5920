-- The invariant of `screen::moves::copy_chunks`: of the cells so many as are done are copied, and nothing else is changed. Assumes nothing.
use Prim.Native.Nat.{◌≤◌}
use Rattle.screen.specs.Rewrite.{Copied}
use Rattle.screen.proofs.moves.copy_chunks.Given as goal

abbrev pub invariant-loop-done : goal.invariant-loop-done
invariant-loop-done g l = (l.done ≤ l.count) × Copied l.initial.screen l.from l.to l.done l.initial.screen l.screen
