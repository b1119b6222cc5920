-- The invariant of `block::copy_in`: the rectangle's rows before row hold what the block has for them, and nothing else is changed. Assumes nothing.
use Prim.Native.Nat.{◌≤◌}
use Rattle.block.proofs.Copies.{RowsIn}
use Rattle.block.proofs.copy_in.Given as goal

abbrev pub invariant-loop-row : goal.invariant-loop-row
invariant-loop-row l = (l.row ≤ l.lines) × RowsIn l.rect l.block l.row l.initial.screen l.screen
