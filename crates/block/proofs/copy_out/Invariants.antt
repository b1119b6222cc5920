-- The invariant of `block::copy_out`: after its first two bytes the block holds the cells of the rows before row, and nothing else is changed. Assumes nothing.
use Prim.Native.Nat.{◌≤◌}
use Rattle.block.proofs.Copies.{RowsOut}
use Rattle.block.proofs.copy_out.Given as goal

abbrev pub invariant-loop-row : goal.invariant-loop-row
invariant-loop-row l = (l.row ≤ l.row-end) × RowsOut l.rect l.screen l.row l.initial.block l.block
