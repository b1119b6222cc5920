-- `combthrift::read_full`: no more was read than the piece holds. Assumes nothing.
use Rattle.std.proofs.Common.{◌≤◌, length}
use Rattle.combthrift.proofs.read_full.Given as goal

abbrev pub invariant-loop : goal.invariant-loop
invariant-loop g l = l.got ≤ length l.piece
