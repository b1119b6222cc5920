-- `session::feed_in_pieces` meets its contract: the bytes in front of the pieces that are left are fed. Assumes nothing.
use Rattle.std.proofs.Common.{◌<◌}
use Rattle.session.proofs.Feeding.{Feeding}
use Rattle.session.proofs.feed_in_pieces.Given as goal

abbrev pub invariant-loop-piece : goal.invariant-loop-piece
invariant-loop-piece l = (0 < l.piece-iterator.size) × Feeding l.initial.now l.initial.screen l.bytes l.piece-iterator.rest.now l.now l.screen
