-- `session::feed_bytewise` meets its contract: each turn feeds the next byte. Assumes nothing.
use Rattle.std.proofs.Common.{drop}
use Rattle.session.proofs.Feeding.{Feeding}
use Rattle.session.proofs.feed_bytewise.Given as goal

abbrev pub invariant-loop-byte : goal.invariant-loop-byte
invariant-loop-byte l = Feeding l.initial.now l.initial.screen l.bytes (drop l.byte-index l.bytes) l.now l.screen
