-- `session::feed_bytewise` meets its contract: each turn feeds the next byte. Assumes nothing.
use Rattle.std.proofs.Common.{rules}
use Rattle.session.proofs.Feeding.{byte_more, bytes_over}
use Rattle.session.proofs.feed_bytewise.Goals as goal

pub loop-byte-preserved : goal.loop-byte-preserved
loop-byte-preserved c = search (byte_more, rules)

pub returns : goal.returns
returns c = search bytes_over
