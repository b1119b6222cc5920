-- `slots::lookup::slot_of` meets its contract: the first slot that has the client is the definition's. Assumes nothing.
use Rattle.std.proofs.Common.{rules}
use Rattle.slots.specs.State.{slot_of}
use Rattle.slots.proofs.lookup.slot_of.Goals as goal

pub returns : goal.returns
unfolding slot_of
returns c = search rules
