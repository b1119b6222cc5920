-- `slots::lookup::has_client` meets its contract: both tests joined, as in the definition. Assumes nothing.
use Rattle.std.proofs.Common.{rules}
use Rattle.slots.specs.State.{has_client, slot_of}
use Rattle.slots.proofs.lookup.has_client.Goals as goal

pub returns : goal.returns
unfolding has_client slot_of
returns c = search rules
