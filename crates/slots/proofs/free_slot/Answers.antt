-- `slots::free_slot` meets its contract: the client is 0, and the port is the zero port. Assumes nothing.
use mathlib.Core.Path.{ap}
use Rattle.slots.specs.State.{free_slot, new_slot}
use Rattle.slots.proofs.free_slot.Goals as goal

pub returns : goal.returns
unfolding free_slot
returns c = ap (new_slot 0) c.zero_port.ensures
