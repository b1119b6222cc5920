-- `multiplexer::close` meets its contract: the client's slot becomes a free one. Assumes nothing.
use mathlib.Core.Path.{refl}
use Rattle.slots.specs.State.{free_slot}
use Rattle.multiplexer.specs.Calls.{on_slot}
use Rattle.multiplexer.proofs.close.Goals as goal

pub returns-in-Ok : goal.returns-in-Ok
unfolding on_slot free_slot
returns-in-Ok c =
    rw (← c.client_slot.ensures.located, c.in-Ok.is, c.done.ensures, c.with_slot.ensures, c.free_slot.ensures)
    (record { status_is = refl; state_is = refl; result_is = refl; cells = refl; bytes = refl })
