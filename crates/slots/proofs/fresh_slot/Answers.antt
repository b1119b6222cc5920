-- `slots::fresh_slot` meets its contract: the fresh port of the pane, with the pane's lines marked. Assumes nothing.
use Rattle.std.proofs.Common.{ℕ, ap}
use Rattle.port.specs.State.{with_marks, fresh_port}
use Rattle.slots.specs.State.{new_slot}
use Rattle.slots.proofs.fresh_slot.Goals as goal

pub returns : goal.returns
returns c = rw (c.with_marks.ensures, c.fresh_port.ensures)
    (ap (λ (marks : ℕ). new_slot c.args.client (with_marks (fresh_port c.args.pane) marks)) c.mark-marks.ensures)
