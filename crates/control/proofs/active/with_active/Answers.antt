-- `control::active::with_active` meets its contract: two setters of `port`, one after the other. Assumes nothing.
use Rattle.control.proofs.Arms.{active_joined}
use Rattle.control.proofs.active.with_active.Goals as goal

pub returns : goal.returns
returns c = search active_joined
