-- `editing::keys::move_left` meets its contract: the cursor moves, or the key is beeped. Assumes nothing.
use Rattle.editing.proofs.Pressing.{left_edge, left_done}
use Rattle.editing.proofs.keys.move_left.Goals as goal

pub returns-then-state-eq0 : goal.returns-then-state-eq0
returns-then-state-eq0 c = search left_edge

pub returns : goal.returns
returns c = search left_done
