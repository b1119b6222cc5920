-- `editing::keys::move_right` meets its contract: the cursor moves, or the key is beeped. Assumes nothing.
use Rattle.editing.proofs.Pressing.{right_beeped, right_done}
use Rattle.editing.proofs.keys.move_right.Goals as goal

pub returns-then-state : goal.returns-then-state
returns-then-state c = search (right_beeped, c.then-state.either)

pub returns : goal.returns
returns c = search right_done
