-- `editing::keys::delete_left` meets its contract: the byte before the cursor is taken out, or the key is beeped. Assumes nothing.
use Rattle.editing.proofs.Pressing.{delete_left_edge, delete_left_done}
use Rattle.editing.proofs.keys.delete_left.Goals as goal

pub returns-then-cursor-eq0 : goal.returns-then-cursor-eq0
returns-then-cursor-eq0 c = search delete_left_edge

pub returns : goal.returns
returns c = search delete_left_done
