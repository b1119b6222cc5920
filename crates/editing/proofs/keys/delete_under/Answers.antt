-- `editing::keys::delete_under` meets its contract: the byte under the cursor is taken out, or the key is beeped. Assumes nothing.
use Rattle.editing.proofs.Pressing.{delete_under_end, delete_under_done}
use Rattle.editing.proofs.keys.delete_under.Goals as goal

pub returns-then-cursor-length : goal.returns-then-cursor-length
returns-then-cursor-length c = search delete_under_end

pub returns : goal.returns
returns c = search delete_under_done
