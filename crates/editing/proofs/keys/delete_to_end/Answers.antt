-- `editing::keys::delete_to_end` meets its contract: the text ends at the cursor, or the key is beeped. Assumes nothing.
use Rattle.editing.proofs.Pressing.{delete_to_end_none, delete_to_end_done}
use Rattle.editing.proofs.keys.delete_to_end.Goals as goal

pub returns-then-state : goal.returns-then-state
returns-then-state c = search delete_to_end_none

pub returns : goal.returns
returns c = search delete_to_end_done
