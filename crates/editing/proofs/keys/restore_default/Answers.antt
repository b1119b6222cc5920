-- `editing::keys::restore_default` meets its contract: the default is laid over the buffer. Assumes nothing.
use Rattle.editing.proofs.Pressing.{default_restored}
use Rattle.editing.proofs.keys.restore_default.Goals as goal

pub returns : goal.returns
returns c = search default_restored
