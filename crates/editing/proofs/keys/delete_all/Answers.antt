-- `editing::keys::delete_all` meets its contract: the text becomes empty, or the key is beeped. Assumes nothing.
use mathlib.Core.Path.{refl}
use Rattle.editing.proofs.Pressing.{delete_all_empty, delete_all_done}
use Rattle.editing.proofs.keys.delete_all.Goals as goal

pub returns-then-state-eq0 : goal.returns-then-state-eq0
returns-then-state-eq0 c = search delete_all_empty

pub returns : goal.returns
returns c b fits = delete_all_done c.args.state b fits _ c.if-state-eq0.false c.default.result c.default.ensures refl
