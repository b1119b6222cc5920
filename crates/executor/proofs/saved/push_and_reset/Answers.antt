-- `executor::saved::push_and_reset` meets its contract: setter by setter, as in the definition. Assumes nothing.
use Rattle.executor.proofs.saved.push_and_reset.Goals as goal

pub returns : goal.returns
returns c = simp (c.with_view.ensures, c.default_view.ensures, c.with_saved.ensures)
