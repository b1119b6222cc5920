-- `port::state::default_view` meets its contract: setter by setter, as in the definition. Assumes nothing.
use Rattle.port.proofs.state.default_view.Goals as goal

pub returns : goal.returns
returns c = simp (c.with_modes.ensures, c.with_flags.ensures, c.all_flags.ensures, c.with_viewport-placed.ensures, c.zero_view.ensures)
