-- `view::set_cursor_movement` meets its contract: each of the five masks takes the bit that the definition names. Assumes nothing.
use Rattle.view.proofs.Bits.{low_bit}
use Rattle.view.proofs.set_cursor_movement.Goals as goal

pub returns : goal.returns
returns c = rw c.with_flags.ensures (simp low_bit)
