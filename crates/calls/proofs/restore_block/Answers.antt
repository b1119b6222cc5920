-- `calls::restore_block` meets its contract: a block is refused where it does not fit, and else written, and the viewport's lines are
-- marked. Assumes nothing.
use mathlib.Core.Path.{refl, sym, ap, ◌∙◌}
use Rattle.port.specs.State.{with_marks}
use Rattle.calls.specs.Calls.{block_restored}
use Rattle.calls.proofs.restore_block.Goals as goal

pub returns-then-block_fits : goal.returns-then-block_fits
unfolding block_restored
returns-then-block_fits c =
    rw (c.done.ensures, c.with_marks.ensures, sym c.block_fits.ensures ∙ c.if-block_fits.true)
    (record { status_is = refl; state_is = ap (with_marks c.args.p) c.mark-marks.ensures; result_is = refl; cells = c.copy_in.ensures; bytes = refl })

pub returns : goal.returns
unfolding block_restored
returns c =
    rw (c.refused.ensures, sym c.block_fits.ensures ∙ c.if-block_fits.false)
    (record { status_is = refl; state_is = refl; result_is = refl; cells = refl; bytes = refl })
