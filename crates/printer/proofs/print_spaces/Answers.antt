-- `printer::print_spaces` meets its contract: the loop keeps that what is left of the spaces, done from here, is what was asked. Assumes nothing.
use native.Mathlib.Omega.{arith}
use Rattle.printer.proofs.Printing.{spacing_starts, space_edits, spacing_again, spacing_ends}
use Rattle.printer.proofs.print_spaces.Goals as goal

pub loop-init : goal.loop-init
loop-init c = spacing_starts _ _ _ _ _ c.requires

pub print_byte-next-requires : goal.print_byte-next-requires
print_byte-next-requires c = let more = c.loop-test.true in space_edits c.loop.invariant (omega arith)

pub loop-preserved : goal.loop-preserved
loop-preserved c = let more = c.loop-test.true in spacing_again c.loop.invariant (omega arith) _ (omega arith) _ _ _ c.print_byte-next.ensures

pub returns : goal.returns
returns c = let past = c.loop-test.false in spacing_ends _ _ _ _ _ _ _ _ _ c.loop.invariant (omega arith)
