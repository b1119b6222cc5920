-- `printer::print_byte` meets its contract: the cell is stored, and then comes what the cursor's move draws. Assumes nothing.
use native.Mathlib.Omega.{arith}
use borrow.Author.Rules.{rules}
use Rattle.printer.proofs.Printing.{cell_on_screen, move_on_screen, printed}
use Rattle.printer.proofs.print_byte.Goals as goal

pub store_cell-requires : goal.store_cell-requires
store_cell-requires c = let cell = cell_on_screen _ _ c.requires in search rules

pub mark-requires : goal.mark-requires
mark-requires c = let cell = cell_on_screen _ _ c.requires in (omega arith, cell.1)

pub draw_plan-requires : goal.draw_plan-requires
draw_plan-requires c = search (move_on_screen, rules)

pub returns : goal.returns
returns c = search printed
