-- `printer::print_codes` meets its contract: a run, with the cursor after it, or one code. Assumes nothing.
use borrow.Author.Rules.{rules}
use Rattle.printer.proofs.Printing.{stored_as}
use Rattle.printer.proofs.Codes.{byte_on_screen, line_on_screen, run_marked, one_printed}
use Rattle.printer.proofs.print_codes.Goals as goal

pub mark-requires : goal.mark-requires
mark-requires c = search (line_on_screen, rules)

pub returns-then-run-gt0 : goal.returns-then-run-gt0
returns-then-run-gt0 c = search (run_marked, rules)

pub print_byte-requires : goal.print_byte-requires
print_byte-requires c = search (byte_on_screen, rules)

pub returns : goal.returns
returns c = search (one_printed, stored_as, rules)
