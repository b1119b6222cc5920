-- `printer::print_run` meets its contract: a run that was stored in the line is printed; without advance there is none. Assumes nothing.
use native.Mathlib.Omega.{arith}
use borrow.Author.Rules.{rules}
use Rattle.printer.proofs.Codes.{run_fits, run_printed, none_printed}
use Rattle.printer.proofs.print_run.Goals as goal

pub store_run-requires : goal.store_run-requires
store_run-requires c = (omega arith, omega arith)

pub returns-then-not-v : goal.returns-then-not-v
returns-then-not-v c = search (none_printed, arith, rules)

pub returns : goal.returns
returns c = search (run_fits, run_printed, rules)
