-- `printer::print_spaces` meets its contract: the loop keeps that what is left of the spaces, done from here, is what was asked. Assumes nothing.
use Prim.Native.Nat.{◌-◌}
use Rattle.printer.proofs.Printing.{Spacing}
use Rattle.printer.proofs.print_spaces.Given as goal

abbrev pub invariant-loop : goal.invariant-loop
invariant-loop l = Spacing l.byte l.count l.initial.next.view l.initial.next.marks l.initial.screen (l.count - l.counter) l.next.view l.next.marks l.screen
