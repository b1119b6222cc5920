-- `printer::draw::draw_change` meets its contract: an edit or none, as a list of at most one. Assumes nothing.
use native.Mathlib.Nat.{le_refl}
use borrow.Author.Rules.{rules}
use Rattle.printer.proofs.Draws.{drawings}
use Rattle.printer.proofs.draw.draw_change.Goals as goal

pub apply-requires : goal.apply-requires
apply-requires c = search (drawings, rules)

pub mark-requires : goal.mark-requires
mark-requires c = search (drawings, le_refl)

pub returns-in-None : goal.returns-in-None
returns-in-None c = search drawings

pub returns-in-Some : goal.returns-in-Some
returns-in-Some c = search drawings
