-- The table of the crate agrees with the range rule: the test of all 768 entries, which antt computes here and nowhere else. Assumes nothing.
use mathlib.Core.Path.{refl}
use Rattle.charset.specs.declared.table.TheConstants.{STORED}
use Rattle.charset.specs.Stored.{Agrees, in_range, stored_symbol, stored_capital, stored_high, stored_byte}
use Rattle.charset.proofs.Agreement.{agrees}

pub table_agrees : Agrees STORED
unfolding in_range stored_symbol stored_capital stored_high stored_byte
table_agrees = agrees _ refl tt
