-- `charset::stored_row` meets its contract: the part of the table that it lends is the one that the table's agreement speaks of. Assumes nothing.
use mathlib.Core.Path.{refl}
use native.Mathlib.Omega.{arith}
use Rattle.charset.specs.declared.table.TheConstants.{STORED}
use Rattle.charset.proofs.Agreement.{row_at}
use Rattle.charset.proofs.Entries.{table_agrees}
use Rattle.charset.proofs.stored_row.Goals as goal

pub returns : goal.returns
returns c =
    let whole = rw c.unwrap.ensures at c.as_array.ensures.cases in
    rw whole.same (row_at STORED c.args.mode c.row_start-start.result _ refl table_agrees c.row_start-start.ensures.place c.row_start-start.ensures.in_table (omega arith))
