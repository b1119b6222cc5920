-- `screen::store_codes` meets its contract, by its invariant. Assumes nothing.
use mathlib.Core.Path.{◌≡◌}
use native.Mathlib.Omega.{arith}
use borrow.Author.Rules.{rules}
use lib.ListN.{length}
use Rattle.screen.proofs.Runs.{none_stored, one_stored}
use Rattle.screen.proofs.store_codes.Goals as goal

pub loop-n-init : goal.loop-n-init
loop-n-init c = (search rules, λ mode is_row. none_stored _ _ _ _ _ _)

pub loop-n-preserved : goal.loop-n-preserved
loop-n-preserved c = (
  search rules,
  λ mode is_row. one_stored (c.loop-n.invariant.1 mode is_row) (omega arith) (omega arith) (omega arith) (omega arith) (omega arith) (omega arith) (omega arith) (is_row.entry _ (c.type_inv.codes c.loop-n.n).fits),
)

pub returns : goal.returns
returns c = λ mode is_row. let all : c.loop-n.n ≡ length c.args.codes.now = omega arith in rw all at (c.loop-n.invariant.1 mode is_row)
