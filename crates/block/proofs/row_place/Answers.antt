-- `block::row_place` meets its contract: a row and the width are the definition's. Assumes nothing.
use Prim.Native.Nat.{ℕ, ◌*◌}
use mathlib.Core.Path.{ap}
use native.Mathlib.Omega.{arith}
use Rattle.block.proofs.Rows.{row_in_block}
use Rattle.block.proofs.row_place.Goals as goal

pub returns : goal.returns
returns c =
    let before = ap (λ (width : ℕ). c.args.row * width) c.width_of.ensures in
    record {
      place = omega arith;
      in_block = omega (arith, row_in_block c.args.rect c.args.row (omega arith));
    }
