-- `slots::valid::compatible` meets its contract: its tests are joined as in the definition. Assumes nothing.
use Rattle.std.proofs.Common.{Bool, ap, not, ◌&&◌, ◌||◌, eqb}
use Rattle.slots.specs.Valid.{compatible}
use Rattle.slots.proofs.valid.compatible.Goals as goal

pub returns : goal.returns
unfolding compatible
returns c = let x = c.args.x in let y = c.args.y in
    ap (λ (shared : Bool). (eqb x.client 0 || eqb y.client 0) || (not (eqb x.client y.client) && not shared)) c.shares_cell.ensures
