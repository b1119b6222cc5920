-- `console::row_view` meets its contract: of a good call, a row that is there is handed out. Assumes nothing.
use Rattle.std.proofs.Common.{◌≡◌, length, rules}
use Rattle.block.specs.Block.{row_stretch}
use Rattle.calls.specs.Verdict.{screen_verdict, first_of}
use Rattle.console.specs.Calls.{port_verdict, plain_verdict, row_call}
use Rattle.console.proofs.row_view.Goals as goal

pub returns-then-row-height_of : goal.returns-then-row-height_of
unfolding row_call plain_verdict screen_verdict first_of port_verdict
returns-then-row-height_of c =
    let there : row_call c.args.p (length c.args.screen.now) c.args.row ≡ row_stretch c.args.p.view.viewport c.args.row = search rules in
    rw there c.row_stretch.ensures
