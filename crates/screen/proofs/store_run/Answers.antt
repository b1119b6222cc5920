-- `screen::store_run` meets its contract: so many of the codes as there is room for are stored as the mode's row has them. Assumes nothing.
use Rattle.screen.proofs.Runs.{more_room}
use Rattle.screen.proofs.store_run.Goals as goal

pub returns : goal.returns
returns c = more_room c.min-most.ensures (c.store_codes.ensures c.args.mode c.stored_row.ensures)
