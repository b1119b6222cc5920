-- `multiplexer::client_slot` meets its contract: of a valid multiplexer, the slot of a client has a valid port. Assumes nothing.
use Rattle.multiplexer.proofs.Clients.{open_valid}
use Rattle.multiplexer.proofs.client_slot.Goals as goal

pub returns-clause-valid : goal.returns-clause-valid
returns-clause-valid c = open_valid c.args.m c.args.client c.in_ok-multiplexer_verdict.ensures.valid c.open_slot.result c.open_slot.ensures
