-- `port::state::zero_view` meets its contract: field by field. Assumes nothing.
use Rattle.port.proofs.Validity.{zero_fields}
use Rattle.port.proofs.state.zero_view.Goals as goal

pub returns : goal.returns
returns c = zero_fields c.default.result c.default.ensures
