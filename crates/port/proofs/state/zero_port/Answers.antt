-- `port::state::zero_port` meets its contract: field by field. Assumes nothing.
use Rattle.port.proofs.Validity.{zero_fields, four_zeros}
use Rattle.port.proofs.state.zero_port.Goals as goal

pub returns : goal.returns
returns c = let d = c.default.ensures in let g = d.1.1.1.1.1.0 in λ i. record {
  home = record { left = d.0.0 i; top = d.0.1.0 i; right = d.0.1.1.0 i; bottom = d.0.1.1.1 i };
  view = zero_fields _ d.1.0 i;
  hassaved = d.1.1.0 i;
  saved = zero_fields _ d.1.1.1.0 i;
  waiting = d.1.1.1.1.0 i;
  gathered = four_zeros _ g.long g.at i;
  count = d.1.1.1.1.1.1.0 i;
  marks = d.1.1.1.1.1.1.1 i;
}
