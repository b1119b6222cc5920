-- `view::place::set_port_size` meets its contract: what `resize` is given is the definition's rectangle. Assumes nothing.
use Rattle.laws.proofs.Choices.{choices}
use Rattle.port.specs.Codes.{set_port_size}
use Rattle.view.proofs.Places.{same_tests, same_edges}
use Rattle.view.proofs.place.set_port_size.Goals as goal

pub returns-then-in_offset_range : goal.returns-then-in_offset_range
unfolding set_port_size
returns-then-in_offset_range c = search (choices, same_tests, same_edges)
