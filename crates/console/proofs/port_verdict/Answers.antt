-- `console::port_verdict` meets its contract: a port that passes the test is accepted, and is valid. Assumes nothing.
use Rattle.std.proofs.Common.{refl, rules}
use Rattle.laws.proofs.Tests.{answered}
use Rattle.port.proofs.Validity.{decides_valid}
use Rattle.console.specs.Calls.{port_verdict}
use Rattle.console.proofs.port_verdict.Goals as goal

pub returns-then-valid_port-clause-verdict : goal.returns-then-valid_port-clause-verdict
unfolding port_verdict
returns-then-valid_port-clause-verdict c = rw (← c.valid_port.ensures, c.if-valid_port.true) refl

pub returns-then-valid_port-clause-valid : goal.returns-then-valid_port-clause-valid
returns-then-valid_port-clause-valid c = search (answered (decides_valid c.args.p), rules)
