-- `multiplexer::multiplexer_verdict` meets its contract: a multiplexer that passes the test is valid. Assumes nothing.
use Rattle.std.proofs.Common.{rules}
use Rattle.laws.proofs.Tests.{answered}
use Rattle.slots.proofs.Validity.{decides_multiplexer}
use Rattle.multiplexer.proofs.multiplexer_verdict.Goals as goal

pub returns-then-valid_multiplexer-clause-valid : goal.returns-then-valid_multiplexer-clause-valid
returns-then-valid_multiplexer-clause-valid c = search (answered (decides_multiplexer c.args.m), rules)
