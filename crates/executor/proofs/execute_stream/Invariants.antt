-- `executor::execute_stream` meets its contract: the loop keeps that what is left of the stream, done from here, is what was asked; bells so far are at most the bytes so far. Assumes nothing.
use mathlib.Core.Path.{◌≡◌}
use lib.ListN.{length}
use Rattle.control.specs.Active.{with_active}
use Rattle.executor.proofs.Executing.{Streaming}
use Rattle.executor.proofs.execute_stream.Given as goal

abbrev pub invariant-loop-b : goal.invariant-loop-b
invariant-loop-b l = Streaming l.initial.port l.bytes l.initial.screen l.rest (with_active l.port l.active) l.bells l.screen × (l.port.home ≡ l.home)

abbrev pub decreases-loop-b : goal.decreases-loop-b
decreases-loop-b l = length l.rest
