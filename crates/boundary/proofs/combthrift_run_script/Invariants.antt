-- `boundary::combthrift_run_script` meets its contract: each turn takes a call off the script, and its answer lies in what was left of the lent bytes. Assumes nothing.
use Rattle.std.proofs.Common.{◌≤◌, length}
use Rattle.boundary.proofs.combthrift_run_script.Given as goal

abbrev pub invariant-loop-call : goal.invariant-loop-call
invariant-loop-call l = l.to ≤ length l.answers

abbrev pub decreases-loop-call : goal.decreases-loop-call
decreases-loop-call l = length l.rest
