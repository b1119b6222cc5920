-- `port::valid::is_zero_view` meets its contract: the definition's tests, of which that of the flags is equality with flags that are all off. Assumes nothing.
use Rattle.std.proofs.Common.{rules}
use Rattle.std.proofs.Math.Bool.{and_assoc}
use Rattle.port.specs.Valid.{is_zero_view, is_zero_flags}
use Rattle.port.proofs.Validity.{beq_false}
use Rattle.port.proofs.valid.is_zero_view.Goals as goal

pub returns : goal.returns
unfolding is_zero_view is_zero_flags
returns c = search (rules, and_assoc, beq_false)
