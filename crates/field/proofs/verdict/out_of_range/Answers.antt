-- `field::verdict::out_of_range` meets its contract: the definition's test. Assumes nothing.
use Rattle.std.proofs.Common.{arith}
use Rattle.field.specs.Verdict.{out_of_range}
use Rattle.std.proofs.lemmas.Bool.Decides.{nat_tests}
use Rattle.field.proofs.verdict.out_of_range.Goals as goal

pub returns : goal.returns
unfolding out_of_range
returns c = grind (arith, nat_tests)
