-- `executor::saved::obey_on_saved` meets its contract: $01, or else $04. Assumes nothing.
use borrow.Author.Rules.{rules}
use Rattle.port.specs.Step.{control}
use Rattle.executor.proofs.Executing.{saves_as, other_saves}
use Rattle.executor.proofs.saved.obey_on_saved.Goals as goal

pub returns-then-code-eq1 : goal.returns-then-code-eq1
unfolding control
returns-then-code-eq1 c = search (saves_as, rules)

pub returns : goal.returns
unfolding control
returns c = let last = other_saves c.args.code c.requires c.if-code-eq1.false in search saves_as
