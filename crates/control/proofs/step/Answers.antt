-- `control::step` meets its contract: where nothing waits a byte is a code, and otherwise a parameter. Assumes nothing.
use borrow.Author.Rules.{rules}
use Rattle.control.proofs.Arms.{is_code, is_parameter}
use Rattle.control.proofs.step.Goals as goal

pub control-requires : goal.control-requires
control-requires c = let code = c.requires.code c.if-a-eq0.true in search rules

pub returns-then-a-eq0 : goal.returns-then-a-eq0
returns-then-a-eq0 c = λ p at. let code = c.requires.code c.if-a-eq0.true in let done = c.control.ensures p in search is_code

pub returns : goal.returns
returns c = λ p at. let some = c.requires.wanted c.if-a-eq0.false in let done = c.parameter.ensures p at in search is_parameter
