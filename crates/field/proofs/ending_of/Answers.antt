-- `field::ending_of` meets its contract: an arm for each ending key. Assumes nothing.
use Rattle.laws.proofs.Choices.{choices}
use Rattle.field.specs.Endings.{ending_of}
use Rattle.field.proofs.ending_of.Goals as goal

pub returns-in-13 : goal.returns-in-13
unfolding ending_of
returns-in-13 c = rw c.in-13.is

pub returns-in-27 : goal.returns-in-27
unfolding ending_of
returns-in-27 c = rw c.in-27.is

pub returns-in_default : goal.returns-in_default
unfolding ending_of
returns-in_default c = search choices
