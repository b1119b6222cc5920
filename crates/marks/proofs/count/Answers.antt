-- `marks::count` meets its contract: the ones of 24 bits are the lines that are marked. Assumes nothing.
use mathlib.Core.Path.{refl}
use borrow.Author.Rules.{rules}
use lib.Count.{ones-le}
use Rattle.marks.proofs.Marking.{ones_counted}
use Rattle.marks.proofs.count.Goals as goal

pub overflow_cast-result : goal.overflow_cast-result
overflow_cast-result c = let few = ones-le 24 c.args.marks c.requires in search rules

pub returns : goal.returns
returns c = ones_counted c.args.marks c.requires refl
