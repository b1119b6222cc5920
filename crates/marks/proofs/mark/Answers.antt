-- `marks::mark` meets its contract. Assumes nothing.
use Rattle.marks.proofs.Marking.{marked_as}
use Rattle.marks.proofs.mark.Goals as goal

pub returns : goal.returns
returns c = search marked_as
