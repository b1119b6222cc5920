-- `session::answer::put_end` meets its contract: a byte holds how many lines are marked. Assumes nothing.
use Rattle.std.proofs.Common.{arith}
use Rattle.session.proofs.Taken.{few_taken}
use Rattle.session.proofs.answer.put_end.Goals as goal

pub overflow_cast-answer : goal.overflow_cast-answer
overflow_cast-answer c = omega (arith, few_taken _ c.take_marks-taken.ensures)
