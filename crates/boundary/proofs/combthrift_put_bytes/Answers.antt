-- `boundary::combthrift_put_bytes` meets its contract: no room, or the end of the session that was fed. Assumes nothing.
use Rattle.boundary.proofs.Streams.{bytewise_short, bytewise_runs}
use Rattle.boundary.proofs.combthrift_put_bytes.Goals as goal

pub returns-then-answer-lt12 : goal.returns-then-answer-lt12
returns-then-answer-lt12 c = search bytewise_short

pub returns : goal.returns
returns c = search bytewise_runs
