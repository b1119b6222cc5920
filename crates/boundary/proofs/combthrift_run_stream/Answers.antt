-- `boundary::combthrift_run_stream` meets its contract: no size, no room, or the end of the session that was fed. Assumes nothing.
use Rattle.boundary.proofs.Streams.{no_size, stream_short, stream_runs}
use Rattle.boundary.proofs.combthrift_run_stream.Goals as goal

pub returns-then-size-eq0 : goal.returns-then-size-eq0
returns-then-size-eq0 c = search no_size

pub returns-then-answer-lt12 : goal.returns-then-answer-lt12
returns-then-answer-lt12 c = search stream_short

pub returns : goal.returns
returns c = search stream_runs
