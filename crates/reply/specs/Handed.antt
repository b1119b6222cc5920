-- What a call hands back in code, over the type of its state, a port or a multiplexer: its parts, put together. Assumes nothing.
use Rattle.std.specs.Prelude.{ℕ}
use Rattle.reply.specs.declared.Status.{Status}
use Rattle.reply.specs.declared.Answer.{Answer}
use Rattle.reply.specs.declared.Taking.{Taking}

abbrev pub answer_of : {S : Type 0} → Status → S → ℕ → Answer S
answer_of status state count = record { status = status; state = state; count = count }

abbrev pub taking_of : {S : Type 0} → Status → S → ℕ → ℕ → Taking S
taking_of status state marks count = record { status = status; state = state; marks = marks; count = count }
