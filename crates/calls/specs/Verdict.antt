-- Paper 01, 'What comes back': a call is refused before it starts, or made. Assumes nothing.
use Rattle.std.specs.Prelude.{ℕ, cond, List, Result, Ok, Err}
use Rattle.screen.specs.Size.{is_screen}
use Rattle.reply.specs.declared.Status.{Status}
use Rattle.reply.specs.declared.Status.TheVariants.{ScreenLength}
use Rattle.reply.specs.Reply.{Reply, refusal_with}

-- what may be refused with a status
abbrev pub Judged : Type 0 → Type 0
Judged A = Result A Status

-- whether a call is refused before it starts
abbrev pub Verdict : Type 0
Verdict = Judged (Unit {0})

abbrev pub accepted : Verdict
accepted = Ok tt

-- 1 if 'the lent screen is not exactly 1,920 bytes': of every call that takes a screen
unfoldable pub screen_verdict : ℕ → Verdict
screen_verdict size = cond (is_screen size) accepted (Err ScreenLength)

-- the first of two that refuses, and else what the second gives: 'where several apply, the smallest number that the call can give is given'
unfoldable pub first_of : {A : Type 0} → Verdict → Judged A → Judged A
first_of (Err status) next = Err status
first_of (Ok _) next = next

-- the refusal, or the reply; where it is refused, the result says nothing
unfoldable pub on_verdict : {State Result : Type 0} → Result → Verdict → State → List ℕ → List ℕ → Reply Status State Result → Reply Status State Result
on_verdict nothing (Err status) state s block reply = refusal_with nothing status state s block
on_verdict nothing (Ok _) state s block reply = reply
