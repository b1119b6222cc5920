-- `console::take_marks` meets its contract: a refusal hands no marks out. Assumes nothing.
use Rattle.std.proofs.Common.{◌≡◌, ◌∙◌, sym, refl, []}
use Rattle.port.specs.declared.Port.{Port}
use Rattle.reply.specs.declared.Status.{Status}
use Rattle.reply.specs.declared.Taking.{Taking}
use Rattle.reply.specs.Reply.{refusal_with, Replies}
use Rattle.reply.specs.Handed.{taking_of}
use Rattle.calls.specs.Taking.{taken_of, none_taken}
use Rattle.calls.proofs.Verdicts.{on_refused}
use Rattle.console.proofs.take_marks.Goals as goal

none_out : (p : Port) (status : Status) (a : Taking Port) → a ≡ taking_of status p 0 0 → Replies (refusal_with none_taken status p [] []) a.status a.state (taken_of a.marks a.count) [] []
none_out p status a is = rw is (record { status_is = refl; state_is = refl; result_is = refl; cells = refl; bytes = refl })

pub returns-in-Err : goal.returns-in-Err
returns-in-Err c = rw (on_refused none_taken c.args.p _ _ _ c.in-Err.status (sym c.port_verdict.ensures.verdict ∙ c.in-Err.is)) (search none_out)
