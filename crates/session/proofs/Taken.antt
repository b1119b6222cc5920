-- What a taking counts fits a byte. Assumes nothing.
use Rattle.std.proofs.Common.{ℕ, ◌<◌, ◌≤◌, [], ap, arith}
use Rattle.laws.proofs.Bits.{count_most}
use Rattle.marks.specs.Marks.{is_marked, line_count}
use Rattle.port.specs.declared.Port.{Port}
use Rattle.reply.specs.declared.Status.{Status}
use Rattle.reply.specs.Reply.{Replies}
use Rattle.std.specs.Prelude.{Ok, Err}
use Rattle.calls.specs.Verdict.{Verdict, on_verdict}
use Rattle.calls.specs.Taking.{Taken, taken_of, none_taken, marks_taken}
use Rattle.console.specs.Calls.{take_call, port_verdict}

-- at most 24 lines are marked, which a byte holds
lines_few : (j : Verdict) (p : Port) → (on_verdict none_taken j p [] [] (marks_taken p [] [])).result.count ≤ 24
unfolding on_verdict marks_taken line_count
lines_few (Ok _) p = count_most 24 (is_marked p.marks)
lines_few (Err status) p = omega arith

pub few_taken : (p : Port) {status : Status} {state : Port} {marks count : ℕ} → Replies (take_call p) status state (taken_of marks count) [] [] → count < 256
few_taken p r = let h = lines_few (port_verdict p) p in let is = ap (λ (x : Taken). x.count) r.result_is in omega arith
