-- `console::write_byte` meets its contract: a call that is not refused is the one of `calls`, on that byte. Assumes nothing.
use Rattle.std.proofs.Common.{[], ◌∷◌}
use Rattle.reply.specs.Reply.{Replies}
use Rattle.calls.specs.Calls.{written}
use Rattle.calls.specs.Verdict.{on_verdict}
use Rattle.console.proofs.write_byte.Goals as goal

pub returns : goal.returns
unfolding on_verdict
returns c =
    let whole = rw c.unwrap.ensures at c.as_mut_array.ensures.cases in
    let done = c.write_byte.result in
    let obeyed : Replies (written c.args.p c.unwrap.result.now (c.args.byte ∷ [])) done.status done.state done.count c.write_byte.new.screen (c.args.byte ∷ []) = c.write_byte.ensures in
    rw (← c.plain_verdict.ensures.verdict, c.in_default.is, ← whole.same) obeyed
