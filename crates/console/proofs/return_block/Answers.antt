-- `console::return_block` meets its contract: a call that is not refused is the one of `calls`, with its count. Assumes nothing.
use Rattle.calls.specs.Verdict.{on_verdict}
use Rattle.console.proofs.return_block.Goals as goal

pub returns : goal.returns
unfolding on_verdict
returns c =
    let whole = rw c.unwrap.ensures at c.as_array.ensures.cases in
    rw (← c.plain_verdict.ensures.verdict, c.in_default.is, ← whole.same) c.return_block.ensures
