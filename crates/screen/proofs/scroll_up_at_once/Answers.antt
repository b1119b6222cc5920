-- `screen::scroll_up_at_once` meets its contract: all lines move in the rest of the screen, from the first of them on, and the bottom one is filled. Assumes nothing.
use native.Mathlib.Omega.{arith}
use borrow.Author.Rules.{rules}
use Rattle.screen.proofs.Rest.{rest_pulled}
use Rattle.screen.proofs.Lines.{up_at_once}
use Rattle.screen.proofs.scroll_up_at_once.Goals as goal

pub returns : goal.returns
returns c =
    let lines = rest_pulled _ _ 80 _ c.args.screen.now _ c.copy_within.ensures.by_index c.copy_within.ensures.len (omega arith) (omega arith) in
    up_at_once _ (search rules) (search rules) _ _ c.told-screen lines c.fill_run.ensures (omega arith) (omega arith) (omega arith) (omega arith)
