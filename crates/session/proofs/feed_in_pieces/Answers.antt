-- `session::feed_in_pieces` meets its contract: each turn feeds a piece, and the pieces are the bytes. Assumes nothing.
use Rattle.std.proofs.Common.{◌<◌, length, arith, rules}
use Rattle.std.proofs.lemmas.Bool.Decides.{nat_tests}
use Rattle.session.proofs.Feeding.{piece_more, pieces_end}
use Rattle.session.proofs.feed_in_pieces.Goals as goal

pub loop-piece-preserved : goal.loop-piece-preserved
loop-piece-preserved c = search (piece_more, rules)

pub returns : goal.returns
returns c =
    let some : 0 < length c.args.bytes.now = grind (arith, nat_tests, c.if-is_empty.ensures) in
    pieces_end _ _ _ c.loop-piece.invariant.1 some c.in-None.ensures.steps.1.0
