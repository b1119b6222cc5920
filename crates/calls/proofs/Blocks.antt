-- A block handed out, and put straight back. Assumes nothing.
use Prim.Native.Nat.{ℕ, ◌≤◌}
use mathlib.Core.Path.{◌≡◌, ap, ◌∙◌}
use mathlib.Core.List.{List, ◌++◌}
use lib.ListN.{length, take, drop}
use lib.Seq.{take_at}
use borrow.Author.Tests.{le-ltb}
use Rattle.rectangle.specs.declared.Rect.{Rect}
use Rattle.block.specs.Block.{block_length, block_of}
use Rattle.block.proofs.Rows.{length_block, block_fits_lem}
use Rattle.block.proofs.Restores.{restore_returned}
use Rattle.port.specs.declared.Port.{Port}
use Rattle.port.specs.Valid.{ValidPort}
use Rattle.port.proofs.Validity.{viewport_on_screen}
use Rattle.reply.specs.declared.Status.TheVariants.{Done}
use Rattle.calls.specs.Calls.{PortReply, viewport_marked, block_returned, block_restored}

module _ (p : Port) (s block : List ℕ) (v : ValidPort p) (len : length s ≡ 1920) (room : block_length p.view.viewport ≤ length block) where
  abbrev rect : Rect
  rect = p.view.viewport

  -- what a return leaves
  abbrev pub handed_out : PortReply
  handed_out = record { status = Done; state = p; result = block_length rect; screen = s; block = block_of rect s ++ drop (block_length rect) block }

  pub handed_out_lem : block_returned p s block ≡ handed_out
  unfolding block_returned
  handed_out_lem = rw (le-ltb (length block) (block_length rect) room)

  -- what a restore of the block in front leaves: the screen as it was, and the port but for its marks
  abbrev pub put_back : PortReply
  put_back = record { status = Done; state = viewport_marked p; result = 0; screen = s; block = block_of rect s }

  own_block : block_restored p s (block_of rect s) ≡ put_back
  unfolding block_restored
  own_block = rw (block_fits_lem rect s (viewport_on_screen p v) len, restore_returned rect s (viewport_on_screen p v) len)

  pub put_back_lem : block_restored p s (take handed_out.result handed_out.block) ≡ put_back
  put_back_lem = ap (block_restored p s) (take_at (block_of rect s) (drop (block_length rect) block) (block_length rect) (length_block rect s (viewport_on_screen p v) len)) ∙ own_block
