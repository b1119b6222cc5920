-- A block handed out and put straight back changes nothing but the marks; a good row is there. Assumes nothing.
use Prim.Native.Nat.{ℕ, ◌≤◌, ◌<◌}
use mathlib.Core.Path.{◌≡◌, ap, ◌∙◌}
use mathlib.Core.List.{List}
use native.Mathlib.Omega.{arith}
use lib.ListN.{length, take}
use borrow.Author.Tests.{lt-ltb}
use Rattle.laws.specs.Parts.{Stretch, bytes_of}
use Rattle.rectangle.specs.Rectangles.{width_of, height_of}
use Rattle.screen.proofs.Sizes.{decides_screen}
use Rattle.block.specs.Block.{block_length, row_cells, row_stretch}
use Rattle.block.proofs.Rows.{row_length}
use Rattle.port.specs.declared.Port.{Port}
use Rattle.port.specs.Valid.{ValidPort}
use Rattle.port.proofs.Validity.{decides_valid, viewport_on_screen}
use Rattle.reply.specs.declared.Status.TheVariants.{Done}
use Rattle.reply.specs.Laws.{RoundTrip}
use Rattle.calls.specs.Calls.{PortReply, viewport_marked, block_returned, block_restored}
use Rattle.calls.proofs.Blocks.{handed_out, handed_out_lem, put_back, put_back_lem}
use Rattle.console.specs.Calls.{return_call, restore_call, row_call}
use Rattle.console.proofs.Answers.{accepted}

-- the restore starts from the port, the screen and the front of the block that the return left
abbrev pub restore_after : PortReply → PortReply
restore_after r = restore_call r.state r.screen (take r.result r.block)

module _ (p : Port) (s block : List ℕ) (v : ValidPort p) (len : length s ≡ 1920) (room : block_length p.view.viewport ≤ length block) where
  returned : return_call p s block ≡ handed_out p s block v len room
  returned = accepted block_returned p s block v len ∙ handed_out_lem p s block v len room

  again : restore_after (return_call p s block) ≡ put_back p s block v len room
  again = ap restore_after returned ∙ accepted block_restored p s _ v len ∙ put_back_lem p s block v len room

  pub block_round_trip : RoundTrip Done (viewport_marked p) s (return_call p s block) (restore_after (return_call p s block))
  block_round_trip = record {
    returned_done = ap (λ (r : PortReply). r.status) returned;
    restored_done = ap (λ (r : PortReply). r.status) again;
    state = ap (λ (r : PortReply). r.state) again;
    screen = ap (λ (r : PortReply). r.screen) again;
  }

-- a good row is that stretch of the lent screen, and never empty
module _ (p : Port) (s : List ℕ) (row : ℕ) (v : ValidPort p) (len : length s ≡ 1920) (low : row < height_of p.view.viewport) where
  pub row_shown : row_call p (length s) row ≡ row_stretch p.view.viewport row
  unfolding row_call
  row_shown = simp ((decides_screen (length s)).passes len, (decides_valid p).passes v, lt-ltb row (height_of p.view.viewport) low)

  -- not a column short
  pub row_width : length (bytes_of (row_call p (length s) row) s) ≡ width_of p.view.viewport
  unfolding row_cells
  row_width = ap (λ (x : Stretch). length (bytes_of x s)) row_shown ∙ row_length p.view.viewport row s (viewport_on_screen p v) low len

  pub row_has_cells : 0 < length (bytes_of (row_call p (length s) row) s)
  row_has_cells = let wide = v.view.legal.wide in let size = row_width in omega arith
