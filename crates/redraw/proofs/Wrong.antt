-- No write that meets the promise spares equal bytes: a space on a blank screen changes no cell, and marks its line. Assumes nothing.
use Prim.Native.Nat.{ℕ, ◌<◌}
use mathlib.Core.Path.{◌≡◌, refl, sym, ap, ◌∙◌}
use mathlib.Core.List.{List, [], ◌∷◌}
use native.Mathlib.Omega.{arith}
use lib.ListN.{get_or}
use lib.Seq.{ext_get_or}
use Rattle.laws.proofs.Tests.{by_test}
use Rattle.rectangle.specs.declared.Rect.{Rect}
use Rattle.rectangle.specs.declared.Motion.TheVariants.{Clear}
use Rattle.rectangle.specs.Cells.{inside}
use Rattle.rectangle.specs.Rectangles.{cell_at}
use Rattle.rectangle.specs.Edit.{vacated, edited_cell, edited, draw}
use Rattle.rectangle.proofs.Local.{length_edited, edited_at}
use Rattle.screen.specs.Size.{blank_screen}
use Rattle.screen.proofs.Sizes.{blank_at, blank_size}
use Rattle.charset.specs.Stored.{in_range, stored_symbol, stored_capital, stored_high, stored_byte}
use Rattle.marks.specs.Marks.{marked}
use Rattle.port.specs.State.{zero_view}
use Rattle.port.specs.Valid.{parameters}
use Rattle.port.specs.Codes.{move_cursor_right, mode_of, store_cell, advance, print_byte, print}
use Rattle.port.specs.Step.{obey, step}
use Rattle.port.specs.Stream.{stream}
use Rattle.calls.specs.Calls.{PortReply, PortCall, written}
use Rattle.console.specs.Calls.{fresh_console, write_call}
use Rattle.console.proofs.Answers.{accepted}
use Rattle.examples.specs.Wrong.{Meets}
use Rattle.examples.proofs.Computed.{fresh}
use Rattle.redraw.specs.Wrong.{SparesEqualBytes}

space : List ℕ
space = 0x20 ∷ []

-- a blank stored where a blank is
blank_again : (r : Rect) → edited r Clear 0xa0 blank_screen ≡ blank_screen
unfolding edited_cell vacated
blank_again r =
    ext_get_or 0 (edited r Clear 0xa0 blank_screen) blank_screen (length_edited r Clear 0xa0 blank_screen ∙ sym blank_size) λ k h.
    let small : k < 1920 = rw (length_edited r Clear 0xa0 blank_screen) at h in
    edited_at r Clear 0xa0 blank_screen k small ∙ by_test (λ (b : ℕ). b ≡ get_or blank_screen k 0) (inside r k) (λ _. sym (blank_at k small)) (λ _. refl)

accepted_space : write_call fresh_console blank_screen space ≡ written fresh_console blank_screen space
accepted_space = accepted written fresh_console blank_screen space fresh blank_size

space_screen : (written fresh_console blank_screen space).screen ≡ edited (cell_at 0 0) Clear 0xa0 blank_screen
unfolding space written draw stream step parameters obey print print_byte store_cell advance move_cursor_right mode_of stored_byte stored_symbol stored_capital stored_high in_range zero_view
space_screen = refl

space_marks : (written fresh_console blank_screen space).state.marks ≡ 1
unfolding space written stream step parameters obey print print_byte store_cell advance move_cursor_right mode_of stored_byte stored_symbol stored_capital stored_high in_range zero_view marked
space_marks = refl

pub not_spares_equal_bytes : (f : PortCall) → Meets f → SparesEqualBytes f → ⊥
not_spares_equal_bytes f meets spares =
    let promise = meets fresh_console blank_screen space in
    let same = promise.cells ∙ ap (λ (r : PortReply). r.screen) accepted_space ∙ space_screen ∙ blank_again (cell_at 0 0) in
    let marks = sym (promise.state_is ∙ ap (λ (r : PortReply). r.state) accepted_space) in
    let one : ◌≡◌ {A = ℕ} 1 0 = sym space_marks ∙ ap (λ q. q.marks) marks ∙ spares fresh_console blank_screen space same in
    omega arith
