-- Printing and each code keep the view valid in the same viewport, and each edit lies inside the viewport. Assumes nothing.
use Prim.Native.Nat.{ℕ, zero, suc, ◌-◌, ◌≤◌}
use mathlib.Core.Path.{refl, ◌∙◌, subst}
use mathlib.Core.Bool.{Bool, ◌&&◌}
use mathlib.Core.List.{List, [], ◌∷◌}
use native.Mathlib.Omega.{arith}
use lib.Dec.{ltb, eqb}
use borrow.Author.Tests.{ltb-true}
use Rattle.laws.proofs.Tests.{by_test, and_left, and_right}
use Rattle.rectangle.specs.declared.Rect.{Rect}
use Rattle.rectangle.specs.declared.Edit.{Edit}
use Rattle.rectangle.specs.declared.Motion.{Motion}
use Rattle.rectangle.specs.Local.{AllWithin}
use Rattle.rectangle.specs.Rectangles.{Legal}
use Rattle.rectangle.proofs.Local.{all_append}
use Rattle.charset.specs.Stored.{stored_byte}
use Rattle.port.specs.declared.Flags.{Flags}
use Rattle.port.specs.declared.View.{View}
use Rattle.port.specs.Valid.{ValidView}
use Rattle.port.specs.State.{cursor_at, with_flags, with_modes}
use Rattle.port.specs.Effect.{Effect, becomes, draws, and_then, move_edit}
use Rattle.port.specs.Codes.{move_cursor_right, mode_of, store_cell, advance, print_byte, print, nearest_inside, nearest_rect, resize, set_port_size, in_offset_range, clear_from_line_start, clear_to_line_end, clear_line, clear_lines_above, clear_from_port_start, clear_lines_below, clear_to_port_end, clear_port_and_home, horizontal_scroll, set_vertical, set_horizontal, goto_xy, backspace, line_feed, feed_if_lf, carriage_return, home_cursor, print_spaces, dle_space_expansion, move_cursor_up}
use Rattle.port.specs.Keeps.{KeepsView}

-- one effect and then another
pub keeps_then : {home : Rect} {v : View} {e : Effect} {f : View → Effect} → KeepsView home v e → ((w : View) → ValidView home w → KeepsView home w (f w)) → KeepsView home v (and_then e f)
keeps_then {home} {v} {e} {f} k g =
    let n = g e.view k.view in
    record {
      view = n.view;
      viewport = n.viewport ∙ k.viewport;
      edits = all_append v.viewport e.edits (f e.view).edits k.edits (subst (λ (r : Rect). AllWithin r (f e.view).edits) k.viewport n.edits);
    }

nearest_in : (low high b : ℕ) → low ≤ high → (low ≤ nearest_inside low high b) × (nearest_inside low high b ≤ high)
unfolding nearest_inside
nearest_in low high b h = omega arith

module _ (home : Rect) (v : View) (h : ValidView home v) where
  stays : KeepsView home v (becomes v)
  stays = record { view = h; viewport = refl; edits = tt }

  drawn : (es : List Edit) → AllWithin v.viewport es → KeepsView home v (draws v es)
  drawn es a = record { view = h; viewport = refl; edits = a }

  pub keeps_right : KeepsView home v (move_cursor_right v)
  unfolding move_cursor_right
  keeps_right =
      by_test (KeepsView home v) (ltb v.column v.viewport.right) (λ t. record { view = omega (arith, ltb-true); viewport = refl; edits = tt }) λ _.
      by_test (KeepsView home v) (v.flags.wrap && ltb v.line v.viewport.bottom)
      (λ t. let u = and_right v.flags.wrap (ltb v.line v.viewport.bottom) t in record { view = omega (arith, ltb-true); viewport = refl; edits = tt }) λ _.
      by_test (KeepsView home v) (v.flags.wrap && v.flags.scroll) (λ _. record { view = omega arith; viewport = refl; edits = (omega arith, tt) }) (λ _. stays)

  pub keeps_advance : KeepsView home v (advance v)
  unfolding advance
  keeps_advance = by_test (KeepsView home v) v.flags.advance (λ _. keeps_right) (λ _. stays)

  keeps_store : (byte : ℕ) → KeepsView home v (store_cell v byte)
  unfolding store_cell
  keeps_store byte = drawn _ (omega arith, tt)

  pub keeps_line_start : KeepsView home v (clear_from_line_start v)
  keeps_line_start = drawn _ (omega arith, tt)

  pub keeps_line_end : KeepsView home v (clear_to_line_end v)
  keeps_line_end = drawn _ (omega arith, tt)

  pub keeps_clear_line : KeepsView home v (clear_line v)
  keeps_clear_line = drawn _ (omega arith, tt)

  keeps_lines_above : KeepsView home v (draws v (clear_lines_above v))
  unfolding clear_lines_above
  keeps_lines_above = drawn _ (by_test (AllWithin v.viewport) (ltb v.viewport.top v.line) (λ t. (omega (arith, ltb-true), tt)) (λ _. tt))

  keeps_lines_below : KeepsView home v (clear_lines_below v)
  unfolding clear_lines_below
  keeps_lines_below = drawn _ (by_test (AllWithin v.viewport) (ltb v.line v.viewport.bottom) (λ t. (omega (arith, ltb-true), tt)) (λ _. tt))

  pub keeps_clear_port : KeepsView home v (clear_port_and_home v)
  keeps_clear_port = record { view = omega arith; viewport = refl; edits = (omega arith, tt) }

  pub keeps_horizontal_scroll : (b : ℕ) → KeepsView home v (horizontal_scroll v b)
  unfolding horizontal_scroll
  keeps_horizontal_scroll b =
      by_test (KeepsView home v) (eqb b 0) (λ _. stays) λ _.
      by_test (KeepsView home v) (ltb b 128) (λ _. drawn _ (omega arith, tt)) (λ _. drawn _ (omega arith, tt))

  pub keeps_vertical : (b : ℕ) → KeepsView home v (becomes (set_vertical v b))
  unfolding set_vertical
  keeps_vertical b = by_test (λ (w : View). KeepsView home v (becomes w)) (ltb b 32) (λ _. stays) (λ _. record { view = omega arith; viewport = refl; edits = tt })

  pub keeps_horizontal : (b : ℕ) → KeepsView home v (becomes (set_horizontal v b))
  unfolding set_horizontal
  keeps_horizontal b = by_test (λ (w : View). KeepsView home v (becomes w)) (ltb b 32) (λ _. stays) (λ _. record { view = omega arith; viewport = refl; edits = tt })

  pub keeps_backspace : KeepsView home v (backspace v)
  unfolding backspace
  keeps_backspace =
      by_test (KeepsView home v) (ltb v.viewport.left v.column) (λ t. record { view = omega (arith, ltb-true); viewport = refl; edits = tt }) λ _.
      by_test (KeepsView home v) (v.flags.wrap && ltb v.viewport.top v.line)
      (λ t. let u = and_right v.flags.wrap (ltb v.viewport.top v.line) t in record { view = omega (arith, ltb-true); viewport = refl; edits = tt }) λ _.
      by_test (KeepsView home v) (v.flags.wrap && v.flags.scroll) (λ _. record { view = omega arith; viewport = refl; edits = (omega arith, tt) }) (λ _. stays)

  pub keeps_line_feed : KeepsView home v (line_feed v)
  unfolding line_feed
  keeps_line_feed =
      by_test (KeepsView home v) (ltb v.line v.viewport.bottom) (λ t. record { view = omega (arith, ltb-true); viewport = refl; edits = tt }) λ _.
      by_test (KeepsView home v) v.flags.scroll (λ _. drawn _ (omega arith, tt)) (λ _. stays)

  keeps_feed_if : KeepsView home v (feed_if_lf v)
  unfolding feed_if_lf
  keeps_feed_if = by_test (KeepsView home v) v.flags.lf (λ _. keeps_line_feed) (λ _. stays)

  pub keeps_modes : (inverse mousetext : Bool) → KeepsView home v (becomes (with_modes v inverse mousetext))
  keeps_modes inverse mousetext = record { view = omega arith; viewport = refl; edits = tt }

  pub keeps_flags : (flags : Flags) → KeepsView home v (becomes (with_flags v flags))
  keeps_flags flags = record { view = omega arith; viewport = refl; edits = tt }

  pub keeps_home_cursor : KeepsView home v (becomes (home_cursor v))
  keeps_home_cursor = record { view = omega arith; viewport = refl; edits = tt }

  pub keeps_moves : (m : Motion) → KeepsView home v (draws v (move_edit v m ∷ []))
  keeps_moves m = drawn _ (omega arith, tt)

  pub keeps_up : KeepsView home v (move_cursor_up v)
  unfolding move_cursor_up
  keeps_up =
      by_test (KeepsView home v) (ltb v.viewport.top v.line) (λ t. record { view = omega (arith, ltb-true); viewport = refl; edits = tt }) λ _.
      by_test (KeepsView home v) v.flags.scroll (λ _. drawn _ (omega arith, tt)) (λ _. stays)

  -- $02 gives a valid view, perhaps in another viewport
  pub size_valid : Legal home → (left top right bottom : ℕ) → ValidView home (set_port_size home v left top right bottom)
  unfolding set_port_size resize
  size_valid l left top right bottom =
      let r = nearest_rect home left top right bottom in
      let in_left = nearest_in home.left home.right left (omega arith) in
      let in_top = nearest_in home.top home.bottom top (omega arith) in
      let in_right = nearest_in home.left home.right right (omega arith) in
      let in_bottom = nearest_in home.top home.bottom bottom (omega arith) in
      by_test (ValidView home) ((in_offset_range left && in_offset_range top) && (in_offset_range right && in_offset_range bottom))
      (λ _. by_test (ValidView home) (ltb r.left r.right && ltb r.top r.bottom)
      (λ t. let wide = ltb-true r.left r.right (and_left (ltb r.left r.right) (ltb r.top r.bottom) t) in
      let tall = ltb-true r.top r.bottom (and_right (ltb r.left r.right) (ltb r.top r.bottom) t) in
      omega arith)
      (λ _. h))
      (λ _. h)

pub keeps_print_byte : (home : Rect) (v : View) → ValidView home v → (byte : ℕ) → KeepsView home v (print_byte v byte)
unfolding print_byte
keeps_print_byte home v h byte = keeps_then (keeps_store home v h byte) (keeps_advance home)

pub keeps_print : (home : Rect) (v : View) → ValidView home v → (code : ℕ) → KeepsView home v (print v code)
unfolding print
keeps_print home v h code = keeps_print_byte home v h (stored_byte (mode_of v) code)

pub keeps_port_start : (home : Rect) (v : View) → ValidView home v → KeepsView home v (clear_from_port_start v)
unfolding clear_from_port_start
keeps_port_start home v h = keeps_then (keeps_lines_above home v h) (keeps_line_start home)

pub keeps_port_end : (home : Rect) (v : View) → ValidView home v → KeepsView home v (clear_to_port_end v)
unfolding clear_to_port_end
keeps_port_end home v h = keeps_then (keeps_line_end home v h) (keeps_lines_below home)

pub keeps_return : (home : Rect) (v : View) → ValidView home v → KeepsView home v (carriage_return v)
unfolding carriage_return
keeps_return home v h = keeps_then {e = becomes (cursor_at v v.viewport.left v.line)} (record { view = omega arith; viewport = refl; edits = tt }) (keeps_feed_if home)

pub keeps_goto : (home : Rect) (v : View) → ValidView home v → (column line : ℕ) → KeepsView home v (becomes (goto_xy v column line))
keeps_goto home v h column line = keeps_then (keeps_horizontal home v h column) (λ w k. keeps_vertical home w k line)

pub keeps_spaces : (home : Rect) (n : ℕ) (v : View) → ValidView home v → KeepsView home v (print_spaces n v)
unfolding print_spaces
keeps_spaces home zero v h = stays home v h
keeps_spaces home (suc n) v h = keeps_then (keeps_print home v h 0x20) (keeps_spaces home n)

pub keeps_dle : (home : Rect) (v : View) → ValidView home v → (b : ℕ) → KeepsView home v (dle_space_expansion v b)
unfolding dle_space_expansion
keeps_dle home v h b = by_test (KeepsView home v) v.flags.dle (λ _. keeps_spaces home (b - 32) v h) (λ _. stays home v h)
