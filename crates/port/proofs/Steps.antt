-- A byte keeps a port valid and at its home, and each edit lies inside the viewport. Assumes nothing.
use Prim.Native.Nat.{ℕ, ◌+◌, ◌<◌}
use mathlib.Core.Path.{refl, ◌∙◌}
use mathlib.Core.Bool.{true, false}
use mathlib.Core.Logic.{inr}
use mathlib.Core.List.{List}
use native.Mathlib.Omega.{arith}
use lib.Dec.{ltb, eqb}
use lib.ListN.{get_or, set}
use lib.Seq.{get_or-set_other}
use borrow.Author.Tests.{ltb-true}
use Rattle.laws.proofs.Tests.{by_test}
use Rattle.rectangle.specs.declared.Edit.{Edit}
use Rattle.rectangle.specs.declared.Motion.TheVariants.{Up, Down}
use Rattle.rectangle.specs.Local.{AllWithin}
use Rattle.rectangle.proofs.Local.{all_widen}
use Rattle.marks.specs.Marks.{marked_by}
use Rattle.marks.proofs.Marking.{marked_within}
use Rattle.charset.specs.Stored.{is_printing}
use Rattle.port.specs.declared.Port.{Port}
use Rattle.port.specs.State.{no_parameters, with_view, with_saved, default_view}
use Rattle.port.specs.Valid.{parameters, used_or_zero, unused_zero, count_fits, valid_wait, ValidView, ValidWait, ValidPort}
use Rattle.port.specs.Effect.{Effect}
use Rattle.port.specs.Step.{becomes_port, on_view, push_and_reset, pop, wait_for, control, obey, perform, parameter, step}
use Rattle.port.specs.Keeps.{KeepsView, KeepsPort}
use Rattle.port.proofs.Validity.{no_parameters_lem, view_valid, saved_valid, wait_valid, marks_valid, default_valid, none_waits, decides_wait}
use Rattle.port.proofs.Views.{keeps_right, keeps_print, keeps_line_start, keeps_line_end, keeps_clear_line, keeps_clear_port, keeps_port_start, keeps_port_end, keeps_horizontal_scroll, keeps_vertical, keeps_horizontal, keeps_goto, keeps_backspace, keeps_line_feed, keeps_return, keeps_modes, keeps_flags, keeps_home_cursor, keeps_moves, keeps_up, keeps_dle, size_valid}

module _ (p : Port) (h : ValidPort p) where
  in_home : (es : List Edit) → AllWithin p.view.viewport es → AllWithin p.home es
  in_home = all_widen p.view.viewport p.home (omega arith) (omega arith) (omega arith) (omega arith)

  -- what keeps the view keeps the port
  keeps_view : (e : Effect) → KeepsView p.home p.view e → KeepsPort p (on_view p e)
  keeps_view e k = record {
    valid =
        marks_valid (with_view p e.view) (view_valid p h e.view k.view) (marked_by p.marks e.edits)
        (marked_within p.marks p.home e.edits (in_home e.edits k.edits) h.marks);
    home = refl;
    edits = k.edits;
    marks = refl;
  }

  keeps_idle : KeepsPort p (becomes_port p)
  keeps_idle = record { valid = h; home = refl; edits = tt; marks = refl }

  keeps_push : KeepsPort p (becomes_port (push_and_reset p))
  keeps_push = record {
    valid = view_valid (with_saved p true p.view) (saved_valid p h p.view h.view) (default_view p) (default_valid p h.home);
    home = refl;
    edits = tt;
    marks = refl;
  }

  keeps_pop : KeepsPort p (becomes_port (pop p))
  unfolding pop
  keeps_pop = record {
    valid = view_valid p h _ (by_test (ValidView p.home) p.hassaved h.saved (λ _. default_valid p h.home));
    home = refl;
    edits = tt;
    marks = refl;
  }

  -- a command that waits with nothing gathered
  keeps_wait : (code : ℕ) → ValidWait code no_parameters 0 → KeepsPort p (becomes_port (wait_for p code))
  keeps_wait code k = record { valid = wait_valid p h code no_parameters 0 k; home = refl; edits = tt; marks = refl }

-- a command with its last parameter: none waits any more
keeps_performed : (p : Port) → ValidPort p → (e : Effect) → KeepsView p.home p.view e → KeepsPort p (on_view (wait_for p 0) e)
keeps_performed p h e k =
    let m = keeps_view (wait_for p 0) (wait_valid p h 0 no_parameters 0 none_waits) e k in
    record { valid = m.valid; home = refl; edits = m.edits; marks = refl }

keeps_control : (p : Port) → ValidPort p → (code : ℕ) → KeepsPort p (control p code)
unfolding control parameters valid_wait count_fits unused_zero used_or_zero
keeps_control p h code =
    by_test (KeepsPort p) (eqb code 0x00) (λ _. keeps_idle p h) λ _.
    by_test (KeepsPort p) (eqb code 0x01) (λ _. keeps_push p h) λ _.
    by_test (KeepsPort p) (eqb code 0x02) (λ _. keeps_wait p h 0x02 ((decides_wait 0x02 no_parameters 0).holds refl)) λ _.
    by_test (KeepsPort p) (eqb code 0x03) (λ _. keeps_view p h _ (keeps_line_start p.home p.view h.view)) λ _.
    by_test (KeepsPort p) (eqb code 0x04) (λ _. keeps_pop p h) λ _.
    by_test (KeepsPort p) (eqb code 0x05) (λ _. keeps_wait p h 0x05 ((decides_wait 0x05 no_parameters 0).holds refl)) λ _.
    by_test (KeepsPort p) (eqb code 0x06) (λ _. keeps_wait p h 0x06 ((decides_wait 0x06 no_parameters 0).holds refl)) λ _.
    by_test (KeepsPort p) (eqb code 0x07) (λ _. record { valid = h; home = refl; edits = tt; marks = refl }) λ _.
    by_test (KeepsPort p) (eqb code 0x08) (λ _. keeps_view p h _ (keeps_backspace p.home p.view h.view)) λ _.
    by_test (KeepsPort p) (eqb code 0x09) (λ _. keeps_idle p h) λ _.
    by_test (KeepsPort p) (eqb code 0x0a) (λ _. keeps_view p h _ (keeps_line_feed p.home p.view h.view)) λ _.
    by_test (KeepsPort p) (eqb code 0x0b) (λ _. keeps_view p h _ (keeps_port_end p.home p.view h.view)) λ _.
    by_test (KeepsPort p) (eqb code 0x0c) (λ _. keeps_view p h _ (keeps_clear_port p.home p.view h.view)) λ _.
    by_test (KeepsPort p) (eqb code 0x0d) (λ _. keeps_view p h _ (keeps_return p.home p.view h.view)) λ _.
    by_test (KeepsPort p) (eqb code 0x0e) (λ _. keeps_view p h _ (keeps_modes p.home p.view h.view false p.view.mousetext)) λ _.
    by_test (KeepsPort p) (eqb code 0x0f) (λ _. keeps_view p h _ (keeps_modes p.home p.view h.view true p.view.mousetext)) λ _.
    by_test (KeepsPort p) (eqb code 0x10) (λ _. keeps_wait p h 0x10 ((decides_wait 0x10 no_parameters 0).holds refl)) λ _.
    by_test (KeepsPort p) (eqb code 0x11) (λ _. keeps_idle p h) λ _.
    by_test (KeepsPort p) (eqb code 0x12) (λ _. keeps_idle p h) λ _.
    by_test (KeepsPort p) (eqb code 0x13) (λ _. keeps_view p h _ (keeps_port_start p.home p.view h.view)) λ _.
    by_test (KeepsPort p) (eqb code 0x14) (λ _. keeps_wait p h 0x14 ((decides_wait 0x14 no_parameters 0).holds refl)) λ _.
    by_test (KeepsPort p) (eqb code 0x15) (λ _. keeps_wait p h 0x15 ((decides_wait 0x15 no_parameters 0).holds refl)) λ _.
    by_test (KeepsPort p) (eqb code 0x16) (λ _. keeps_view p h _ (keeps_moves p.home p.view h.view Down)) λ _.
    by_test (KeepsPort p) (eqb code 0x17) (λ _. keeps_view p h _ (keeps_moves p.home p.view h.view Up)) λ _.
    by_test (KeepsPort p) (eqb code 0x18) (λ _. keeps_view p h _ (keeps_modes p.home p.view h.view p.view.inverse false)) λ _.
    by_test (KeepsPort p) (eqb code 0x19) (λ _. keeps_view p h _ (keeps_home_cursor p.home p.view h.view)) λ _.
    by_test (KeepsPort p) (eqb code 0x1a) (λ _. keeps_view p h _ (keeps_clear_line p.home p.view h.view)) λ _.
    by_test (KeepsPort p) (eqb code 0x1b) (λ _. keeps_view p h _ (keeps_modes p.home p.view h.view p.view.inverse true)) λ _.
    by_test (KeepsPort p) (eqb code 0x1c) (λ _. keeps_view p h _ (keeps_right p.home p.view h.view)) λ _.
    by_test (KeepsPort p) (eqb code 0x1d) (λ _. keeps_view p h _ (keeps_line_end p.home p.view h.view)) λ _.
    by_test (KeepsPort p) (eqb code 0x1e) (λ _. keeps_wait p h 0x1e ((decides_wait 0x1e no_parameters 0).holds refl)) λ _.
    keeps_view p h _ (keeps_up p.home p.view h.view)

keeps_obey : (p : Port) → ValidPort p → (code : ℕ) → KeepsPort p (obey p code)
unfolding obey
keeps_obey p h code = by_test (KeepsPort p) (is_printing code) (λ _. keeps_view p h _ (keeps_print p.home p.view h.view code)) (λ _. keeps_control p h code)

keeps_perform : (p : Port) → ValidPort p → (code b : ℕ) → KeepsPort p (perform p code b)
unfolding perform
keeps_perform p h code b =
    let first : ℕ = get_or p.gathered 0 0 in
    by_test (KeepsPort p) (eqb code 0x02)
    (λ _. record { valid = view_valid (wait_for p 0) (wait_valid p h 0 no_parameters 0 none_waits) _ (size_valid p.home p.view h.view h.home first (get_or p.gathered 1 0) (get_or p.gathered 2 0) b); home = refl; edits = tt; marks = refl }) λ _.
    by_test (KeepsPort p) (eqb code 0x05) (λ _. keeps_performed p h _ (keeps_horizontal_scroll p.home p.view h.view b)) λ _.
    by_test (KeepsPort p) (eqb code 0x06) (λ _. keeps_performed p h _ (keeps_vertical p.home p.view h.view b)) λ _.
    by_test (KeepsPort p) (eqb code 0x10) (λ _. keeps_performed p h _ (keeps_dle p.home p.view h.view b)) λ _.
    by_test (KeepsPort p) (eqb code 0x14) (λ _. keeps_performed p h _ (keeps_horizontal p.home p.view h.view b)) λ _.
    by_test (KeepsPort p) (eqb code 0x15) (λ _. keeps_performed p h _ (keeps_flags p.home p.view h.view _)) λ _.
    keeps_performed p h _ (keeps_goto p.home p.view h.view first b)

-- one parameter more is gathered, and more are wanted
gathers : (code : ℕ) (gathered : List ℕ) (count b : ℕ) → ValidWait code gathered count → 0 < parameters code → count + 1 < parameters code → ValidWait code (set gathered count b) (count + 1)
gathers code gathered count b w some more = record {
  known = inr some;
  fewer = λ _. more;
  none = λ e. absurd (no_parameters_lem code e some);
  unused = λ i small past. get_or-set_other gathered count i b 0 (omega arith) ∙ w.unused i small (omega arith);
}

keeps_parameter : (p : Port) → ValidPort p → (b : ℕ) → 0 < parameters p.waiting → KeepsPort p (parameter p b)
unfolding parameter
keeps_parameter p h b some =
    by_test (KeepsPort p) (ltb (p.count + 1) (parameters p.waiting))
    (λ t. record {
      valid = wait_valid p h p.waiting (set p.gathered p.count b) (p.count + 1) (gathers _ _ _ b h.wait some (ltb-true _ _ t));
      home = refl;
      edits = tt;
      marks = refl;
    })
    (λ _. keeps_perform p h p.waiting b)

pub keeps_step : (p : Port) → ValidPort p → (b : ℕ) → KeepsPort p (step p b)
unfolding step
keeps_step p h b = by_test (KeepsPort p) (ltb 0 (parameters p.waiting)) (λ t. keeps_parameter p h b (ltb-true _ _ t)) (λ _. keeps_obey p h b)
