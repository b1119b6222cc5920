-- Paper 01, 'The codes': one byte of a stream, as a code or as a parameter. Assumes nothing.
use Rattle.std.specs.Prelude.{ℕ, ◌+◌, true, cond, List, [], ltb, eqb, get_or, set}
use Rattle.rectangle.specs.declared.Edit.{Edit}
use Rattle.marks.specs.Marks.{marked_by}
use Rattle.charset.specs.Stored.{is_printing}
use Rattle.port.specs.declared.Port.{Port}
use Rattle.port.specs.State.{no_parameters, with_view, with_saved, with_wait, with_drawn, default_view}
use Rattle.port.specs.Valid.{parameters}
use Rattle.port.specs.Effect.{Effect, becomes}
use Rattle.port.specs.Codes.{print, set_port_size, clear_from_line_start, clear_to_line_end, clear_line, clear_from_port_start, clear_to_port_end, clear_port_and_home, horizontal_scroll, set_vertical, set_horizontal, goto_xy, backspace, line_feed, carriage_return, set_normal, set_inverse, enable_mousetext, disable_mousetext, home_cursor, dle_space_expansion, set_cursor_movement, scroll_down, scroll_up, move_cursor_right, move_cursor_up}

-- what comes of bytes: the next port, the edits of the screen in their order, the bells
pub record Outcome : Type 0 where
  pub port : Port
  pub edits : List Edit
  pub bells : ℕ

-- a port and nothing else
abbrev pub becomes_port : Port → Outcome
becomes_port p = record { port = p; edits = []; bells = 0 }

-- an effect on the view of a port: the lines that its edits store to are marked
abbrev pub on_view : Port → Effect → Outcome
on_view p e = record { port = with_drawn p e.view (marked_by p.marks e.edits); edits = e.edits; bells = 0 }

-- $00, $09, $11, $12: 'nothing'
abbrev pub idle : Port → Outcome
idle p = becomes_port p

-- $07: 'one bell'
abbrev pub ring_bell : Port → Outcome
ring_bell p = record { port = p; edits = []; bells = 1 }

-- $01: 'save viewport, cursor, flags, inverse, MouseText over any earlier save; then default state'
abbrev pub push_and_reset : Port → Port
push_and_reset p = with_view (with_saved p true p.view) (default_view p)

-- $04: 'take the saved port, which stays saved; if none, default state'
unfoldable pub pop : Port → Port
pop p = with_view p (cond p.hassaved p.saved (default_view p))

-- 'the command waits': it is the waiting code, or none is (0), and nothing is gathered
abbrev pub wait_for : Port → ℕ → Port
wait_for p code = with_wait p code no_parameters 0

-- one parameter more, 'those gathered so far'
abbrev pub gather_one : Port → ℕ → Port
gather_one p b = with_wait p p.waiting (set p.gathered p.count b) (p.count + 1)

-- a control code, each by its own arm; the last is $1F
unfoldable pub control : Port → ℕ → Outcome
control p code =
    cond (eqb code 0x00) (idle p)
    (cond (eqb code 0x01) (becomes_port (push_and_reset p))
    (cond (eqb code 0x02) (becomes_port (wait_for p 0x02))
    (cond (eqb code 0x03) (on_view p (clear_from_line_start p.view))
    (cond (eqb code 0x04) (becomes_port (pop p))
    (cond (eqb code 0x05) (becomes_port (wait_for p 0x05))
    (cond (eqb code 0x06) (becomes_port (wait_for p 0x06))
    (cond (eqb code 0x07) (ring_bell p)
    (cond (eqb code 0x08) (on_view p (backspace p.view))
    (cond (eqb code 0x09) (idle p)
    (cond (eqb code 0x0a) (on_view p (line_feed p.view))
    (cond (eqb code 0x0b) (on_view p (clear_to_port_end p.view))
    (cond (eqb code 0x0c) (on_view p (clear_port_and_home p.view))
    (cond (eqb code 0x0d) (on_view p (carriage_return p.view))
    (cond (eqb code 0x0e) (on_view p (becomes (set_normal p.view)))
    (cond (eqb code 0x0f) (on_view p (becomes (set_inverse p.view)))
    (cond (eqb code 0x10) (becomes_port (wait_for p 0x10))
    (cond (eqb code 0x11) (idle p)
    (cond (eqb code 0x12) (idle p)
    (cond (eqb code 0x13) (on_view p (clear_from_port_start p.view))
    (cond (eqb code 0x14) (becomes_port (wait_for p 0x14))
    (cond (eqb code 0x15) (becomes_port (wait_for p 0x15))
    (cond (eqb code 0x16) (on_view p (scroll_down p.view))
    (cond (eqb code 0x17) (on_view p (scroll_up p.view))
    (cond (eqb code 0x18) (on_view p (becomes (disable_mousetext p.view)))
    (cond (eqb code 0x19) (on_view p (becomes (home_cursor p.view)))
    (cond (eqb code 0x1a) (on_view p (clear_line p.view))
    (cond (eqb code 0x1b) (on_view p (becomes (enable_mousetext p.view)))
    (cond (eqb code 0x1c) (on_view p (move_cursor_right p.view))
    (cond (eqb code 0x1d) (on_view p (clear_to_line_end p.view))
    (cond (eqb code 0x1e) (becomes_port (wait_for p 0x1e))
    (on_view p (move_cursor_up p.view))))))))))))))))))))))))))))))))

-- a byte that is a code: a printing code is printed, and the others, below $20, are control codes
unfoldable pub obey : Port → ℕ → Outcome
obey p code =
    let controlled : Outcome = control p code in
    let printed : Outcome = on_view p (print p.view code) in
    cond (is_printing code) printed controlled

-- a command with its last parameter b; the seventh and last code that takes parameters is $1E. (What a `let` binds is computed only where it is chosen.)
unfoldable pub perform : Port → ℕ → ℕ → Outcome
perform p code b =
    let first : ℕ = get_or p.gathered 0 0 in
    let expanded : Outcome = on_view (wait_for p 0) (dle_space_expansion p.view b) in
    cond (eqb code 0x02)
    (on_view (wait_for p 0) (becomes (set_port_size p.home p.view first (get_or p.gathered 1 0) (get_or p.gathered 2 0) b)))
    (cond (eqb code 0x05) (on_view (wait_for p 0) (horizontal_scroll p.view b))
    (cond (eqb code 0x06) (on_view (wait_for p 0) (becomes (set_vertical p.view b)))
    (cond (eqb code 0x10) expanded
    (cond (eqb code 0x14) (on_view (wait_for p 0) (becomes (set_horizontal p.view b)))
    (cond (eqb code 0x15) (on_view (wait_for p 0) (becomes (set_cursor_movement p.view b)))
    (on_view (wait_for p 0) (becomes (goto_xy p.view first b))))))))

-- a byte that is a parameter of the waiting command: 'parameters may be any bytes, control codes included'
unfoldable pub parameter : Port → ℕ → Outcome
parameter p b =
    let performed : Outcome = perform p p.waiting b in
    cond (ltb (p.count + 1) (parameters p.waiting)) (becomes_port (gather_one p b)) performed

-- one byte
unfoldable pub step : Port → ℕ → Outcome
step p b =
    let parametered : Outcome = parameter p b in
    let obeyed : Outcome = obey p b in
    cond (ltb 0 (parameters p.waiting)) parametered obeyed
