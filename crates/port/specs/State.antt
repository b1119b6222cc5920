-- Paper 01, 'Screen and port': the zero state, a setter for each part, the default and the fresh state. Only the zero state and the setters list the fields of a port or a view: all other definitions go through them. Assumes nothing.
use Rattle.std.specs.Prelude.{ℕ, Bool, true, false, List, [], ◌∷◌}
use Rattle.rectangle.specs.declared.Rect.{Rect}
use Rattle.rectangle.specs.Rectangles.{rect_of}
use Rattle.marks.specs.Marks.{no_marks}
use Rattle.port.specs.declared.Flags.{Flags}
use Rattle.port.specs.declared.View.{View}
use Rattle.port.specs.declared.Port.{Port}

-- 'all five flags', on or off
abbrev pub all_flags : Bool → Flags
all_flags on = record { dle = on; scroll = on; wrap = on; lf = on; advance = on }

-- ---- every field 0 or false
-- (a name that stays folded: proofs that do not look into it stay short)
unfoldable pub zero_view : View
zero_view = record { viewport = rect_of 0 0 0 0; column = 0; line = 0; flags = all_flags false; inverse = false; mousetext = false }

-- nothing gathered
abbrev pub no_parameters : List ℕ
no_parameters = 0 ∷ 0 ∷ 0 ∷ 0 ∷ []

abbrev pub zero_port : Port
zero_port = record { home = rect_of 0 0 0 0; view = zero_view; hassaved = false; saved = zero_view; waiting = 0; gathered = no_parameters; count = 0; marks = no_marks }

-- ---- a view with one part set
-- 'a viewport'; where one is set, 'the cursor goes to its top left'
abbrev pub with_viewport : View → Rect → View
with_viewport v r = record { viewport = r; column = r.left; line = r.top; flags = v.flags; inverse = v.inverse; mousetext = v.mousetext }

-- 'a cursor (absolute column and line)'
abbrev pub cursor_at : View → ℕ → ℕ → View
cursor_at v column line =
    record { viewport = v.viewport; column = column; line = line; flags = v.flags; inverse = v.inverse; mousetext = v.mousetext }

-- 'five flags (DLE, scroll, wrap, LF, advance)'
abbrev pub with_flags : View → Flags → View
with_flags v flags =
    record { viewport = v.viewport; column = v.column; line = v.line; flags = flags; inverse = v.inverse; mousetext = v.mousetext }

-- 'inverse, MouseText'
abbrev pub with_modes : View → Bool → Bool → View
with_modes v inverse mousetext =
    record { viewport = v.viewport; column = v.column; line = v.line; flags = v.flags; inverse = inverse; mousetext = mousetext }

-- ---- a port with one part set
-- 'a home rectangle'
abbrev pub with_home : Port → Rect → Port
with_home p home =
    record { home = home; view = p.view; hassaved = p.hassaved; saved = p.saved; waiting = p.waiting; gathered = p.gathered; count = p.count; marks = p.marks }

abbrev pub with_view : Port → View → Port
with_view p view =
    record { home = p.home; view = view; hassaved = p.hassaved; saved = p.saved; waiting = p.waiting; gathered = p.gathered; count = p.count; marks = p.marks }

-- 'at most one saved port': whether there is one, and its view
abbrev pub with_saved : Port → Bool → View → Port
with_saved p hassaved saved =
    record { home = p.home; view = p.view; hassaved = hassaved; saved = saved; waiting = p.waiting; gathered = p.gathered; count = p.count; marks = p.marks }

-- 'a command waiting for its parameters with those gathered so far'
abbrev pub with_wait : Port → ℕ → List ℕ → ℕ → Port
with_wait p waiting gathered count =
    record { home = p.home; view = p.view; hassaved = p.hassaved; saved = p.saved; waiting = waiting; gathered = gathered; count = count; marks = p.marks }

-- request 02: 'keep beside each port a mark for each of the 24 screen lines'
abbrev pub with_marks : Port → ℕ → Port
with_marks p marks =
    record { home = p.home; view = p.view; hassaved = p.hassaved; saved = p.saved; waiting = p.waiting; gathered = p.gathered; count = p.count; marks = marks }

-- the port after drawing: its next view and its marks
abbrev pub with_drawn : Port → View → ℕ → Port
with_drawn p view marks = with_marks (with_view p view) marks

-- ---- the default and the fresh state
-- 'default state: viewport = home, cursor top left, all five flags true, normal text, MouseText off'
abbrev pub default_view : Port → View
default_view p = with_modes (with_flags (with_viewport zero_view p.home) (all_flags true)) false false

-- 'a fresh port is in the default state, with nothing saved and nothing waiting'; 'a fresh plain port has none marked'
abbrev pub fresh_port : Rect → Port
fresh_port home = with_view (with_home zero_port home) (default_view (with_home zero_port home))

-- what code reads past the end of an array of ports: every field 0 or false, and an array of its own has no element
abbrev pub no_port : Port
no_port = with_wait zero_port 0 [] 0
