-- Paper 01, 'From code to stored byte' and 'The codes': what printing and each code do to a view, in the paper's order but for $1C, which printing needs. $00, $01, $04 and $07, which are no matter of a view alone, are in `Step.antt`, as is what waits. The names are document 000's. Assumes nothing.
use Rattle.std.specs.Prelude.{ℕ, zero, suc, ◌+◌, ◌-◌, ◌/◌, ◌%◌, min, max, Bool, true, false, cond, ◌&&◌, List, [], ◌∷◌, ltb, leb, eqb}
use Rattle.rectangle.specs.declared.Rect.{Rect}
use Rattle.rectangle.specs.declared.Edit.{Edit}
use Rattle.rectangle.specs.declared.Motion.TheVariants.{Clear, Up, Down, Left, Right}
use Rattle.rectangle.specs.Rectangles.{rect_of}
use Rattle.charset.specs.declared.Mode.{Mode}
use Rattle.charset.specs.declared.Mode.TheVariants.{Normal, Inverse, MouseText}
use Rattle.charset.specs.Stored.{stored_byte}
use Rattle.port.specs.declared.View.{View}
use Rattle.port.specs.State.{cursor_at, with_flags, with_modes, with_viewport}
use Rattle.port.specs.Effect.{Effect, becomes, draws, and_then, homed, erase_edit, move_edit, line_span, view_lines}

-- $1C: 'right one. At the right edge with wrap: left edge of the next line; on the bottom line, if scroll, the port scrolls up and the cursor goes to the left edge of that line; otherwise it stays'
unfoldable pub move_cursor_right : View → Effect
move_cursor_right v =
    cond (ltb v.column v.viewport.right) (becomes (cursor_at v (v.column + 1) v.line))
    (cond (v.flags.wrap && ltb v.line v.viewport.bottom) (becomes (cursor_at v v.viewport.left (v.line + 1)))
    (cond (v.flags.wrap && v.flags.scroll) (draws (cursor_at v v.viewport.left v.line) (move_edit v Up ∷ []))
    (becomes v)))

-- the character mode: 'MouseText has no effect in normal mode'
unfoldable pub mode_of : View → Mode
mode_of v = cond v.inverse (cond v.mousetext MouseText Inverse) Normal

-- 'printing stores at the cursor; then, if advance is true, does what $1C does'
unfoldable pub store_cell : View → ℕ → Effect
store_cell v byte = draws v (record { rect = line_span v v.column v.column; motion = Clear; fill = byte } ∷ [])

unfoldable pub advance : View → Effect
advance v = cond v.flags.advance (move_cursor_right v) (becomes v)

unfoldable pub print_byte : View → ℕ → Effect
print_byte v byte = and_then (store_cell v byte) advance

unfoldable pub print : View → ℕ → Effect
print v code = print_byte v (stored_byte (mode_of v) code)

-- $02: 'four parameters left, top, right, bottom, each value + 32. Any below 32 or above 127: ignored. Then each column is moved to the nearest one in home's columns, each line likewise. If right <= left or bottom <= top: ignored. Else the viewport is set and the cursor goes to its top left'
unfoldable pub in_offset_range : ℕ → Bool
in_offset_range b = leb 32 b && leb b 127

unfoldable pub nearest_inside : ℕ → ℕ → ℕ → ℕ
nearest_inside low high b = max low (min (b - 32) high)

abbrev pub nearest_rect : Rect → ℕ → ℕ → ℕ → ℕ → Rect
nearest_rect home left top right bottom =
    rect_of (nearest_inside home.left home.right left) (nearest_inside home.top home.bottom top)
    (nearest_inside home.left home.right right)
    (nearest_inside home.top home.bottom bottom)

unfoldable pub resize : View → Rect → View
resize v r = cond (ltb r.left r.right && ltb r.top r.bottom) (with_viewport v r) v

unfoldable pub set_port_size : Rect → View → ℕ → ℕ → ℕ → ℕ → View
set_port_size home v left top right bottom =
    cond ((in_offset_range left && in_offset_range top) && (in_offset_range right && in_offset_range bottom))
    (resize v (nearest_rect home left top right bottom))
    v

-- $03 'erases from the viewport's left edge to the cursor, inclusive'
abbrev pub clear_from_line_start : View → Effect
clear_from_line_start v = draws v (erase_edit v (line_span v v.viewport.left v.column) ∷ [])

-- $1D 'from the cursor to the right edge'
abbrev pub clear_to_line_end : View → Effect
clear_to_line_end v = draws v (erase_edit v (line_span v v.column v.viewport.right) ∷ [])

-- $1A 'the cursor's line'
abbrev pub clear_line : View → Effect
clear_line v = draws v (erase_edit v (line_span v v.viewport.left v.viewport.right) ∷ [])

-- $13 'from the viewport's first cell, line by line, to the cursor inclusive': the lines above the cursor's, and its own as $03 does
unfoldable pub clear_lines_above : View → List Edit
clear_lines_above v = cond (ltb v.viewport.top v.line) (erase_edit v (view_lines v v.viewport.top (v.line - 1)) ∷ []) []

unfoldable pub clear_from_port_start : View → Effect
clear_from_port_start v = and_then (draws v (clear_lines_above v)) clear_from_line_start

-- $0B 'from the cursor to the viewport's last cell': its own line as $1D does, and the lines below
unfoldable pub clear_lines_below : View → Effect
clear_lines_below v = draws v (cond (ltb v.line v.viewport.bottom) (erase_edit v (view_lines v (v.line + 1) v.viewport.bottom) ∷ []) [])

unfoldable pub clear_to_port_end : View → Effect
clear_to_port_end v = and_then (clear_to_line_end v) clear_lines_below

-- $0C 'the whole viewport, and homes the cursor'
abbrev pub clear_port_and_home : View → Effect
clear_port_and_home v = draws (homed v) (erase_edit v v.viewport ∷ [])

-- $05: '1 to 127 shifts right by that much, 128 to 255 left by 256 less it, 0 nothing'
unfoldable pub horizontal_scroll : View → ℕ → Effect
horizontal_scroll v b =
    cond (eqb b 0) (becomes v) (cond (ltb b 128) (draws v (move_edit v (Right b) ∷ [])) (draws v (move_edit v (Left (256 - b)) ∷ [])))

-- $06 line, $14 column: 'relative to the viewport, + 32. Below 32: ignored. Past the last: the last'
unfoldable pub set_vertical : View → ℕ → View
set_vertical v b = cond (ltb b 32) v (cursor_at v v.column (min (v.viewport.top + (b - 32)) v.viewport.bottom))

unfoldable pub set_horizontal : View → ℕ → View
set_horizontal v b = cond (ltb b 32) v (cursor_at v (min (v.viewport.left + (b - 32)) v.viewport.right) v.line)

-- $1E: 'column, then line; acts as $14 and then $06, each by its own rule'
abbrev pub goto_xy : View → ℕ → ℕ → View
goto_xy v column line = set_vertical (set_horizontal v column) line

-- $08: 'left one. At the left edge with wrap: to the right edge of the line above; on the top line, if scroll, the port scrolls down and the cursor goes to the right edge of that line; otherwise it stays'
unfoldable pub backspace : View → Effect
backspace v =
    cond (ltb v.viewport.left v.column) (becomes (cursor_at v (v.column - 1) v.line))
    (cond (v.flags.wrap && ltb v.viewport.top v.line) (becomes (cursor_at v v.viewport.right (v.line - 1)))
    (cond (v.flags.wrap && v.flags.scroll) (draws (cursor_at v v.viewport.right v.line) (move_edit v Down ∷ []))
    (becomes v)))

-- $0A: 'down one; on the bottom line, if scroll, the port scrolls up and the cursor stays; otherwise nothing'
unfoldable pub line_feed : View → Effect
line_feed v =
    cond (ltb v.line v.viewport.bottom) (becomes (cursor_at v v.column (v.line + 1)))
    (cond v.flags.scroll (draws v (move_edit v Up ∷ [])) (becomes v))

-- $0D: 'to the left edge; then $0A if LF'
unfoldable pub feed_if_lf : View → Effect
feed_if_lf v = cond v.flags.lf (line_feed v) (becomes v)

unfoldable pub carriage_return : View → Effect
carriage_return v = and_then (becomes (cursor_at v v.viewport.left v.line)) feed_if_lf

-- '$0E normal, $0F inverse, $1B MouseText on, $18 off, $19 cursor to top left'
abbrev pub set_normal : View → View
set_normal v = with_modes v false v.mousetext

abbrev pub set_inverse : View → View
set_inverse v = with_modes v true v.mousetext

abbrev pub enable_mousetext : View → View
enable_mousetext v = with_modes v v.inverse true

abbrev pub disable_mousetext : View → View
disable_mousetext v = with_modes v v.inverse false

abbrev pub home_cursor : View → View
home_cursor v = homed v

-- $10: 'if DLE, prints count spaces (code $20, current mode); below 32 counts as none. If not DLE the byte is dropped'
unfoldable pub print_spaces : ℕ → View → Effect
print_spaces zero v = becomes v
print_spaces (suc n) v = and_then (print v 0x20) (print_spaces n)

unfoldable pub dle_space_expansion : View → ℕ → Effect
dle_space_expansion v b = cond v.flags.dle (print_spaces (b - 32) v) (becomes v)

-- $15: 'the low five bits set DLE (bit 4), scroll, wrap, LF, advance (bit 0); the other three are ignored'
unfoldable pub bit_set : ℕ → Bool
bit_set n = eqb (n % 2) 1

abbrev pub set_cursor_movement : View → ℕ → View
set_cursor_movement v b =
    with_flags v (record { dle = bit_set (b / 16); scroll = bit_set (b / 8); wrap = bit_set (b / 4); lf = bit_set (b / 2); advance = bit_set b })

-- '$16 scrolls down: the viewport's lines move down one, its top one is blank. $17 scrolls up: they move up one, the bottom one is blank. The cursor stays'
abbrev pub scroll_down : View → Effect
scroll_down v = draws v (move_edit v Down ∷ [])

abbrev pub scroll_up : View → Effect
scroll_up v = draws v (move_edit v Up ∷ [])

-- $1F: 'up one; on the top line, if scroll, the port scrolls down and the cursor stays; otherwise nothing'
unfoldable pub move_cursor_up : View → Effect
move_cursor_up v =
    cond (ltb v.viewport.top v.line) (becomes (cursor_at v v.column (v.line - 1)))
    (cond v.flags.scroll (draws v (move_edit v Down ∷ [])) (becomes v))
