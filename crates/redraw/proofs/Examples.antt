-- The table holds: each row by computation. Assumes nothing.
use mathlib.Core.Path.{◌≡◌, refl}
use mathlib.Core.Bool.{true}
use Rattle.charset.specs.Stored.{in_range, stored_symbol, stored_capital, stored_high, stored_byte}
use Rattle.laws.specs.Bits.{bit}
use Rattle.marks.specs.Marks.{marked}
use Rattle.port.specs.State.{zero_view}
use Rattle.port.specs.Valid.{parameters}
use Rattle.port.specs.Codes.{move_cursor_right, mode_of, store_cell, advance, print_byte, print, in_offset_range, nearest_inside, resize, set_port_size, clear_lines_above, clear_from_port_start, clear_lines_below, clear_to_port_end, horizontal_scroll, set_vertical, set_horizontal, backspace, line_feed, feed_if_lf, carriage_return, print_spaces, dle_space_expansion, bit_set, move_cursor_up}
use Rattle.port.specs.Step.{pop, control, obey, perform, parameter, step}
use Rattle.port.specs.Stream.{stream}
use Rattle.redraw.specs.Table.{all_right, table}

pub table_holds : all_right table ≡ true
unfolding in_range stored_symbol stored_capital stored_high stored_byte zero_view parameters move_cursor_right mode_of store_cell advance print_byte print in_offset_range nearest_inside resize set_port_size clear_lines_above clear_from_port_start clear_lines_below clear_to_port_end horizontal_scroll set_vertical set_horizontal backspace line_feed feed_if_lf carriage_return print_spaces dle_space_expansion bit_set move_cursor_up pop control obey perform parameter step stream marked bit
table_holds = refl
