-- P1 to P12 hold: every definition is opened, and antt computes each example. Assumes nothing.
use mathlib.Core.Path.{refl}
use Rattle.rectangle.specs.Cells.{inside}
use Rattle.rectangle.specs.Edit.{vacated, origin, edited_cell, draw_cell}
use Rattle.charset.specs.Stored.{in_range, stored_symbol, stored_capital, stored_high, stored_byte}
use Rattle.port.specs.State.{zero_view}
use Rattle.port.specs.Valid.{parameters}
use Rattle.port.specs.Codes.{move_cursor_right, mode_of, store_cell, advance, print_byte, print, in_offset_range, nearest_inside, resize, set_port_size, clear_lines_above, clear_from_port_start, clear_lines_below, clear_to_port_end, horizontal_scroll, set_vertical, set_horizontal, backspace, line_feed, feed_if_lf, carriage_return, print_spaces, dle_space_expansion, bit_set, move_cursor_up}
use Rattle.port.specs.Step.{pop, control, obey, perform, parameter, step}
use Rattle.port.specs.Stream.{stream}
use Rattle.examples.specs.Example.{AllHold}
use Rattle.examples.specs.Table.{examples}
use Rattle.examples.proofs.Computed.{all_hold}

pub examples_hold : AllHold examples
unfolding inside vacated origin edited_cell draw_cell in_range stored_symbol stored_capital stored_high stored_byte zero_view parameters move_cursor_right mode_of store_cell advance print_byte print in_offset_range nearest_inside resize set_port_size clear_lines_above clear_from_port_start clear_lines_below clear_to_port_end horizontal_scroll set_vertical set_horizontal backspace line_feed feed_if_lf carriage_return print_spaces dle_space_expansion bit_set move_cursor_up pop control obey perform parameter step stream
examples_hold = all_hold examples refl
