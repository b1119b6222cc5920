-- Paper 01, 'What comes back': when a pane shares a cell with another. Assumes nothing.
use Rattle.std.specs.Prelude.{Bool, not, ◌&&◌, ◌||◌, eqb}
use Rattle.rectangle.specs.declared.Rect.{Rect}
use Rattle.rectangle.specs.Rectangles.{shares_cell}
use Rattle.slots.specs.declared.Slot.{Slot}
use Rattle.slots.specs.declared.Multiplexer.{Multiplexer}
use Rattle.slots.specs.State.{slot_at}

-- 'a pane that shares a cell with an open pane'
abbrev pub shares_pane : Rect → Slot → Bool
shares_pane pane x = not (eqb x.client 0) && shares_cell x.port.home pane

unfoldable pub pane_shared : Multiplexer → Rect → Bool
pane_shared m pane =
    (shares_pane pane (slot_at m 0) || shares_pane pane (slot_at m 1))
    || (shares_pane pane (slot_at m 2) || shares_pane pane (slot_at m 3))
