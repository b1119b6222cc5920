-- The active part of a port. Each setter does to it what the setter of that name in `port` does to a port that has it. Assumes nothing.
use Rattle.std.specs.Prelude.{ℕ, ◌+◌, set}
use Rattle.port.specs.declared.View.{View}
use Rattle.port.specs.declared.Port.{Port}
use Rattle.port.specs.State as state
use Rattle.control.specs.declared.active.Active.{Active}

abbrev pub active_of : Port → Active
active_of p = record { marks = p.marks; view = p.view; waiting = p.waiting; gathered = p.gathered; count = p.count }

-- the port with another active part: its home and what is saved stay
abbrev pub with_active : Port → Active → Port
with_active p a = state.with_wait (state.with_drawn p a.view a.marks) a.waiting a.gathered a.count

abbrev pub with_view : Active → View → Active
with_view a view = record { marks = a.marks; view = view; waiting = a.waiting; gathered = a.gathered; count = a.count }

-- the view and the marks that drawing leaves
abbrev pub with_drawn : Active → View → ℕ → Active
with_drawn a view marks = record { marks = marks; view = view; waiting = a.waiting; gathered = a.gathered; count = a.count }

abbrev pub wait_for : Active → ℕ → Active
wait_for a code = record { marks = a.marks; view = a.view; waiting = code; gathered = state.no_parameters; count = 0 }

abbrev pub gather_one : Active → ℕ → Active
gather_one a b = record { marks = a.marks; view = a.view; waiting = a.waiting; gathered = set a.gathered a.count b; count = a.count + 1 }
