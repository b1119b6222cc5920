-- `view::erase::clear_from_port_start` meets its contract: where there are lines above they are erased first, and then its own. Assumes nothing.
use Prim.Native.Nat.{◌-◌, ◌<◌}
use mathlib.Core.Path.{◌≡◌}
use borrow.Author.Tests.{lt-ltb}
use Rattle.std.specs.Prelude.{Some}
use Rattle.rectangle.specs.declared.Rect.{Rect}
use Rattle.rectangle.specs.declared.Edit.{Edit}
use Rattle.port.specs.declared.View.{View}
use Rattle.port.specs.Effect.{erase_edit, line_span, view_lines}
use Rattle.port.specs.Codes.{clear_from_port_start, clear_lines_above}
use Rattle.view.specs.declared.ViewPlan.{ViewPlan}
use Rattle.view.specs.Plan.{effect_of, plan}
use Rattle.view.proofs.Plans.{plan_two, erase_of}
use Rattle.view.proofs.erase.clear_from_port_start.Goals as goal

both_erased : (v : View) {r : ViewPlan 2} {own others : Edit} {span lines : Rect} → r ≡ plan v others (Some own) → others ≡ erase_edit v lines → lines ≡ view_lines v v.viewport.top (v.line - 1) → own ≡ erase_edit v span
    → span ≡ line_span v v.viewport.left v.column
    → v.viewport.top < v.line
    → effect_of r ≡ clear_from_port_start v
unfolding clear_from_port_start clear_lines_above
both_erased v p q w o m some = simp (lt-ltb _ _ some) (plan_two p (erase_of v q w) (erase_of v o m))

pub returns-then-v : goal.returns-then-v
returns-then-v c = search both_erased
