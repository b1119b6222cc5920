-- What it is to carry an effect or an outcome out on a screen. Assumes nothing.
use Rattle.std.specs.Prelude.{ℕ, ◌≡◌, List, [], ◌∷◌}
use Rattle.rectangle.specs.declared.Edit.{Edit}
use Rattle.rectangle.specs.Rectangles.{OnScreen}
use Rattle.rectangle.specs.Edit.{draw}
use Rattle.marks.specs.Marks.{marked_by}
use Rattle.port.specs.declared.View.{View}
use Rattle.port.specs.declared.Port.{Port}
use Rattle.port.specs.Effect.{Effect}
use Rattle.port.specs.Step.{Outcome}

-- every edit lies on the screen
abbrev pub AllOnScreen : List Edit → Type 0
AllOnScreen [] = Unit {0}
AllOnScreen (e ∷ es) = OnScreen e.rect × AllOnScreen es

-- an effect was carried out: v is its view, marks before became after with the lines of its edits, and t are the cells s after these
pub record Drew (e : Effect) (before : ℕ) (v : View) (after : ℕ) (s t : List ℕ) : Type 0 where
  pub view : v ≡ e.view
  pub marks : after ≡ marked_by before e.edits
  pub cells : t ≡ draw e.edits s

-- an outcome was drawn, whatever it rings
pub record Obeyed (m : Outcome) (port : Port) (s t : List ℕ) : Type 0 where
  pub port_is : port ≡ m.port
  pub cells : t ≡ draw m.edits s

-- .. and it rang so often
pub record Executed (m : Outcome) (port : Port) (bells : ℕ) (s t : List ℕ) : Type 0 where
  pub port_is : port ≡ m.port
  pub bells_are : bells ≡ m.bells
  pub cells : t ≡ draw m.edits s
