-- What an example of paper 01 states: all 1,920 cells, viewport, cursor and bells. Assumes nothing.
use Rattle.std.specs.Prelude.{ℕ, ◌<◌, ◌≡◌, cond, List, [], ◌∷◌, eqb, length, get_or}
use Rattle.rectangle.specs.declared.Rect.{Rect}
use Rattle.rectangle.specs.Cells.{cell_index}
use Rattle.screen.specs.Size.{blank_screen}
use Rattle.reply.specs.declared.Status.TheVariants.{Done}
use Rattle.calls.specs.Calls.{PortReply}
use Rattle.console.specs.Calls.{fresh_console, write_call}

-- a byte on the screen
pub record Cell : Type 0 where
  pub column : ℕ
  pub line : ℕ
  pub byte : ℕ

-- bytes written to a fresh console to set the scene, the bytes of the example, and what is there then: the cells that it names, the others as before it
pub record Example : Type 0 where
  pub scene : List ℕ
  pub bytes : List ℕ
  pub cells : List Cell
  pub viewport : Rect
  pub column : ℕ
  pub line : ℕ
  pub bells : ℕ

-- before the example's bytes, and after them: 'in the examples a fresh console's screen is all blanks'
abbrev pub before : Example → PortReply
before e = write_call fresh_console blank_screen e.scene

abbrev pub after : Example → PortReply
after e = write_call (before e).state (before e).screen e.bytes

-- the byte that cell i is named to hold, or else the one that it held
abbrev pub named : List Cell → ℕ → ℕ → ℕ
named [] i held = held
named (c ∷ cs) i held = cond (eqb i (cell_index c.column c.line)) c.byte (named cs i held)

-- what the example says of the replies to the scene and to its own bytes
pub record Shows (e : Example) (scene shown : PortReply) : Type 0 where
  pub status : shown.status ≡ Done
  pub size : length shown.screen ≡ 1920
  pub cells : (i : ℕ) → i < 1920 → get_or shown.screen i 0 ≡ named e.cells i (get_or scene.screen i 0)
  pub viewport : shown.state.view.viewport ≡ e.viewport
  pub column : shown.state.view.column ≡ e.column
  pub line : shown.state.view.line ≡ e.line
  pub bells : shown.result ≡ e.bells

abbrev pub Holds : Example → Type 0
Holds e = Shows e (before e) (after e)

abbrev pub AllHold : List Example → Type 0
AllHold [] = Unit {0}
AllHold (e ∷ es) = Holds e × AllHold es
