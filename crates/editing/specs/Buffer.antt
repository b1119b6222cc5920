-- Paper 02, request 01: the text lies in front of 'a lent buffer for typing', and 'the state (length, cursor) goes in and comes back'. Assumes nothing.
use Rattle.std.specs.Prelude.{ℕ, ◌≤◌, ◌≡◌, List, ◌++◌, length, take, drop, Option, Some, None}
use Rattle.editing.specs.declared.State.{State}
use Rattle.editing.specs.declared.field.Field.{Field}
use Rattle.editing.specs.Keys.{Content, Settings, Effect}

-- 'after the start and each key, buffer bytes from the text's new end on are as before it'
unfoldable pub laid : List ℕ → List ℕ → List ℕ
laid text buffer = text ++ drop (length text) buffer

-- the text and the cursor of a state, and the state of a text and a cursor
abbrev pub content_of : State → List ℕ → Content
content_of state buffer = record { text = take state.length buffer; cursor = state.cursor }

abbrev pub state_of : Content → State
state_of c = record { length = length c.text; cursor = c.cursor }

abbrev pub settings : ℕ → ℕ → List ℕ → Settings
settings width maximum default = record { width = width; maximum = maximum; default = default }

-- those of a field that was accepted
abbrev pub settings_of : Field → Settings
settings_of field = settings field.width field.maximum field.default.now

-- no 'length past the maximum', and no 'cursor past the length or width'
pub record Within (width maximum : ℕ) (state : State) : Type 0 where
  pub length_within : state.length ≤ maximum
  pub cursor_in_text : state.cursor ≤ state.length
  pub cursor_in_field : state.cursor ≤ width

-- what a key needs: a state within its limits, and a buffer with room for any text, the default too. Of an accepted field (`Field`) `small` and `default_fits` are known already
pub record Ready (width maximum default_length buffer_length : ℕ) (state : State) : Type 0 where
  pub within : Within width maximum state
  pub small : maximum ≤ 254
  pub room : maximum ≤ buffer_length
  pub default_fits : default_length ≤ maximum

-- the state that a key leaves, and its beeps: where it is beeped, the state stays
abbrev pub state_after : State → Option State → State
state_after state None = state
state_after state (Some next) = next

abbrev pub beeps_of : Option State → ℕ
beeps_of None = 1
beeps_of (Some next) = 0

-- what a key's function promises: the state and the beeps of the key's effect, and its text laid over the buffer b
pub record Presses (e : Effect) (state : State) (b : List ℕ) (r : Option State) (b' : List ℕ) : Type 0 where
  pub state_is : state_after state r ≡ state_of e.content
  pub beeps_are : beeps_of r ≡ e.beeps
  pub bytes : b' ≡ laid e.content.text b

-- the same of one that stores no byte: whatever a buffer with this text holds, it stays
abbrev pub PressesAny : (Content → Effect) → State → Option State → Type 0
PressesAny key state r = (b : List ℕ) → state.length ≤ length b → Presses (key (content_of state b)) state b r b
