-- Paper 02, request 01: what a host of an input field can rely on, over the calls as they are promised. Assumes nothing.
use Rattle.std.specs.Prelude.{ℕ, ◌+◌, ◌-◌, ◌≤◌, ◌≡◌, List, [], ◌∷◌, ◌++◌, length, get_or, drop, Option, Some, None}
use Rattle.reply.specs.Answers.{Answers}
use Rattle.editing.specs.declared.State.{State}
use Rattle.editing.specs.Buffer.{Within}
use Rattle.field.specs.declared.Status.TheVariants.{Done, SizeOutOfRange, BufferTooShort, DefaultTooLong, StateOutOfRange}
use Rattle.field.specs.declared.Ending.{Ending}
use Rattle.field.specs.declared.Ending.TheVariants.{Return, Escape}
use Rattle.field.specs.declared.StartAnswer.{StartAnswer}
use Rattle.field.specs.declared.KeysAnswer.{KeysAnswer}
use Rattle.field.specs.Statuses.{status_number}
use Rattle.field.specs.Endings.{ending_of}
use Rattle.field.specs.Rules.{Applies, Sized}
use Rattle.field.specs.Calls.{Reply, Part, no_text, the_default, start_refused, start_call, keys_refused, keys_call, text_by, text_call, text_bytes}

-- ---- refusals
-- 'refusals, in order': each number exactly when its rule says, and the smallest that applies
pub record Statuses (width maximum : ℕ) (default buffer : List ℕ) (state : State) (keys : List ℕ) : Type 0 where
  pub starting : Answers Done status_number (Applies width maximum (length default) (length buffer) state) (SizeOutOfRange ∷ BufferTooShort ∷ DefaultTooLong ∷ []) (start_call width maximum default buffer).answer.status
  pub typing : Answers Done status_number (Applies width maximum (length default) (length buffer) state) (SizeOutOfRange ∷ BufferTooShort ∷ DefaultTooLong ∷ StateOutOfRange ∷ [])
      (keys_call width maximum default buffer state keys).answer.status

-- where no rule applies ('a width and a maximum of 1 to 254 each', a buffer of at least the maximum, a default of at most it, and a state within its limits) a call answers 0
pub record Accepts (width maximum : ℕ) (default buffer : List ℕ) (state : State) (keys : List ℕ) (ending : Option Ending) : Type 0 where
  pub start_done : Sized width maximum (length default) (length buffer) → (start_call width maximum default buffer).answer.status ≡ Done
  pub keys_done : Sized width maximum (length default) (length buffer) → Within width maximum state → (keys_call width maximum default buffer state keys).answer.status ≡ Done
  pub text_given : Sized width maximum (length default) (length buffer) → Within width maximum state
      → text_call width maximum (length default) (length buffer) state ending ≡ text_by (length default) state ending

-- 'each hands back buffer and state as they came (at the start 0, 0), counts of 0, no ending, and an empty stretch': of a start, of keys, and of the text call that is given the same state
pub record ChangesNothing (buffer : List ℕ) (state : State) (started : Reply StartAnswer) (typed : Reply KeysAnswer) (text : Part) : Type 0 where
  pub refused_start : (started.answer.status ≡ Done → ⊥) → started ≡ start_refused started.answer.status buffer
  pub refused_keys : (typed.answer.status ≡ Done → ⊥) → typed ≡ keys_refused typed.answer.status state buffer
  pub text_refused : (typed.answer.status ≡ Done → ⊥) → text ≡ no_text

-- ---- 'keys come in a lent stream that may be cut'
-- two calls are one: the second gets the state and the buffer that the first left
pub record SameCut (first second whole : Reply KeysAnswer) : Type 0 where
  pub first_status : first.answer.status ≡ whole.answer.status
  pub second_status : second.answer.status ≡ whole.answer.status
  pub state : second.answer.state ≡ whole.answer.state
  pub buffer : second.buffer ≡ whole.buffer
  pub ending : second.answer.ending ≡ whole.answer.ending
  pub read : first.answer.read + second.answer.read ≡ whole.answer.read
  pub beeps : first.answer.beeps + second.answer.beeps ≡ whole.answer.beeps

-- keys xs and then, unless xs ended the field, ys, are keys xs ++ ys: of a call that takes a buffer, a state and keys
pub record Cut (call : List ℕ → State → List ℕ → Reply KeysAnswer) (buffer : List ℕ) (state : State) (xs ys : List ℕ) : Type 0 where
  pub goes_on : (call buffer state xs).answer.ending ≡ None → SameCut (call buffer state xs) (call (call buffer state xs).buffer (call buffer state xs).answer.state ys) (call buffer state (xs ++ ys))
  pub ended : ((call buffer state xs).answer.ending ≡ None → ⊥) → call buffer state (xs ++ ys) ≡ call buffer state xs

-- ---- limits
-- what a start leaves
pub record StartLimits (width maximum : ℕ) (buffer : List ℕ) (r : Reply StartAnswer) : Type 0 where
  pub within : r.answer.status ≡ Done → Within width maximum r.answer.state
  pub behind : drop maximum r.buffer ≡ drop maximum buffer
  pub len : length r.buffer ≡ length buffer

-- what keys leave
pub record KeysLimits (width maximum : ℕ) (buffer keys : List ℕ) (r : Reply KeysAnswer) : Type 0 where
  -- the typed text has at most maximum bytes, and 'the cursor never passes the text's end or the width'
  pub within : r.answer.status ≡ Done → Within width maximum r.answer.state
  -- no buffer byte from the maximum on is changed
  pub behind : drop maximum r.buffer ≡ drop maximum buffer
  pub len : length r.buffer ≡ length buffer
  -- keys read are never more than were lent
  pub read_lent : r.answer.read ≤ length keys
  -- .. and fewer only where an ending key was read
  pub read_all : r.answer.status ≡ Done → r.answer.ending ≡ None → r.answer.read ≡ length keys
  pub read_ending : (r.answer.ending ≡ None → ⊥) → (1 ≤ r.answer.read) × (ending_of (get_or keys (r.answer.read - 1) 0) ≡ r.answer.ending)
  pub beeps_read : r.answer.beeps ≤ r.answer.read

-- a beeped key changes neither text nor cursor, and no byte: of the reply to a single key
abbrev pub BeepChangesNothing : List ℕ → State → Reply KeysAnswer → Type 0
BeepChangesNothing buffer state r = r.answer.beeps ≡ 1 → (r.answer.state ≡ state) × (r.buffer ≡ buffer)

-- no text is longer than the maximum
abbrev pub TextLimit : ℕ → ℕ → List ℕ → List ℕ → State → Option Ending → Type 0
TextLimit width maximum default buffer state ending = length (text_bytes (text_call width maximum (length default) (length buffer) state ending) default buffer) ≤ maximum

-- ---- what the user has chosen: the text call after keys, with their state and ending
abbrev pub text_after : ℕ → ℕ → List ℕ → Reply KeysAnswer → Part
text_after width maximum default r = text_call width maximum (length default) (length r.buffer) r.answer.state r.answer.ending

-- 'Escape .. hands back the lent default itself', whatever was typed
abbrev pub EscapeGivesDefault : ℕ → ℕ → List ℕ → Reply KeysAnswer → Type 0
EscapeGivesDefault width maximum default r = r.answer.status ≡ Done → r.answer.ending ≡ Some Escape → text_after width maximum default r ≡ the_default (length default)

-- keys that end by Return, and a text with the default's bytes
pub record ReturnsDefault (width maximum : ℕ) (default : List ℕ) (r : Reply KeysAnswer) : Type 0 where
  pub done : r.answer.status ≡ Done
  pub ending : r.answer.ending ≡ Some Return
  pub text : text_bytes (text_after width maximum default r) default r.buffer ≡ default

-- 'the text starts as the default': so a start and then Return
abbrev pub StartReturnsDefault : ℕ → ℕ → List ℕ → List ℕ → Type 0
StartReturnsDefault width maximum default buffer =
    (start_call width maximum default buffer).answer.status ≡ Done
    → ReturnsDefault width maximum default (keys_call width maximum default (start_call width maximum default buffer).buffer (start_call width maximum default buffer).answer.state (0x0d ∷ []))

-- '$1A brings text and cursor back to the start': so any keys that do not end the field, then $1A and Return
abbrev pub RestoreReturnsDefault : ℕ → ℕ → List ℕ → List ℕ → State → List ℕ → Type 0
RestoreReturnsDefault width maximum default buffer state keys =
    (keys_call width maximum default buffer state keys).answer.status ≡ Done
    → (keys_call width maximum default buffer state keys).answer.ending ≡ None
    → ReturnsDefault width maximum default (keys_call width maximum default buffer state (keys ++ (0x1a ∷ 0x0d ∷ [])))
