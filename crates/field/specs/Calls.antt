-- Paper 02, request 01: the calls, with their refusals: all that each leaves. Assumes nothing.
use Rattle.std.specs.Prelude.{ℕ, ◌≡◌, List, length, Option, Some, None}
use Rattle.std.specs.Borrow.{Bor}
use Rattle.laws.specs.Parts.{Stretch, stretch, no_stretch, bytes_of, IsPart}
use Rattle.editing.specs.declared.State.{State}
use Rattle.editing.specs.Keys.{start_content}
use Rattle.editing.specs.Buffer.{laid, settings, content_of, state_of}
use Rattle.field.specs.declared.Status.{Status}
use Rattle.field.specs.declared.Status.TheVariants.{Done}
use Rattle.field.specs.declared.Ending.{Ending}
use Rattle.field.specs.declared.Ending.TheVariants.{Return, Escape}
use Rattle.field.specs.declared.StartAnswer.{StartAnswer}
use Rattle.field.specs.declared.KeysAnswer.{KeysAnswer}
use Rattle.field.specs.Verdict.{start_verdict, keys_verdict, on_verdict}
use Rattle.field.specs.Typing.{Typed, type_keys}

-- what a call hands back, and the lent buffer as it returns. The default and the keys are lent for reading alone.
pub record Reply (Given : Type 0) : Type 0 where
  pub answer : Given
  pub buffer : List ℕ

-- what a call promises
pub record Replies {Given : Type 0} (reply : Reply Given) (answer : Given) (buffer : List ℕ) : Type 0 where
  pub answer_is : answer ≡ reply.answer
  pub bytes : buffer ≡ reply.buffer

-- ---- start: 'the text starts as the default'. A refusal hands back 'buffer and state as they came (at the start 0, 0)'
abbrev pub start_refused : Status → List ℕ → Reply StartAnswer
start_refused status buffer = record { answer = record { status = status; state = record { length = 0; cursor = 0 } }; buffer = buffer }

abbrev pub started : ℕ → List ℕ → List ℕ → Reply StartAnswer
started width default buffer = record { answer = record { status = Done; state = state_of (start_content width default) }; buffer = laid default buffer }

unfoldable pub start_call : ℕ → ℕ → List ℕ → List ℕ → Reply StartAnswer
start_call width maximum default buffer =
    on_verdict (start_verdict width maximum (length default) (length buffer)) (λ status. start_refused status buffer) (started width default buffer)

-- ---- keys. A refusal hands back 'counts of 0, no ending' too
abbrev pub answer_of : Status → State → ℕ → ℕ → Option Ending → KeysAnswer
answer_of status state read beeps ending = record { status = status; state = state; read = read; beeps = beeps; ending = ending }

abbrev pub keys_refused : Status → State → List ℕ → Reply KeysAnswer
keys_refused status state buffer = record { answer = answer_of status state 0 0 None; buffer = buffer }

abbrev pub keys_typed : Typed → Reply KeysAnswer
keys_typed x = record { answer = answer_of Done (state_of x.content) x.read x.beeps x.ending; buffer = x.buffer }

unfoldable pub keys_call : ℕ → ℕ → List ℕ → List ℕ → State → List ℕ → Reply KeysAnswer
keys_call width maximum default buffer state keys =
    on_verdict (keys_verdict width maximum (length default) (length buffer) state) (λ status. keys_refused status state buffer)
    (keys_typed (type_keys (settings width maximum default) (content_of state buffer) buffer keys))

-- ---- text: a stretch of the lent buffer or of the lent default
pub data Part : Type 0 where
  of_buffer : Stretch → Part
  of_default : Stretch → Part

-- 'an empty stretch', and 'the lent default itself', by its length
abbrev pub no_text : Part
no_text = of_buffer no_stretch

abbrev pub the_default : ℕ → Part
the_default default = of_default (stretch 0 default)

-- 'Return hands back the typed part of the buffer; Escape .. the lent default itself; none, an empty one'
abbrev pub text_by : ℕ → State → Option Ending → Part
text_by default state (Some Return) = of_buffer (stretch 0 state.length)
text_by default state (Some Escape) = the_default default
text_by default state None = no_text

-- .. and a refusal an empty stretch, by the lengths of the lent default and buffer
unfoldable pub text_call : ℕ → ℕ → ℕ → ℕ → State → Option Ending → Part
text_call width maximum default buffer state ending = on_verdict (keys_verdict width maximum default buffer state) (λ status. no_text) (text_by default state ending)

-- r is that stretch of the lent slice itself
abbrev pub IsText : Part → Bor (List ℕ) → Bor (List ℕ) → Bor (List ℕ) → Type 0
IsText (of_buffer x) default buffer r = IsPart buffer r x
IsText (of_default x) default buffer r = IsPart default r x

-- its bytes
abbrev pub text_bytes : Part → List ℕ → List ℕ → List ℕ
text_bytes (of_buffer x) default buffer = bytes_of x buffer
text_bytes (of_default x) default buffer = bytes_of x default
