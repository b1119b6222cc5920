-- Paper 02, request 01: 'refusals, in order'. A call is judged before it starts: refused, or accepted. Assumes nothing.
use Rattle.std.specs.Prelude.{ℕ, Bool, cond, ◌||◌, ltb, Result, Ok, Err}
use Rattle.editing.specs.declared.State.{State}
use Rattle.field.specs.declared.Status.{Status}
use Rattle.field.specs.declared.Status.TheVariants.{SizeOutOfRange, BufferTooShort, DefaultTooLong, StateOutOfRange}
use Rattle.editing.specs.declared.field.Field.{Field}

-- refused with a status, or accepted; a function that accepts answers with the field too
abbrev pub Verdict : Type 0
Verdict = Result Unit Status

abbrev pub verdict_of : Result Field Status → Verdict
verdict_of (Err status) = Err status
verdict_of (Ok field) = Ok tt

-- 'a width and a maximum of 1 to 254 each'
unfoldable pub out_of_range : ℕ → Bool
out_of_range size = ltb size 1 || ltb 254 size

-- of a start, by the lengths of the lent default and buffer: '11 width or maximum out of range, 12 buffer shorter than the maximum, 13 default longer than the maximum'
unfoldable pub start_verdict : ℕ → ℕ → ℕ → ℕ → Verdict
start_verdict width maximum default buffer =
    cond (out_of_range width || out_of_range maximum) (Err SizeOutOfRange)
    (cond (ltb buffer maximum) (Err BufferTooShort)
    (cond (ltb maximum default) (Err DefaultTooLong)
    (Ok tt)))

-- '19 a length past the maximum or a cursor past the length or width'
unfoldable pub state_verdict : ℕ → ℕ → State → Verdict
state_verdict width maximum state =
    cond (ltb maximum state.length || (ltb state.length state.cursor || ltb width state.cursor)) (Err StateOutOfRange) (Ok tt)

-- the first of two that refuses
unfoldable pub first_of : Verdict → Verdict → Verdict
first_of (Err status) next = Err status
first_of (Ok done) next = next

-- of a call that is given a state: 11, 12 and 13, and then 19
unfoldable pub keys_verdict : ℕ → ℕ → ℕ → ℕ → State → Verdict
keys_verdict width maximum default buffer state = first_of (start_verdict width maximum default buffer) (state_verdict width maximum state)

-- what a refused call gives, or what one that is made does
unfoldable pub on_verdict : {A : Type 0} → Verdict → (Status → A) → A → A
on_verdict (Err status) refused made = refused status
on_verdict (Ok done) refused made = made
