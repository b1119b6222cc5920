-- Paper 02, request 01: the refusals' rules as propositions, beside the tests of `Verdict`. Assumes nothing.
use Rattle.std.specs.Prelude.{ℕ, ◌≤◌, ◌<◌, ◌⊎◌}
use Rattle.editing.specs.declared.State.{State}
use Rattle.field.specs.declared.Status.{Status}
use Rattle.field.specs.declared.Status.TheVariants.{Done, SizeOutOfRange, BufferTooShort, DefaultTooLong, StateOutOfRange}

-- not 'of 1 to 254'
abbrev pub OutOfRange : ℕ → Type 0
OutOfRange size = (size < 1) ⊎ (254 < size)

-- 'a length past the maximum or a cursor past the length or width'
abbrev pub PastLimits : ℕ → ℕ → State → Type 0
PastLimits width maximum state = (maximum < state.length) ⊎ ((state.length < state.cursor) ⊎ (width < state.cursor))

-- the request's rules, for a width, a maximum, the lengths of default and buffer, and a state
abbrev pub Applies : ℕ → ℕ → ℕ → ℕ → State → Status → Type 0
Applies width maximum default buffer state Done = ⊥
-- '11 width or maximum out of range'
Applies width maximum default buffer state SizeOutOfRange = OutOfRange width ⊎ OutOfRange maximum
-- '12 buffer shorter than the maximum'
Applies width maximum default buffer state BufferTooShort = buffer < maximum
-- '13 default longer than the maximum'
Applies width maximum default buffer state DefaultTooLong = maximum < default
-- '19 a length past the maximum or a cursor past the length or width'
Applies width maximum default buffer state StateOutOfRange = PastLimits width maximum state

-- no rule of a start applies
pub record Sized (width maximum default buffer : ℕ) : Type 0 where
  pub width_low : 1 ≤ width
  pub width_high : width ≤ 254
  pub maximum_low : 1 ≤ maximum
  pub maximum_high : maximum ≤ 254
  pub room : maximum ≤ buffer
  pub default_fits : default ≤ maximum
