-- Paper 02, request 01: 'the ending keys are $0D and $1B'; 'the answer names it, or none'. Assumes nothing.
use Rattle.std.specs.Prelude.{ℕ, cond, eqb, Option, Some, None}
use Rattle.field.specs.declared.Ending.{Ending}
use Rattle.field.specs.declared.Ending.TheVariants.{Return, Escape}

-- the ending that a key is
unfoldable pub ending_of : ℕ → Option Ending
ending_of key = cond (eqb key 0x0d) (Some Return) (cond (eqb key 0x1b) (Some Escape) None)

-- its key, and 0 for none
abbrev pub ending_key : Option Ending → ℕ
ending_key None = 0
ending_key (Some Return) = 0x0d
ending_key (Some Escape) = 0x1b
