-- The ending keys. Assumes nothing.
use mathlib.Core.Path.{◌≡◌, refl}
use mathlib.Core.Logic.{◌⊎◌, inl, inr}
use mathlib.Core.Bool.{true, false}
use Rattle.std.specs.Prelude.{Option, Some, None}
use Rattle.std.specs.Option.{is_some}
use Rattle.field.specs.declared.Ending.{Ending}

some_is_one : {ending : Ending} → Some ending ≡ None → ⊥
some_is_one e = cc

-- an ending, or none
pub ended? : (ending : Option Ending) → (ending ≡ None) ⊎ (ending ≡ None → ⊥)
ended? None = inl refl
ended? (Some ending) = inr some_is_one

-- what a test of one tells
pub ended : {ending : Option Ending} → is_some ending ≡ true → ending ≡ None → ⊥
ended {ending = None} is = cc
ended {ending = Some ending} is = some_is_one

pub not_ended : {ending : Option Ending} → is_some ending ≡ false → ending ≡ None
not_ended {ending = None} is = refl
not_ended {ending = Some ending} is = cc
