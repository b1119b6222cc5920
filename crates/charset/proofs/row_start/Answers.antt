-- `charset::row_start` meets its contract: a mode's number is its row. Assumes nothing.
use mathlib.Core.Path.{◌≡◌, refl}
use native.Mathlib.Omega.{arith}
use denote.Enum.Declared.{tag_of}
use Rattle.charset.specs.declared.Mode.{Mode}
use Rattle.charset.specs.declared.Mode.TheVariants.{Normal, Inverse, MouseText}
use Rattle.charset.specs.contracts.Mode.{the_type}
use Rattle.charset.specs.Stored.{row_of}
use Rattle.charset.proofs.row_start.Goals as goal

numbered : (mode : Mode) → tag_of the_type mode ≡ row_of mode
unfolding row_of
numbered Normal = refl
numbered Inverse = refl
numbered MouseText = refl

pub returns-clause-place : goal.returns-clause-place
returns-clause-place c = let number = numbered c.args.mode in omega arith
