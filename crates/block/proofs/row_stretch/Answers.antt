-- `block::row_stretch` meets its contract: the row's line from the rectangle's left edge on, as many cells as it is wide. Assumes nothing.
use Prim.Native.Nat.{ℕ}
use mathlib.Core.Path.{◌≡◌, subst}
use mathlib.Core.List.{List}
use denote.Ref.{Bor}
use Rattle.laws.specs.Parts.{stretch, IsPart}
use Rattle.block.specs.Block.{row_start}
use Rattle.block.proofs.row_stretch.Goals as goal

of_width : (lent part : Bor (List ℕ)) (start : ℕ) {n m : ℕ} → n ≡ m → IsPart lent part (stretch start n) → IsPart lent part (stretch start m)
of_width lent part start e h = subst (λ (n : ℕ). IsPart lent part (stretch start n)) e h

pub returns : goal.returns
unfolding row_start
returns c = search of_width
