-- A store to one cell is the edit that clears the cell's rectangle. Assumes nothing.
use Prim.Native.Nat.{ℕ, ◌+◌, ◌*◌, ◌≤◌, ◌<◌}
use mathlib.Core.Path.{◌≡◌, sym, ap, ◌∙◌}
use mathlib.Core.Logic.{⊎_elim}
use mathlib.Core.List.{List}
use native.Mathlib.Omega.{arith}
use lib.ListN.{length, get_or, set, length-set}
use lib.Seq.{ext_get_or, get_or-set_same, get_or-set_other}
use Rattle.rectangle.specs.declared.Motion.TheVariants.{Clear}
use Rattle.rectangle.specs.Cells.{Inside}
use Rattle.rectangle.specs.Rectangles.{cell_at}
use Rattle.rectangle.specs.Edit.{edited_cell, edited}
use Rattle.rectangle.proofs.Edits.{inside?, cell_outside, cell_vacated}
use Rattle.rectangle.proofs.Local.{length_edited, edited_at}

module _ (column line byte : ℕ) (s : List ℕ) (across : column ≤ 79) (down : line ≤ 23) (len : length s ≡ 1920) where
  -- inside the rectangle is the one cell
  the_cell : (i : ℕ) → Inside (cell_at column line) i → i ≡ 80 * line + column
  the_cell i h = omega arith

  stored : (i : ℕ) → i < 1920 → get_or (set s (80 * line + column) byte) i 0 ≡ edited_cell (cell_at column line) Clear byte (λ k. get_or s k 0) i
  stored i h =
      ⊎_elim
      (λ here. ap (λ (k : ℕ). get_or (set s (80 * line + column) byte) k 0) (the_cell i here) ∙ get_or-set_same s (80 * line + column) byte 0 (omega arith) ∙ sym (cell_vacated (cell_at column line) Clear byte _ i here tt))
      (λ out. get_or-set_other s (80 * line + column) i byte 0 (λ e. out (omega arith)) ∙ sym (cell_outside (cell_at column line) Clear byte _ i out))
      (inside? (cell_at column line) i)

  pub stores_cell : {index : ℕ} → index ≡ 80 * line + column → set s index byte ≡ edited (cell_at column line) Clear byte s
  stores_cell at =
      ap (λ (k : ℕ). set s k byte) at ∙
      ext_get_or 0 (set s (80 * line + column) byte) (edited (cell_at column line) Clear byte s)
      (length-set s (80 * line + column) byte ∙ len ∙ sym (length_edited (cell_at column line) Clear byte s))
      (λ i h. let small : i < 1920 = omega (arith, length-set s (80 * line + column) byte) in stored i small ∙ sym (edited_at (cell_at column line) Clear byte s i small))
