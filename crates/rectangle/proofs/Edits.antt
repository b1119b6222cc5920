-- What an edit leaves in one cell, by where the cell lies. Assumes nothing.
use Prim.Native.Nat.{ℕ, ◌+◌, ◌≤◌, ◌<◌}
use mathlib.Core.Path.{◌≡◌, refl, sym, ◌∙◌}
use mathlib.Core.Logic.{◌⊎◌, ⊎_elim}
use borrow.Author.Rules.{rules}
use Rattle.laws.proofs.Tests.{either, fails, Decides, decides_lt, decides_le, decides_eq, decides_both, decides_as}
use Rattle.rectangle.specs.declared.Rect.{Rect}
use Rattle.rectangle.specs.declared.Motion.{Motion}
use Rattle.rectangle.specs.declared.Motion.TheVariants.{Clear, Up, Down, Left, Right}
use Rattle.rectangle.specs.Cells.{column_of, line_of, Inside, inside}
use Rattle.rectangle.specs.Edit.{vacated, origin, edited_cell}

pub decides_inside : (r : Rect) (i : ℕ) → Decides (inside r i) (Inside r i)
unfolding inside
decides_inside r i =
    decides_as
    (decides_both (decides_both (decides_le _ _) (decides_le _ _)) (decides_both (decides_le _ _) (decides_le _ _)))
    (λ k. record { from_left = k.0.0; to_right = k.0.1; from_top = k.1.0; to_bottom = k.1.1 })
    (λ h. ((h.from_left, h.to_right), (h.from_top, h.to_bottom)))

-- the fact that the test `vacated` tests
abbrev pub Vacated : Rect → Motion → ℕ → Type 0
Vacated r Clear i = Unit {0}
Vacated r Up i = line_of i ≡ r.bottom
Vacated r Down i = line_of i ≡ r.top
Vacated r (Left n) i = r.right < column_of i + n
Vacated r (Right n) i = column_of i < r.left + n

pub decides_vacated : (r : Rect) (m : Motion) (i : ℕ) → Decides (vacated r m i) (Vacated r m i)
unfolding vacated
decides_vacated r Clear i = record { holds = λ e. tt; passes = λ v. refl }
decides_vacated r Up i = decides_eq _ _
decides_vacated r Down i = decides_eq _ _
decides_vacated r (Left n) i = decides_lt _ _
decides_vacated r (Right n) i = decides_lt _ _

pub inside? : (r : Rect) (i : ℕ) → Inside r i ⊎ (Inside r i → ⊥)
inside? r i = either (decides_inside r i)

pub vacated? : (r : Rect) (m : Motion) (i : ℕ) → Vacated r m i ⊎ (Vacated r m i → ⊥)
vacated? r m i = either (decides_vacated r m i)

module _ (r : Rect) (m : Motion) (fill : ℕ) (old : ℕ → ℕ) (i : ℕ) where
  pub cell_outside : (Inside r i → ⊥) → edited_cell r m fill old i ≡ old i
  unfolding edited_cell
  cell_outside out = rw (fails (decides_inside r i) out)

  pub cell_vacated : Inside r i → Vacated r m i → edited_cell r m fill old i ≡ fill
  unfolding edited_cell
  cell_vacated h v = simp ((decides_inside r i).passes h, (decides_vacated r m i).passes v)

  pub cell_moved : Inside r i → (Vacated r m i → ⊥) → edited_cell r m fill old i ≡ old (origin m i)
  unfolding edited_cell
  cell_moved h kept = simp ((decides_inside r i).passes h, fails (decides_vacated r m i) kept)

-- what moves to a cell of the rectangle comes from the rectangle
pub origin_inside : (r : Rect) (m : Motion) (i : ℕ) → r.right ≤ 79 → Inside r i → (Vacated r m i → ⊥) → Inside r (origin m i)
unfolding origin
origin_inside r Clear i w h kept = h
origin_inside r Up i w h kept = search rules
origin_inside r Down i w h kept = search rules
origin_inside r (Left n) i w h kept = search rules
origin_inside r (Right n) i w h kept = search rules

-- an edit reads no cell but those of its rectangle, and the cell itself
pub cell_same : (r : Rect) (m : Motion) (fill : ℕ) (old other : ℕ → ℕ) (i : ℕ) → r.right ≤ 79
    → ((k : ℕ) → Inside r k → old k ≡ other k)
    → old i ≡ other i
    → edited_cell r m fill old i ≡ edited_cell r m fill other i
cell_same r m fill old other i w same here =
    ⊎_elim
    (λ h. ⊎_elim
    (λ v. cell_vacated r m fill old i h v ∙ sym (cell_vacated r m fill other i h v))
    (λ kept. cell_moved r m fill old i h kept ∙ same _ (origin_inside r m i w h kept) ∙ sym (cell_moved r m fill other i h kept))
    (vacated? r m i))
    (λ out. cell_outside r m fill old i out ∙ here ∙ sym (cell_outside r m fill other i out))
    (inside? r i)
