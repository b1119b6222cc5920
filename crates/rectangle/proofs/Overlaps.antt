-- The test for a shared cell is true exactly when some cell lies in both rectangles. Assumes nothing.
use Prim.Native.Nat.{ℕ, ◌+◌, ◌-◌, ◌*◌, ◌≤◌}
use native.Mathlib.Omega.{arith}
use borrow.Author.Rules.{rules}
use Rattle.laws.proofs.Tests.{Decides, decides_le, decides_both, decides_as}
use Rattle.rectangle.specs.declared.Rect.{Rect}
use Rattle.rectangle.specs.Cells.{Inside}
use Rattle.rectangle.specs.Rectangles.{Apart, Legal, shares_cell}

-- what the test compares
pub record Overlap (r q : Rect) : Type 0 where
  pub left_right : r.left ≤ q.right
  pub right_left : q.left ≤ r.right
  pub top_bottom : r.top ≤ q.bottom
  pub bottom_top : q.top ≤ r.bottom

pub decides_overlap : (r q : Rect) → Decides (shares_cell r q) (Overlap r q)
unfolding shares_cell
decides_overlap r q =
    decides_as (decides_both (decides_both (decides_le _ _) (decides_le _ _)) (decides_both (decides_le _ _) (decides_le _ _)))
    (λ k. record { left_right = k.0.0; right_left = k.0.1; top_bottom = k.1.0; bottom_top = k.1.1 })
    (λ h. ((h.left_right, h.right_left), (h.top_bottom, h.bottom_top)))

pub cell_overlap : {r q : Rect} {i : ℕ} → Inside r i → Inside q i → Overlap r q
cell_overlap a b = search rules

-- the cell whose column is the greater of the left edges, and whose line the greater of the top ones
pub overlap_cell : (r q : Rect) → Legal r → Legal q → Overlap r q → (i : ℕ) × Inside r i × Inside q i
overlap_cell r q a b h =
    let column = r.left + (q.left - r.left) in
    let line = r.top + (q.top - r.top) in
    (80 * line + column, omega arith, omega arith)

-- legal rectangles: some cell lies in both
pub decides_shared : (r q : Rect) → Legal r → Legal q → Decides (shares_cell r q) ((i : ℕ) × Inside r i × Inside q i)
decides_shared r q a b = decides_as (decides_overlap r q) (overlap_cell r q a b) (λ k. cell_overlap k.1 k.2)

pub overlap_apart : {r q : Rect} → (Overlap r q → ⊥) → Apart r q
overlap_apart h i a b = h (cell_overlap a b)

pub apart_overlap : {r q : Rect} → Legal r → Legal q → Apart r q → Overlap r q → ⊥
apart_overlap {r} {q} a b apart h = let k = overlap_cell r q a b h in apart k.0 k.1 k.2
