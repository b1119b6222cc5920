-- What a row of a rectangle, and a block of its cells, holds and how long it is. Assumes nothing.
use Prim.Native.Nat.{ℕ, zero, suc, ◌+◌, ◌-◌, ◌*◌, ◌≤◌, ◌<◌}
use mathlib.Core.Path.{◌≡◌, refl, sym, ap, ◌∙◌}
use mathlib.Core.Bool.{true}
use mathlib.Core.List.{List, ◌∷◌}
use native.Mathlib.Nat.{mul_comm, mul-le-mul_right}
use native.Mathlib.Omega.{arith}
use borrow.Author.Rules.{rules}
use borrow.Author.Tests.{eq-eqb}
use lib.ListN.{length, get_or, length-append, length-take, length-drop, get_or-append}
use lib.Seq.{get_or-take, get_or-drop, get_or-append-add, ext_get_or}
use Rattle.std.proofs.lemmas.Bool.{and_from}
use Rattle.rectangle.specs.declared.Rect.{Rect}
use Rattle.rectangle.specs.Cells.{column_of, line_of, Inside}
use Rattle.rectangle.specs.Rectangles.{OnScreen, width_of, height_of}
use Rattle.rectangle.specs.Local.{Agree}
use Rattle.block.specs.Block.{block_length, row_start, row_cells, rows_from, block_of, block_fits, block_place}

-- a row lies on the screen
pub row_fits : (r : Rect) (row : ℕ) → OnScreen r → row < height_of r → row_start r row + width_of r ≤ 1920
unfolding row_start
row_fits r row fits h = omega arith

-- cell c of a row lies in the rectangle
pub row_inside : (r : Rect) (row c : ℕ) → OnScreen r → row < height_of r → c < width_of r → Inside r (row_start r row + c)
unfolding row_start
row_inside r row c fits h k = search rules

-- a row holds the width's number of cells, and these
pub row_length : (r : Rect) (row : ℕ) (s : List ℕ) → OnScreen r → row < height_of r → length s ≡ 1920 → length (row_cells r row s) ≡ width_of r
unfolding row_cells
row_length r row s fits h l = simp (length-take, length-drop) (omega (arith, row_fits r row fits h))

pub row_at : (r : Rect) (row : ℕ) (s : List ℕ) (c : ℕ) → c < width_of r → get_or (row_cells r row s) c 0 ≡ get_or s (row_start r row + c) 0
unfolding row_cells
row_at r row s c k = rw (get_or-take, get_or-drop)

-- rows one after the other: how many cells they are, and cell c of the row k rows after the first
module _ (r : Rect) (s : List ℕ) (fits : OnScreen r) (l : length s ≡ 1920) where
  length_rows : (row count : ℕ) → row + count ≤ height_of r → length (rows_from r row count s) ≡ count * width_of r
  unfolding rows_from
  length_rows row zero h = omega arith
  length_rows row (suc count) h = simp length-append (omega (arith, row_length r row s fits (omega arith) l, length_rows (suc row) count (omega arith)))

  rows_at : (row count k c : ℕ) → row + count ≤ height_of r → k < count → c < width_of r
      → get_or (rows_from r row count s) (k * width_of r + c) 0 ≡ get_or s (row_start r (row + k) + c) 0
  unfolding rows_from
  rows_at row zero k c h below small = absurd (omega arith)
  rows_at row (suc count) zero c h below small =
      let place : zero * width_of r + c ≡ c = omega arith in
      let same : row + zero ≡ row = omega arith in
      rw (place, same)
      (get_or-append (row_cells r row s) _ 0 c (omega (arith, row_length r row s fits (omega arith) l)) ∙ row_at r row s c small)
  rows_at row (suc count) (suc k) c h below small =
      let place : suc k * width_of r + c ≡ length (row_cells r row s) + (k * width_of r + c) = omega (arith, row_length r row s fits (omega arith) l) in
      rw place (get_or-append-add (row_cells r row s) _ _ 0) ∙ rows_at (suc row) count k c (omega arith) (omega arith) small ∙ ap (λ x. get_or s (row_start r x + c) 0) (omega arith)

-- a block is as long as its rectangle says, and fits it
pub length_block : (r : Rect) (s : List ℕ) → OnScreen r → length s ≡ 1920 → length (block_of r s) ≡ block_length r
unfolding block_of block_length
length_block r s fits l = omega (arith, length_rows r s fits l 0 (height_of r) (omega arith), mul_comm (width_of r) (height_of r))

pub block_fits_lem : (r : Rect) (s : List ℕ) → OnScreen r → length s ≡ 1920 → block_fits r (block_of r s) ≡ true
unfolding block_fits block_of
block_fits_lem r s fits l = and_from _ _ (eq-eqb _ _ (length_block r s fits l)) (and_from _ _ (eq-eqb (width_of r) (width_of r) refl) (eq-eqb (height_of r) (height_of r) refl))

-- where a row lies in a block, and what it holds there
pub row_in_block : (r : Rect) (row : ℕ) → row < height_of r → 2 + row * width_of r + width_of r ≤ block_length r
unfolding block_length
row_in_block r row h = omega (arith, mul-le-mul_right (width_of r) h, mul_comm (width_of r) (height_of r))

pub block_row : (r : Rect) (s : List ℕ) → OnScreen r → length s ≡ 1920 → (row c : ℕ) → row < height_of r → c < width_of r
    → get_or (block_of r s) (2 + row * width_of r + c) 0 ≡ get_or s (row_start r row + c) 0
unfolding block_of
block_row r s fits l row c h small =
    let place : 2 + row * width_of r + c ≡ suc (suc (row * width_of r + c)) = omega arith in
    let same : 0 + row ≡ row = omega arith in
    rw place (rw same at (rows_at r s fits l 0 (height_of r) row c (omega arith) h small))

-- the place of a cell of the rectangle in a block
pub place_of_row : (r : Rect) (row c : ℕ) → OnScreen r → row < height_of r → c < width_of r → block_place r (row_start r row + c) ≡ 2 + row * width_of r + c
unfolding block_place row_start
place_of_row r row c fits h small = let line : line_of (80 * (r.top + row) + r.left + c) - r.top ≡ row = omega arith in rw line (omega arith)

pub block_at : (r : Rect) (s : List ℕ) → OnScreen r → length s ≡ 1920 → (i : ℕ) → Inside r i → get_or (block_of r s) (block_place r i) 0 ≡ get_or s i 0
unfolding block_place row_start
block_at r s fits l i h =
    let row = line_of i - r.top in
    let c = column_of i - r.left in
    let place : block_place r i ≡ 2 + row * width_of r + c = omega arith in
    let here : row_start r row + c ≡ i = omega arith in
    rw place (rw here at (block_row r s fits l row c (omega arith) (omega arith)))

-- a row, and a block, depend on no cell but those of the rectangle
row_agrees : (r : Rect) (s t : List ℕ) → OnScreen r → length s ≡ 1920 → length t ≡ 1920 → Agree r s t
    → (row : ℕ) → row < height_of r → row_cells r row s ≡ row_cells r row t
row_agrees r s t fits l l' agree row h =
    ext_get_or 0 _ _ (row_length r row s fits h l ∙ sym (row_length r row t fits h l'))
    (λ c k. let small : c < width_of r = omega (arith, row_length r row s fits h l) in
    row_at r row s c small ∙ agree _ (row_inside r row c fits h small) ∙ sym (row_at r row t c small))

pub rows_agree : (r : Rect) (s t : List ℕ) → OnScreen r → length s ≡ 1920 → length t ≡ 1920 → Agree r s t → block_of r s ≡ block_of r t
unfolding block_of rows_from
rows_agree r s t fits l l' agree = ap (λ x. width_of r ∷ height_of r ∷ x) (go 0 (height_of r) (omega arith))
  where
    go : (row count : ℕ) → row + count ≤ height_of r → rows_from r row count s ≡ rows_from r row count t
    go row zero h = refl
    go row (suc count) h = rw (row_agrees r s t fits l l' agree row (omega arith), go (suc row) count (omega arith))
