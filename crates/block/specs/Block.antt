-- Paper 01, 'Blocks, rows, one byte': a block of the cells of a rectangle, and a row of it. Assumes nothing.
use Rattle.std.specs.Prelude.{ℕ, zero, suc, ◌+◌, ◌-◌, ◌*◌, Bool, cond, ◌&&◌, List, [], ◌∷◌, ◌++◌, eqb, length, get_or}
use Rattle.laws.specs.Tabulate.{tabulate}
use Rattle.laws.specs.Parts.{Stretch, stretch, bytes_of}
use Rattle.rectangle.specs.declared.Rect.{Rect}
use Rattle.rectangle.specs.Cells.{column_of, line_of, cell_index, inside}
use Rattle.rectangle.specs.Rectangles.{width_of, height_of}

-- '2 + width x height'
unfoldable pub block_length : Rect → ℕ
block_length r = 2 + width_of r * height_of r

-- 'a row of a port's viewport .. by its number, 0 at the top': where it starts
unfoldable pub row_start : Rect → ℕ → ℕ
row_start r row = cell_index r.left (r.top + row)

-- 'that stretch of the lent screen'
abbrev pub row_stretch : Rect → ℕ → Stretch
row_stretch r row = stretch (row_start r row) (width_of r)

unfoldable pub row_cells : Rect → ℕ → List ℕ → List ℕ
row_cells r row s = bytes_of (row_stretch r row) s

-- the cells of count rows 'line by line', the first of them row
unfoldable pub rows_from : Rect → ℕ → ℕ → List ℕ → List ℕ
rows_from r row zero s = []
rows_from r row (suc count) s = row_cells r row s ++ rows_from r (suc row) count s

-- 'a returned block is a width byte, a height byte, then the viewport's cells line by line'
unfoldable pub block_of : Rect → List ℕ → List ℕ
block_of r s = width_of r ∷ height_of r ∷ rows_from r 0 (height_of r) s

-- 'length is .. exactly 2 + width x height', and 'the first two bytes are .. the viewport's width and height'
unfoldable pub block_fits : Rect → List ℕ → Bool
block_fits r block = eqb (length block) (block_length r) && (eqb (get_or block 0 0) (width_of r) && eqb (get_or block 1 0) (height_of r))

-- the place in a block of a cell of the viewport
unfoldable pub block_place : Rect → ℕ → ℕ
block_place r i = 2 + ((line_of i - r.top) * width_of r + (column_of i - r.left))

-- 'restore writes the cells'
unfoldable pub restored : Rect → List ℕ → List ℕ → List ℕ
restored r block s = tabulate 1920 (λ i. cond (inside r i) (get_or block (block_place r i) 0) (get_or s i 0))
