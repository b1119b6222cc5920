-- Edits: a rectangle's cells move, and the vacated ones become the fill byte. Assumes nothing.
use Rattle.std.specs.Prelude.{ℕ, ◌+◌, ◌-◌, Bool, true, cond, List, [], ◌∷◌, ltb, eqb, get_or}
use Rattle.laws.specs.Tabulate.{tabulate}
use Rattle.rectangle.specs.declared.Rect.{Rect}
use Rattle.rectangle.specs.declared.Edit.{Edit}
use Rattle.rectangle.specs.declared.Motion.{Motion}
use Rattle.rectangle.specs.declared.Motion.TheVariants.{Clear, Up, Down, Left, Right}
use Rattle.rectangle.specs.Cells.{column_of, line_of, inside}

-- 'vacated': no cell of the rectangle moves to its cell i
unfoldable pub vacated : Rect → Motion → ℕ → Bool
vacated r Clear i = true
vacated r Up i = eqb (line_of i) r.bottom
vacated r Down i = eqb (line_of i) r.top
vacated r (Left n) i = ltb r.right (column_of i + n)
vacated r (Right n) i = ltb (column_of i) (r.left + n)

-- the cell that moves to cell i, where it is not vacated
unfoldable pub origin : Motion → ℕ → ℕ
origin Clear i = i
origin Up i = i + 80
origin Down i = i - 80
origin (Left n) i = i + n
origin (Right n) i = i - n

-- what cell i holds after an edit of cells that held old
unfoldable pub edited_cell : Rect → Motion → ℕ → (ℕ → ℕ) → ℕ → ℕ
edited_cell r m fill old i = cond (inside r i) (cond (vacated r m i) fill (old (origin m i))) (old i)

-- the screen after one edit
unfoldable pub edited : Rect → Motion → ℕ → List ℕ → List ℕ
edited r m fill s = tabulate 1920 (edited_cell r m fill (λ k. get_or s k 0))

-- the screen after a list of edits, the first one first
unfoldable pub draw : List Edit → List ℕ → List ℕ
draw [] s = s
draw (e ∷ es) s = draw es (edited e.rect e.motion e.fill s)

-- the same over functions from a cell to its byte, which computes quickly
unfoldable pub draw_cell : List Edit → (ℕ → ℕ) → ℕ → ℕ
draw_cell [] old = old
draw_cell (e ∷ es) old = draw_cell es (edited_cell e.rect e.motion e.fill old)
