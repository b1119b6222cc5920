-- Paper 01, 'Screen and port': 'the screen is 1,920 bytes: 24 lines of 80 columns, line 0 first, column 0 first'. Assumes nothing.
use Rattle.std.specs.Prelude.{ℕ, ◌+◌, ◌*◌, ◌/◌, ◌%◌, ◌≤◌, Bool, ◌&&◌, leb}
use Rattle.rectangle.specs.declared.Rect.{Rect}

-- cell i of the 1,920, line 0 first, column 0 first: its column and its line
abbrev pub column_of : ℕ → ℕ
column_of i = i % 80

abbrev pub line_of : ℕ → ℕ
line_of i = i / 80

-- .. and the cell of a column and a line
abbrev pub cell_index : ℕ → ℕ → ℕ
cell_index column line = 80 * line + column

-- cell i lies in the rectangle, all of whose edges are inclusive: as a fact, and as a test
pub record Inside (r : Rect) (i : ℕ) : Type 0 where
  pub from_left : r.left ≤ column_of i
  pub to_right : column_of i ≤ r.right
  pub from_top : r.top ≤ line_of i
  pub to_bottom : line_of i ≤ r.bottom

unfoldable pub inside : Rect → ℕ → Bool
inside r i =
    (leb r.left (column_of i) && leb (column_of i) r.right)
    && (leb r.top (line_of i) && leb (line_of i) r.bottom)
