-- Paper 01, 'Screen and port': 'a rectangle is left, top, right, bottom, all inclusive'. Where a rule has a test, a proposition stands beside it. Assumes nothing.
use Rattle.std.specs.Prelude.{ℕ, ◌+◌, ◌-◌, ◌≤◌, ◌<◌, Bool, ◌&&◌, ltb, leb, eqb}
use Rattle.rectangle.specs.declared.Rect.{Rect}
use Rattle.rectangle.specs.Cells.{Inside}

abbrev pub rect_of : ℕ → ℕ → ℕ → ℕ → Rect
rect_of left top right bottom = record { left = left; top = top; right = right; bottom = bottom }

-- '(0,0,79,23)'
abbrev pub whole_screen : Rect
whole_screen = rect_of 0 0 79 23

-- the rectangle of one cell
abbrev pub cell_at : ℕ → ℕ → Rect
cell_at column line = rect_of column line column line

abbrev pub width_of : Rect → ℕ
width_of r = r.right + 1 - r.left

abbrev pub height_of : Rect → ℕ
height_of r = r.bottom + 1 - r.top

-- a rectangle of at least one cell that lies on the screen
pub record OnScreen (r : Rect) : Type 0 where
  pub across : r.left ≤ r.right
  pub down : r.top ≤ r.bottom
  pub right_in : r.right ≤ 79
  pub bottom_in : r.bottom ≤ 23

-- 'legal if left < right <= 79 and top < bottom <= 23'
unfoldable pub legal : Rect → Bool
legal r = (ltb r.left r.right && leb r.right 79) && (ltb r.top r.bottom && leb r.bottom 23)

pub record Legal (r : Rect) : Type 0 where
  pub wide : r.left < r.right
  pub right_in : r.right ≤ 79
  pub tall : r.top < r.bottom
  pub bottom_in : r.bottom ≤ 23

-- each edge of one rectangle is in the other; `Within` says besides that it has a cell
unfoldable pub within : Rect → Rect → Bool
within inner outer =
    (leb outer.left inner.left && leb inner.right outer.right)
    && (leb outer.top inner.top && leb inner.bottom outer.bottom)

pub record Within (inner outer : Rect) : Type 0 where
  pub left_in : outer.left ≤ inner.left
  pub across : inner.left ≤ inner.right
  pub right_in : inner.right ≤ outer.right
  pub top_in : outer.top ≤ inner.top
  pub down : inner.top ≤ inner.bottom
  pub bottom_in : inner.bottom ≤ outer.bottom

-- two rectangles 'share a cell', or share none
unfoldable pub shares_cell : Rect → Rect → Bool
shares_cell r q =
    (leb r.left q.right && leb q.left r.right)
    && (leb r.top q.bottom && leb q.top r.bottom)

abbrev pub Apart : Rect → Rect → Type 0
Apart r q = (i : ℕ) → Inside r i → Inside q i → ⊥

-- 'hold 0': every edge is 0
unfoldable pub is_zero_rect : Rect → Bool
is_zero_rect r = (eqb r.left 0 && eqb r.top 0) && (eqb r.right 0 && eqb r.bottom 0)
