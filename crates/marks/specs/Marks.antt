-- Request 02: 'a mark for each of the 24 screen lines that had a cell stored to since the marks were last taken, even if the byte was equal'. Assumes nothing.
use Rattle.std.specs.Prelude.{ℕ, ◌+◌, ◌-◌, ◌^◌, ◌≤◌, ◌≡◌, Bool, true, false, cond, ◌&&◌, ◌||◌, List, [], ◌∷◌, leb, eqb}
use Rattle.std.specs.Int.Bits.{bit_or}
use Rattle.laws.specs.Bits.{bit, count_below}
use Rattle.rectangle.specs.declared.Rect.{Rect}
use Rattle.rectangle.specs.declared.Edit.{Edit}
use Rattle.rectangle.specs.Rectangles.{legal}

-- 'line r is bit r, line 0 the lowest'
abbrev pub is_marked : ℕ → ℕ → Bool
is_marked marks line = bit marks line

-- ---- the lines that were stored to
-- a rectangle has the line
unfoldable pub has_line : Rect → ℕ → Bool
has_line r line = leb r.top line && leb line r.bottom

-- edits store to a line if the rectangle of one of them has it: 'a scroll, or a shift not by 0, stores to the whole viewport'
unfoldable pub stored_to : List Edit → ℕ → Bool
stored_to [] line = false
stored_to (e ∷ es) line = has_line e.rect line || stored_to es line

-- ---- the same as numbers
-- no line is marked
abbrev pub no_marks : ℕ
no_marks = 0

-- the lines from top to bottom
abbrev pub line_marks : ℕ → ℕ → ℕ
line_marks top bottom = 2 ^ (bottom + 1) - 2 ^ top

-- marks, with the lines from top to bottom
unfoldable pub marked : ℕ → ℕ → ℕ → ℕ
marked marks top bottom = bit_or marks (line_marks top bottom)

-- .. with the lines of a rectangle that was stored to
abbrev pub marked_in : ℕ → Rect → ℕ
marked_in marks r = marked marks r.top r.bottom

-- .. and with those of edits
abbrev pub marked_by : ℕ → List Edit → ℕ
marked_by marks [] = marks
marked_by marks (e ∷ es) = marked_by (marked_in marks e.rect) es

-- 'how many lines are marked'
unfoldable pub line_count : ℕ → ℕ
line_count marks = count_below 24 (is_marked marks)

-- ---- 'a mark outside home's lines isn't sound': as a test of a legal rectangle, and as a fact
unfoldable pub within_lines : ℕ → Rect → Bool
within_lines marks r = cond (legal r) (eqb (marked_in marks r) (line_marks r.top r.bottom)) false

abbrev pub WithinLines : ℕ → Rect → Type 0
WithinLines marks r = (line : ℕ) → is_marked marks line ≡ true → (r.top ≤ line) × (line ≤ r.bottom)
