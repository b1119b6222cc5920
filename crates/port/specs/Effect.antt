-- What a code does to a view, and the edits that it makes on the screen. Assumes nothing.
use Rattle.std.specs.Prelude.{ℕ, List, [], ◌++◌}
use Rattle.rectangle.specs.declared.Rect.{Rect}
use Rattle.rectangle.specs.declared.Edit.{Edit}
use Rattle.rectangle.specs.declared.Motion.{Motion}
use Rattle.rectangle.specs.declared.Motion.TheVariants.{Clear}
use Rattle.rectangle.specs.Rectangles.{rect_of}
use Rattle.port.specs.declared.View.{View}
use Rattle.port.specs.State.{cursor_at}

pub record Effect : Type 0 where
  pub view : View
  pub edits : List Edit

-- the view alone
abbrev pub becomes : View → Effect
becomes v = record { view = v; edits = [] }

-- a view, and edits
abbrev pub draws : View → List Edit → Effect
draws v es = record { view = v; edits = es }

-- one effect, and then what comes of the view that it leaves
abbrev pub and_then : Effect → (View → Effect) → Effect
and_then e f =
    let next : Effect = f e.view in
    record { view = next.view; edits = e.edits ++ next.edits }

-- the cursor at the 'top left' of the viewport
abbrev pub homed : View → View
homed v = cursor_at v v.viewport.left v.viewport.top

-- 'a blank is $A0': the byte that erasing stores, and that vacated cells get
abbrev pub fill_byte : View → ℕ
fill_byte v = 0xa0

-- 'erasing stores blanks'
abbrev pub erase_edit : View → Rect → Edit
erase_edit v r = record { rect = r; motion = Clear; fill = fill_byte v }

-- the viewport's cells move, and 'vacated cells are blank'
abbrev pub move_edit : View → Motion → Edit
move_edit v motion = record { rect = v.viewport; motion = motion; fill = fill_byte v }

-- columns of the cursor's line
abbrev pub line_span : View → ℕ → ℕ → Rect
line_span v left right = rect_of left v.line right v.line

-- whole lines of the viewport
abbrev pub view_lines : View → ℕ → ℕ → Rect
view_lines v top bottom = rect_of v.viewport.left top v.viewport.right bottom
