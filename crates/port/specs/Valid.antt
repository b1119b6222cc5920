-- Paper 01, 'Screen and port': when a port is sound, here called valid. Each clause is a test, and beside it a proposition. Assumes nothing.
use Rattle.std.specs.Prelude.{ℕ, ◌≤◌, ◌<◌, ◌≡◌, Bool, true, false, cond, not, ◌&&◌, ◌||◌, ◌⊎◌, List, ltb, leb, eqb, get_or}
use Rattle.rectangle.specs.declared.Rect.{Rect}
use Rattle.rectangle.specs.Rectangles.{rect_of, Within, Legal, is_zero_rect, legal, within}
use Rattle.marks.specs.Marks.{within_lines, WithinLines}
use Rattle.port.specs.declared.Flags.{Flags}
use Rattle.port.specs.declared.View.{View}
use Rattle.port.specs.declared.Port.{Port}
use Rattle.port.specs.State.{zero_view}

-- 'the cursor lies in the viewport'
unfoldable pub cursor_inside : View → Bool
cursor_inside v =
    (leb v.viewport.left v.column && leb v.column v.viewport.right)
    && (leb v.viewport.top v.line && leb v.line v.viewport.bottom)

-- 'the viewport is legal and inside home, the cursor lies in the viewport'
unfoldable pub valid_view : Rect → View → Bool
valid_view home v = (legal v.viewport && within v.viewport home) && cursor_inside v

pub record ValidView (home : Rect) (v : View) : Type 0 where
  pub legal : Legal v.viewport
  pub within : Within v.viewport home
  pub from_left : v.viewport.left ≤ v.column
  pub to_right : v.column ≤ v.viewport.right
  pub from_top : v.viewport.top ≤ v.line
  pub to_bottom : v.line ≤ v.viewport.bottom

-- 'fields that carry nothing hold 0'
unfoldable pub is_zero_flags : Flags → Bool
is_zero_flags f = ((not f.dle && not f.scroll) && (not f.wrap && not f.lf)) && not f.advance

unfoldable pub is_zero_view : View → Bool
is_zero_view v =
    (is_zero_rect v.viewport && (eqb v.column 0 && eqb v.line 0))
    && (is_zero_flags v.flags && (not v.inverse && not v.mousetext))

-- 'the same holds of a saved port', which carries nothing where there is none
unfoldable pub valid_saved : Rect → Bool → View → Bool
valid_saved home has v = cond has (valid_view home v) (is_zero_view v)

-- how many parameters a code takes: 'the seven codes that take parameters' take some
unfoldable pub parameters : ℕ → ℕ
parameters code =
    cond (eqb code 0x02) 4
    (cond (eqb code 0x05) 1
    (cond (eqb code 0x06) 1
    (cond (eqb code 0x10) 1
    (cond (eqb code 0x14) 1
    (cond (eqb code 0x15) 1
    (cond (eqb code 0x1e) 2
    0))))))

-- place i of the gathered parameters is in use, or holds 0
unfoldable pub used_or_zero : List ℕ → ℕ → ℕ → Bool
used_or_zero gathered count i = ltb i count || eqb (get_or gathered i 0) 0

unfoldable pub unused_zero : List ℕ → ℕ → Bool
unused_zero gathered count =
    (used_or_zero gathered count 0 && used_or_zero gathered count 1)
    && (used_or_zero gathered count 2 && used_or_zero gathered count 3)

-- 'the waiting code is none or one of the seven codes that take parameters, if one waits fewer are gathered than it needs'
unfoldable pub count_fits : ℕ → ℕ → Bool
count_fits code count = cond (eqb code 0) (eqb count 0) (ltb count (parameters code))

unfoldable pub valid_wait : ℕ → List ℕ → ℕ → Bool
valid_wait code gathered count = count_fits code count && unused_zero gathered count

pub record ValidWait (code : ℕ) (gathered : List ℕ) (count : ℕ) : Type 0 where
  pub known : (code ≡ 0) ⊎ (0 < parameters code)
  pub fewer : 0 < parameters code → count < parameters code
  pub none : code ≡ 0 → count ≡ 0
  pub unused : (i : ℕ) → i < 4 → count ≤ i → get_or gathered i 0 ≡ 0

-- 'sound'; of the marks, request 02: 'a mark outside home's lines isn't sound'
unfoldable pub valid_port : Port → Bool
valid_port p =
    (legal p.home && valid_view p.home p.view)
    && (valid_saved p.home p.hassaved p.saved && (valid_wait p.waiting p.gathered p.count && within_lines p.marks p.home))

pub record ValidPort (p : Port) : Type 0 where
  pub home : Legal p.home
  pub view : ValidView p.home p.view
  pub saved : p.hassaved ≡ true → ValidView p.home p.saved
  pub unsaved : p.hassaved ≡ false → p.saved ≡ zero_view
  pub wait : ValidWait p.waiting p.gathered p.count
  pub marks : WithinLines p.marks p.home

-- of a free seat's port: 'every field of a free seat holds 0 or false'
unfoldable pub is_zero_port : Port → Bool
is_zero_port p =
    (is_zero_rect p.home && (is_zero_view p.view && is_zero_view p.saved))
    && (not p.hassaved && (eqb p.waiting 0 && (unused_zero p.gathered 0 && (eqb p.count 0 && eqb p.marks 0))))

pub record ZeroPort (p : Port) : Type 0 where
  pub home : p.home ≡ rect_of 0 0 0 0
  pub view : p.view ≡ zero_view
  pub saved : p.saved ≡ zero_view
  pub unsaved : p.hassaved ≡ false
  pub waiting : p.waiting ≡ 0
  pub gathered : (i : ℕ) → i < 4 → get_or p.gathered i 0 ≡ 0
  pub count : p.count ≡ 0
  pub marks : p.marks ≡ 0
