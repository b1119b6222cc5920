-- Paper 02, request 01: what each key does to a text and a cursor, in the request's order. No buffer is in sight: where the text lies is in `Buffer`.
-- The keys have document 001's names. Assumes nothing.
use Rattle.std.specs.Prelude.{ℕ, ◌+◌, ◌-◌, min, Bool, cond, ◌&&◌, ◌||◌, List, [], ◌∷◌, ◌++◌, ltb, leb, eqb, length, take, drop}

-- a text, and how many of its characters stand before the cursor
pub record Content : Type 0 where
  pub text : List ℕ
  pub cursor : ℕ

-- 'a lent default text of any bytes, .. a width and a maximum'
pub record Settings : Type 0 where
  pub width : ℕ
  pub maximum : ℕ
  pub default : List ℕ

-- what a key leaves, and its beeps: 1 or none
pub record Effect : Type 0 where
  pub content : Content
  pub beeps : ℕ

abbrev pub becomes : List ℕ → ℕ → Effect
becomes text cursor = record { content = record { text = text; cursor = cursor }; beeps = 0 }

-- 'beeped and dropped': text and cursor stay
abbrev pub beep : Content → Effect
beep c = record { content = c; beeps = 1 }

-- 'the text starts as the default, cursor after its last character but never past the width'
abbrev pub start_content : ℕ → List ℕ → Content
start_content width default = record { text = default; cursor = min (length default) width }

-- a text with one character more at a place, and with one less
abbrev pub inserted : ℕ → ℕ → List ℕ → List ℕ
inserted at character text = take at text ++ character ∷ drop at text

abbrev pub removed : ℕ → List ℕ → List ℕ
removed at text = take at text ++ drop (at + 1) text

-- 'printing keys, $20 to $7E'
abbrev pub is_printing_key : ℕ → Bool
is_printing_key key = leb 0x20 key && leb key 0x7e

-- .. 'insert': 'beeped and dropped if the text would exceed the maximum or the cursor stands at the width'
unfoldable pub insert : ℕ → ℕ → Content → ℕ → Effect
insert width maximum c key =
    cond (ltb maximum (length c.text + 1) || eqb c.cursor width)
    (beep c)
    (becomes (inserted c.cursor key c.text) (c.cursor + 1))

-- LEFT-ARROW: '$08 moves left'
unfoldable pub move_left : Content → Effect
move_left c = cond (eqb c.cursor 0) (beep c) (becomes c.text (c.cursor - 1))

-- RIGHT-ARROW: '$15 right'; 'the cursor never passes the text's end or the width'
unfoldable pub move_right : ℕ → Content → Effect
move_right width c = cond (eqb c.cursor (length c.text) || eqb c.cursor width) (beep c) (becomes c.text (c.cursor + 1))

-- CONTROL-D and DELETE: '$04 and $7F delete left'
unfoldable pub delete_left : Content → Effect
delete_left c = cond (eqb c.cursor 0) (beep c) (becomes (removed (c.cursor - 1) c.text) (c.cursor - 1))

-- CONTROL-F: '$06 deletes under the cursor'
unfoldable pub delete_under : Content → Effect
delete_under c = cond (eqb c.cursor (length c.text)) (beep c) (becomes (removed c.cursor c.text) c.cursor)

-- CONTROL-X: '$18 empties'; 'on an empty text' it is beeped
unfoldable pub delete_all : Content → Effect
delete_all c = cond (eqb (length c.text) 0) (beep c) (becomes [] 0)

-- CONTROL-Y: '$19 deletes from the cursor to the end of the text'
unfoldable pub delete_to_end : Content → Effect
delete_to_end c = cond (eqb c.cursor (length c.text)) (beep c) (becomes (take c.cursor c.text) c.cursor)

-- CONTROL-Z: '$1A brings text and cursor back to the start'
unfoldable pub restore_default : ℕ → List ℕ → Effect
restore_default width default = record { content = start_content width default; beeps = 0 }

-- a key that ends nothing. 'Moves and deletes with nothing to do .. are beeped; other keys too'
unfoldable pub press : Settings → Content → ℕ → Effect
press f c key =
    cond (is_printing_key key) (insert f.width f.maximum c key)
    (cond (eqb key 0x08) (move_left c)
    (cond (eqb key 0x15) (move_right f.width c)
    (cond (eqb key 0x04) (delete_left c)
    (cond (eqb key 0x7f) (delete_left c)
    (cond (eqb key 0x06) (delete_under c)
    (cond (eqb key 0x18) (delete_all c)
    (cond (eqb key 0x19) (delete_to_end c)
    (cond (eqb key 0x1a) (restore_default f.width f.default)
    (beep c)))))))))
