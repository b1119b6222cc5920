-- What bytes mark, by example: one table for the codes of paper 01. (Marks that are there before are of low lines: as a number they are small, and what is computed stays short.) Assumes nothing.
use Rattle.std.specs.Prelude.{ℕ, zero, suc, ◌+◌, Bool, true, not, cond, ◌&&◌, List, [], ◌∷◌, ◌++◌, leb, ltb}
use Rattle.marks.specs.Marks.{is_marked}
use Rattle.port.specs.declared.Port.{Port}
use Rattle.port.specs.Stream.{stream}
use Rattle.console.specs.Calls.{fresh_console}

-- bytes to set the scene on a fresh console, the bytes of the example, and the lines that are marked then: `count` of them from `top` on
pub record Row : Type 0 where
  pub scene : List ℕ
  pub bytes : List ℕ
  pub top : ℕ
  pub count : ℕ

abbrev row : List ℕ → List ℕ → ℕ → ℕ → Row
row scene bytes top count = record { scene = scene; bytes = bytes; top = top; count = count }

-- the lines below n are marked exactly where the row says so
abbrev pub lines_right : ℕ → ℕ → ℕ → ℕ → Bool
lines_right zero marks top count = true
lines_right (suc n) marks top count =
    cond (leb top n && ltb n (top + count)) (is_marked marks n) (not (is_marked marks n)) && lines_right n marks top count

abbrev pub right : Row → Bool
right x =
    let before : Port = (stream fresh_console x.scene).port in
    let after : Port = (stream before x.bytes).port in
    lines_right 24 after.marks x.top x.count

abbrev pub all_right : List Row → Bool
all_right [] = true
all_right (x ∷ xs) = right x && all_right xs

-- the cursor in column 3, line 5 of the screen; and in its last line
abbrev on_line5 : List ℕ
on_line5 = 0x1e ∷ 0x23 ∷ 0x25 ∷ []

abbrev at_bottom : List ℕ
at_bottom = 0x1e ∷ 0x20 ∷ 0x37 ∷ []

-- the viewport of P6, columns 10 to 12 and lines 5 to 7; and with the cursor in its last cell
abbrev small_port : List ℕ
small_port = 0x02 ∷ 0x2a ∷ 0x25 ∷ 0x2c ∷ 0x27 ∷ []

abbrev at_last_cell : List ℕ
at_last_cell = small_port ++ (0x1e ∷ 0x22 ∷ 0x22 ∷ [])

abbrev pub table : List Row
table =
    -- printing: the line of the cell that is stored to, also without advance; where it scrolls, the viewport's; a space on a blank screen changes no cell
    row on_line5 (0x41 ∷ []) 5 1
    ∷ row (0x15 ∷ 0x0f ∷ on_line5) (0x41 ∷ []) 5 1
    ∷ row at_last_cell (0x41 ∷ []) 5 3
    ∷ row [] (0x20 ∷ []) 0 1
    -- $03, $1A, $1D: the cursor's line; $13 and $0B: the lines that they reach; $0C: the viewport's
    ∷ row on_line5 (0x03 ∷ []) 5 1
    ∷ row on_line5 (0x1a ∷ []) 5 1
    ∷ row on_line5 (0x1d ∷ []) 5 1
    ∷ row on_line5 (0x13 ∷ []) 0 6
    ∷ row on_line5 (0x0b ∷ []) 5 19
    ∷ row at_last_cell (0x0c ∷ []) 5 3
    -- scrolls: the viewport's lines, also those that come of $0A, $0D and $1C at the end, and of $08 and $1F at the top
    ∷ row at_last_cell (0x16 ∷ []) 5 3
    ∷ row at_last_cell (0x17 ∷ []) 5 3
    ∷ row at_bottom (0x0a ∷ []) 0 24
    ∷ row at_bottom (0x0d ∷ []) 0 24
    ∷ row at_last_cell (0x1c ∷ []) 5 3
    ∷ row [] (0x08 ∷ []) 0 24
    ∷ row [] (0x1f ∷ []) 0 24
    -- shifts but by 0, right and left, also of the width or more
    ∷ row small_port (0x05 ∷ 0x01 ∷ []) 5 3
    ∷ row small_port (0x05 ∷ 0x7f ∷ []) 5 3
    ∷ row small_port (0x05 ∷ 0xff ∷ []) 5 3
    ∷ row small_port (0x05 ∷ 0x80 ∷ []) 5 3
    ∷ row small_port (0x05 ∷ 0x00 ∷ []) 0 0
    -- $10: its spaces are printed, if there are any and DLE is on
    ∷ row on_line5 (0x10 ∷ 0x22 ∷ []) 5 1
    ∷ row on_line5 (0x10 ∷ 0x20 ∷ []) 0 0
    ∷ row (0x15 ∷ 0x0f ∷ on_line5) (0x10 ∷ 0x22 ∷ []) 0 0
    -- $01 and $04 neither save nor change marks, and $02 drops none outside the new viewport
    ∷ row (on_line5 ++ (0x41 ∷ [])) (0x01 ∷ []) 5 1
    ∷ row (0x01 ∷ on_line5 ++ (0x41 ∷ [])) (0x04 ∷ []) 5 1
    ∷ row (on_line5 ++ (0x41 ∷ [])) (0x04 ∷ []) 5 1
    ∷ row (0x41 ∷ []) small_port 0 1
    -- moves without a scroll, modes, the bell and codes that do nothing: none
    ∷ row on_line5 (0x08 ∷ 0x0a ∷ 0x0d ∷ 0x1c ∷ 0x1f ∷ 0x19 ∷ 0x06 ∷ 0x21 ∷ 0x14 ∷ 0x21 ∷ []) 0 0
    ∷ row on_line5 (0x0e ∷ 0x0f ∷ 0x18 ∷ 0x1b ∷ 0x15 ∷ 0x1f ∷ 0x07 ∷ 0x00 ∷ 0x09 ∷ 0x11 ∷ 0x12 ∷ []) 0 0
    ∷ []
