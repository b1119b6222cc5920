-- Paper 01, 'Examples at the edges': P1 to P12; P7, P8 and P10 once more where they show more, and the scene of P11 and P12. Assumes nothing.
use Rattle.std.specs.Prelude.{ℕ, List, [], ◌∷◌, ◌++◌}
use Rattle.rectangle.specs.declared.Rect.{Rect}
use Rattle.rectangle.specs.Rectangles.{rect_of, whole_screen}
use Rattle.examples.specs.Example.{Cell, Example}

abbrev cell : ℕ → ℕ → ℕ → Cell
cell column line byte = record { column = column; line = line; byte = byte }

-- no example rings a bell
abbrev example : List ℕ → List ℕ → List Cell → Rect → ℕ → ℕ → Example
example scene bytes cells viewport column line =
    record { scene = scene; bytes = bytes; cells = cells; viewport = viewport; column = column; line = line; bells = 0 }

-- 'the viewport of P6'
abbrev small_viewport : Rect
small_viewport = rect_of 10 5 12 7

-- 'the viewport of P6, each line $81 $82 $83': set it, scroll off, A B C in each line, scroll on, cursor home
abbrev small_text : List ℕ
small_text =
    0x02 ∷ 0x2a ∷ 0x25 ∷ 0x2c ∷ 0x27 ∷ 0x15 ∷ 0x17 ∷ 0x41 ∷ 0x42 ∷ 0x43 ∷ 0x41 ∷ 0x42 ∷ 0x43 ∷ 0x41 ∷ 0x42 ∷ 0x43 ∷ 0x15 ∷ 0x1f ∷ 0x19 ∷ []

-- three bytes in each of its lines
abbrev small_cells : ℕ → ℕ → ℕ → List Cell
small_cells a b c =
    cell 10 5 a ∷ cell 11 5 b ∷ cell 12 5 c ∷ cell 10 6 a ∷ cell 11 6 b ∷ cell 12 6 c ∷ cell 10 7 a ∷ cell 11 7 b ∷ cell 12 7 c ∷ []

abbrev pub P1 : Example
P1 = example [] (0x41 ∷ []) (cell 0 0 0x81 ∷ []) whole_screen 1 0

abbrev pub P2 : Example
P2 = example [] (0x0f ∷ 0x41 ∷ []) (cell 0 0 0x01 ∷ []) whole_screen 1 0

abbrev pub P3 : Example
P3 = example [] (0x0f ∷ 0x1b ∷ 0x41 ∷ []) (cell 0 0 0x41 ∷ []) whole_screen 1 0

abbrev pub P4 : Example
P4 = example [] (0x1b ∷ 0x41 ∷ []) (cell 0 0 0x81 ∷ []) whole_screen 1 0

abbrev pub P5 : Example
P5 = example [] (0xe1 ∷ []) (cell 0 0 0x61 ∷ []) whole_screen 1 0

abbrev pub P6 : Example
P6 = example [] (0x02 ∷ 0x2a ∷ 0x25 ∷ 0x2c ∷ 0x27 ∷ []) [] small_viewport 10 5

abbrev pub P7 : Example
P7 = example [] (0x02 ∷ 0x20 ∷ 0x20 ∷ 0x20 ∷ 0x21 ∷ []) [] whole_screen 0 0

-- P7 after P6, with the cursor moved: the viewport and the cursor stay
abbrev pub P7_after_P6 : Example
P7_after_P6 = example (P6.bytes ++ (0x1c ∷ [])) P7.bytes [] small_viewport 11 5

abbrev pub P8 : Example
P8 = example [] (0x02 ∷ 0x20 ∷ 0x20 ∷ 0x7f ∷ 0x7f ∷ []) [] whole_screen 0 0

-- P8 after P6: the viewport grows again
abbrev pub P8_after_P6 : Example
P8_after_P6 = example P6.bytes P8.bytes [] whole_screen 0 0

-- 'cursor (79,23)', by $1E
abbrev pub P9 : Example
P9 = example (0x1e ∷ 0x6f ∷ 0x37 ∷ []) (0x41 ∷ []) (cell 79 22 0x81 ∷ []) whole_screen 0 23

abbrev pub P10 : Example
P10 = example [] (0x08 ∷ []) [] whole_screen 79 0

-- P10 with a character at (0,0), which scrolls down
abbrev pub P10_over_text : Example
P10_over_text = example (0x41 ∷ 0x19 ∷ []) (0x08 ∷ []) (cell 0 0 0xa0 ∷ cell 0 1 0x81 ∷ []) whole_screen 79 0

-- the scene that P11 and P12 start from
abbrev pub P11_scene : Example
P11_scene = example [] small_text (small_cells 0x81 0x82 0x83) small_viewport 10 5

abbrev pub P11 : Example
P11 = example small_text (0x05 ∷ 0xff ∷ []) (small_cells 0x82 0x83 0xa0) small_viewport 10 5

abbrev pub P12 : Example
P12 = example small_text (0x05 ∷ 0x80 ∷ []) (small_cells 0xa0 0xa0 0xa0) small_viewport 10 5

abbrev pub examples : List Example
examples = P1 ∷ P2 ∷ P3 ∷ P4 ∷ P5 ∷ P6 ∷ P7 ∷ P7_after_P6 ∷ P8 ∷ P8_after_P6 ∷ P9 ∷ P10 ∷ P10_over_text ∷ P11_scene ∷ P11 ∷ P12 ∷ []
