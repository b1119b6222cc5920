-- Paper 01, 'From code to stored byte', as request 03 of paper 02 mends it: the range rule, and what it is for a table to agree with it. Assumes nothing.
use Rattle.std.specs.Prelude.{ℕ, ◌+◌, ◌-◌, ◌*◌, ◌≤◌, ◌<◌, ◌≡◌, Bool, cond, ◌&&◌, ◌||◌, List, leb, length, get_or}
use Rattle.charset.specs.declared.Mode.{Mode}
use Rattle.charset.specs.declared.Mode.TheVariants.{Normal, Inverse, MouseText}

-- 'printing codes are $20 to $FF': as a test, and beside it as a proposition. A code is a byte.
abbrev pub is_printing : ℕ → Bool
is_printing code = leb 0x20 code

abbrev pub Printing : ℕ → Type 0
Printing code = 0x20 ≤ code

-- the others
abbrev pub ControlCode : ℕ → Type 0
ControlCode code = code < 0x20

unfoldable pub in_range : ℕ → ℕ → ℕ → Bool
in_range low high code = leb low code && leb code high

-- $20-$3F and $60-$7F: 'gain 128' in normal mode, 'are stored unchanged' in inverse mode
unfoldable pub stored_symbol : Mode → ℕ → ℕ
stored_symbol Normal code = code + 128
stored_symbol Inverse code = code
stored_symbol MouseText code = code

-- $40-$5F: 'become $80-$9F' in normal mode; in inverse mode 'become $00-$1F, or stay $40-$5F while MouseText is on'
unfoldable pub stored_capital : Mode → ℕ → ℕ
stored_capital Normal code = code + 64
stored_capital Inverse code = code - 64
stored_capital MouseText code = code

-- request 03: 'in inverse mode, $80 to $FF stored unchanged, with MouseText on or off. In normal mode they still lose 128'
unfoldable pub stored_high : Mode → ℕ → ℕ
stored_high Normal code = code - 128
stored_high Inverse code = code
stored_high MouseText code = code

-- the rule; 'entries below $20 hold $A0 and are never stored'
unfoldable pub stored_byte : Mode → ℕ → ℕ
stored_byte mode code =
    cond (in_range 0x20 0x3f code || in_range 0x60 0x7f code) (stored_symbol mode code)
    (cond (in_range 0x40 0x5f code) (stored_capital mode code)
    (cond (in_range 0x80 0xff code) (stored_high mode code) 0xa0))

-- 'three modes (normal, inverse, inverse with MouseText) by 256 codes': a mode's row
unfoldable pub row_of : Mode → ℕ
row_of Normal = 0
row_of Inverse = 1
row_of MouseText = 2

-- 'table and rule agree at every entry'
pub record Agrees (table : List ℕ) : Type 0 where
  pub entry : (mode : Mode) (code : ℕ) → code < 256 → get_or table (256 * row_of mode + code) 0 ≡ stored_byte mode code

-- .. of which this is a mode's row
pub record IsRow (mode : Mode) (row : List ℕ) : Type 0 where
  pub size : length row ≡ 256
  pub entry : (code : ℕ) → code < 256 → get_or row code 0 ≡ stored_byte mode code
