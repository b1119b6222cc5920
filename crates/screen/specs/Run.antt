-- A run of printing codes that is stored in one line. Assumes nothing.
use Rattle.std.specs.Prelude.{ℕ, ◌+◌, ◌≤◌, ◌≡◌, List, [], ◌∷◌, length, take}
use Rattle.rectangle.specs.declared.Motion.TheVariants.{Clear}
use Rattle.rectangle.specs.Rectangles.{cell_at}
use Rattle.rectangle.specs.Edit.{edited}
use Rattle.charset.specs.declared.Mode.{Mode}
use Rattle.charset.specs.Stored.{Printing, stored_byte}

-- each of them is a printing code
abbrev pub AllPrinting : List ℕ → Type 0
AllPrinting [] = Unit {0}
AllPrinting (c ∷ cs) = Printing c × AllPrinting cs

-- codes stored one after another, each in the cell to the right of the one before
unfoldable pub stored_run : Mode → ℕ → ℕ → List ℕ → List ℕ → List ℕ
stored_run mode column line [] s = s
stored_run mode column line (c ∷ cs) s = stored_run mode (column + 1) line cs (edited (cell_at column line) Clear (stored_byte mode c) s)

-- the first n codes are printing codes, no more of them than there is room for, and t is s with them stored
pub record RunStored (mode : Mode) (column line room : ℕ) (codes : List ℕ) (n : ℕ) (s t : List ℕ) : Type 0 where
  pub fits : n ≤ room
  pub within : n ≤ length codes
  pub printing : AllPrinting (take n codes)
  pub cells : t ≡ stored_run mode column line (take n codes) s
