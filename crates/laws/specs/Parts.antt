-- A part of a lent slice: those bytes themselves, where they lie, and no copy of them. Assumes nothing.
use Rattle.std.specs.Prelude.{ℕ, ◌+◌, ◌≡◌, List, take, drop}
use Rattle.std.specs.Borrow.{Bor}

-- bytes that follow one another in a slice: the place of the first, and how many they are
pub record Stretch : Type 0 where
  pub start : ℕ
  pub count : ℕ

abbrev pub stretch : ℕ → ℕ → Stretch
stretch start count = record { start = start; count = count }

-- the start of a slice, and no byte of it
abbrev pub no_stretch : Stretch
no_stretch = stretch 0 0

abbrev pub bytes_of : Stretch → List ℕ → List ℕ
bytes_of x s = take x.count (drop x.start s)

-- part is that stretch of the lent slice itself. A reference points to an allocation, and a byte in it.
pub record IsPart (lent part : Bor (List ℕ)) (x : Stretch) : Type 0 where
  pub allocation : part.ref_ptr.0 ≡ lent.ref_ptr.0
  pub place : part.ref_ptr.1 ≡ x.start + lent.ref_ptr.1
  pub bytes : part.now ≡ bytes_of x lent.now
