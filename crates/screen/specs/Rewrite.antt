-- What a loop over neighbouring places leaves: the one record for every such loop, over cells or over a lent block. Assumes nothing.
use Rattle.std.specs.Prelude.{ℕ, ◌+◌, ◌-◌, ◌≤◌, ◌<◌, ◌≡◌, List, length, get_or}

-- t is s with f in the places from start up to end
pub record Rewritten (start end : ℕ) (f : ℕ → ℕ) (s t : List ℕ) : Type 0 where
  pub len : length t ≡ length s
  pub run : (i : ℕ) → start ≤ i → i < end → get_or t i 0 ≡ f i
  pub low : (i : ℕ) → i < start → get_or t i 0 ≡ get_or s i 0
  pub high : (i : ℕ) → end ≤ i → get_or t i 0 ≡ get_or s i 0

-- .. with byte in them
abbrev pub Filled : ℕ → ℕ → ℕ → List ℕ → List ℕ → Type 0
Filled start end byte s t = Rewritten start end (λ i. byte) s t

-- .. with what s held at another place
abbrev pub Relocated : ℕ → ℕ → (ℕ → ℕ) → List ℕ → List ℕ → Type 0
Relocated start end from s t = Rewritten start end (λ i. get_or s (from i) 0) s t

-- t is s with count bytes of source, those from place from on, from place at on
abbrev pub Copied : List ℕ → ℕ → ℕ → ℕ → List ℕ → List ℕ → Type 0
Copied source from at count s t = Rewritten at (at + count) (λ i. get_or source (i - at + from) 0) s t
