-- A wrong console: one that spares equal bytes. It says as little of the write as makes it wrong. Assumes nothing.
use Rattle.std.specs.Prelude.{ℕ, ◌≡◌, List}
use Rattle.port.specs.declared.Port.{Port}
use Rattle.calls.specs.Calls.{PortCall}

-- against 'even if the byte was equal': a write that changes no cell marks no line
abbrev pub SparesEqualBytes : PortCall → Type 0
SparesEqualBytes f = (p : Port) (s bytes : List ℕ) → (f p s bytes).screen ≡ s → (f p s bytes).state.marks ≡ p.marks
