-- What a parameter comes to as a number: forms that the code has. The rules are `port`'s. Assumes nothing.
use Rattle.std.specs.Prelude.{ℕ, ◌+◌, ◌-◌, min, cond, ltb}
use Rattle.port.specs.declared.View.{View}

-- the line or column that a parameter of $06 or $14 names: `line_placed` and `column_placed` tie it to `set_vertical` and `set_horizontal`
unfoldable pub offset_from : ℕ → ℕ → ℕ → ℕ → ℕ
offset_from low high own b = cond (ltb b 32) own (min (low + (b - 32)) high)

-- the spaces that $10 prints: `spaces_are` ties it to `dle_space_expansion`
unfoldable pub space_count : View → ℕ → ℕ
space_count v b = cond v.flags.dle (b - 32) 0
