-- Which bytes of a stream are taken as commands, from waiting and gathering alone: paper 01's 'the number of $07 taken as commands'. Assumes nothing.
use Rattle.std.specs.Prelude.{ℕ, ◌+◌, Bool, cond, List, [], ◌∷◌, ltb, eqb}
use Rattle.port.specs.declared.Port.{Port}
use Rattle.port.specs.Valid.{parameters}

-- what waits: a code, and how many of its parameters are gathered
pub record Wait : Type 0 where
  pub code : ℕ
  pub count : ℕ

-- a command waits that takes a parameter more
abbrev pub wants : Wait → Bool
wants w = ltb 0 (parameters w.code)

-- what waits after a byte
unfoldable pub next_wait : Wait → ℕ → Wait
next_wait w b =
    cond (wants w)
    (cond (ltb (w.count + 1) (parameters w.code)) (record { code = w.code; count = w.count + 1 }) (record { code = 0; count = 0 }))
    (cond (ltb 0 (parameters b)) (record { code = b; count = 0 }) w)

-- the bytes of a stream that are 'taken as commands': those that are no parameter. It knows nothing but what waits.
unfoldable pub command_codes : Wait → List ℕ → List ℕ
command_codes w [] = []
command_codes w (b ∷ bs) = cond (wants w) (command_codes (next_wait w b) bs) (b ∷ command_codes (next_wait w b) bs)

-- how often a number stands in a list
unfoldable pub occurrences : ℕ → List ℕ → ℕ
occurrences k [] = 0
occurrences k (x ∷ xs) = cond (eqb x k) 1 0 + occurrences k xs

abbrev pub wait_of : Port → Wait
wait_of p = record { code = p.waiting; count = p.count }
