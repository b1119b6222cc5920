-- A stream: each byte in its order, with the port that the one before left. Assumes nothing.
use Rattle.std.specs.Prelude.{ℕ, ◌+◌, List, [], ◌∷◌, ◌++◌}
use Rattle.port.specs.declared.Port.{Port}
use Rattle.port.specs.Step.{Outcome, becomes_port, step}

-- one outcome after another: the edits in their order, the bells added up
abbrev pub followed_by : Outcome → Outcome → Outcome
followed_by m n = record { port = n.port; edits = m.edits ++ n.edits; bells = m.bells + n.bells }

unfoldable pub stream : Port → List ℕ → Outcome
stream p [] = becomes_port p
stream p (b ∷ bs) =
    let first : Outcome = step p b in
    followed_by first (stream first.port bs)
