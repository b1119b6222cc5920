-- What is said of a script: the bytes that a call lends, the length of its answer, and what is left of the script after it. Assumes nothing.
use Rattle.std.specs.Prelude.{ℕ, ◌≡◌, ◌+◌, ◌-◌, ◌≤◌, List, [], length, drop}
use Rattle.boundary.specs.declared.script.Request.{Request}
use Rattle.boundary.specs.declared.script.Request.TheVariants as request

-- a block return's block: the bytes that a call may change
abbrev pub lent_of : Request → List ℕ
lent_of (request.ReturnBlock block) = block.now
lent_of _ = []

-- the status, the count and the marks that the call returned, a returned block, the marks of the four slots, and every byte of the lent screen
abbrev pub answer_length : Request → ℕ → ℕ
answer_length call cells = 25 + length (lent_of call) + cells

-- what is left of a script where some bytes, or none, are taken off its front
pub record IsTail (script rest : List ℕ) : Type 0 where
  pub within : length rest ≤ length script
  pub tail : rest ≡ drop (length script - length rest) script
