-- Where nothing waits, a code from $20 on is printed, and one below is a control code. Assumes nothing.
use Prim.Native.Nat.{ℕ}
use mathlib.Core.Path.{◌≡◌, ap, ◌∙◌}
use mathlib.Core.Bool.{cond}
use lib.Dec.{ltb}
use borrow.Author.Tests.{le-leb, lt-leb}
use Rattle.charset.specs.Stored.{Printing, ControlCode}
use Rattle.port.specs.declared.Port.{Port}
use Rattle.port.specs.Valid.{parameters}
use Rattle.port.specs.Codes.{print}
use Rattle.port.specs.Step.{on_view, control, obey, parameter, step}

-- where nothing waits, a byte is a code
step_obeys : (p : Port) (b : ℕ) → p.waiting ≡ 0 → step p b ≡ obey p b
unfolding step parameters
step_obeys p b none = ap (λ (code : ℕ). cond (ltb 0 (parameters code)) (parameter p b) (obey p b)) none

pub step_prints : (p : Port) (b : ℕ) → p.waiting ≡ 0 → Printing b → step p b ≡ on_view p (print p.view b)
unfolding obey
step_prints p b none large = step_obeys p b none ∙ simp (le-leb 32 b large)

pub step_controls : (p : Port) (b : ℕ) → p.waiting ≡ 0 → ControlCode b → step p b ≡ control p b
unfolding obey
step_controls p b none small = step_obeys p b none ∙ simp (lt-leb 32 b small)
