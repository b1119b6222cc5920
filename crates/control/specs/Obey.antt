-- What it is to obey a byte on the active part of a port. Assumes nothing.
use Rattle.std.specs.Prelude.{ℕ, ◌<◌, ◌≡◌, List}
use Rattle.rectangle.specs.declared.Rect.{Rect}
use Rattle.charset.specs.Stored.{ControlCode}
use Rattle.port.specs.declared.Port.{Port}
use Rattle.port.specs.Valid.{parameters}
use Rattle.port.specs.Step.{Outcome}
use Rattle.printer.specs.Execute.{Obeyed}
use Rattle.printer.specs.Print.{Placed}
use Rattle.control.specs.declared.active.Active.{Active}
use Rattle.control.specs.Active.{with_active}

-- what a byte asks of the active part: a code is no printing code and neither $01 nor $04, and a command that waits wants a parameter
pub record Ready (a : Active) (b : ℕ) : Type 0 where
  pub placed : Placed a.view
  pub few : a.count < 4
  pub code : a.waiting ≡ 0 → ControlCode b × (b ≡ 1 → ⊥) × (b ≡ 4 → ⊥)
  pub wanted : (a.waiting ≡ 0 → ⊥) → 0 < parameters a.waiting

-- what is done to a port was done to its active part, whatever its home and whatever is saved: those stay
abbrev pub Obeys : (Port → Outcome) → Active → Active → List ℕ → List ℕ → Type 0
Obeys does a r s t = (p : Port) → Obeyed (does (with_active p a)) (with_active p r) s t

-- the same of ports of one home
abbrev pub ObeysAt : Rect → (Port → Outcome) → Active → Active → List ℕ → List ℕ → Type 0
ObeysAt home does a r s t = (p : Port) → p.home ≡ home → Obeyed (does (with_active p a)) (with_active p r) s t
