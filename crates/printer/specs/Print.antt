-- What it is to print codes one after another. Assumes nothing.
use Rattle.std.specs.Prelude.{ℕ, zero, suc, ◌≡◌, List}
use Rattle.marks.specs.Marks.{marked}
use Rattle.port.specs.declared.View.{View}
use Rattle.port.specs.declared.Port.{Port}
use Rattle.port.specs.State.{with_drawn}
use Rattle.port.specs.Stream.{stream}
use Rattle.port.specs.Valid.{ValidView}
use Rattle.printer.specs.Execute.{Executed}

-- all that drawing asks of a view: its viewport is legal, and the cursor lies in it
abbrev pub Placed : View → Type 0
Placed v = ValidView v.viewport v

-- codes were printed on a view and marks, which became w and after: what they do as a stream to any port that has these, where nothing waits
pub record Printed (v : View) (before : ℕ) (codes : List ℕ) (w : View) (after : ℕ) (s t : List ℕ) : Type 0 where
  pub as_stream : (p : Port) → p.view ≡ v → p.waiting ≡ 0 → p.marks ≡ before → Executed (stream p codes) (with_drawn p w after) 0 s t

-- a run of codes marks its line, unless it has none
abbrev pub run_marks : ℕ → ℕ → ℕ → ℕ
run_marks marks line zero = marks
run_marks marks line (suc n) = marked marks line line

-- a run of n codes was printed on a view, which became w, whatever is marked
pub record RunPrinted (v : View) (n : ℕ) (codes : List ℕ) (w : View) (s t : List ℕ) : Type 0 where
  pub as_stream : (p : Port) → p.view ≡ v → p.waiting ≡ 0 → Executed (stream p codes) (with_drawn p w (run_marks p.marks v.line n)) 0 s t
