-- Request 02: 'taking them returns the marks and how many lines are marked .., and clears them'. Assumes nothing.
use Rattle.std.specs.Prelude.{ℕ, List}
use Rattle.marks.specs.Marks.{no_marks, line_count}
use Rattle.port.specs.declared.Port.{Port}
use Rattle.port.specs.State.{with_marks}
use Rattle.reply.specs.declared.Status.{Status}
use Rattle.reply.specs.declared.Status.TheVariants.{Done}
use Rattle.reply.specs.Reply.{Reply}

-- what a taking hands out
pub record Taken : Type 0 where
  pub marks : ℕ
  pub count : ℕ

abbrev pub taken_of : ℕ → ℕ → Taken
taken_of marks count = record { marks = marks; count = count }

-- 'refusals, with no marks and 0'
abbrev pub none_taken : Taken
none_taken = taken_of no_marks 0

-- a taking, on a valid port: it changes no cell and no lent byte
unfoldable pub marks_taken : Port → List ℕ → List ℕ → Reply Status Port Taken
marks_taken p s block = record { status = Done; state = with_marks p no_marks; result = taken_of p.marks (line_count p.marks); screen = s; block = block }
