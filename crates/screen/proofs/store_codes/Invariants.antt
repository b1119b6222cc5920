-- The invariant of `screen::store_codes`: n codes are stored. Assumes nothing.
use mathlib.Core.Path.{◌≡◌}
use lib.ListN.{length}
use Rattle.charset.specs.declared.Mode.{Mode}
use Rattle.charset.specs.Stored.{IsRow}
use Rattle.screen.specs.Run.{RunStored}
use Rattle.screen.proofs.store_codes.Given as goal

abbrev pub invariant-loop-n : goal.invariant-loop-n
invariant-loop-n l = (length l.screen ≡ 1920) × ((mode : Mode) → IsRow mode l.row → RunStored mode l.column l.line (length l.codes) l.codes l.n l.initial.screen l.screen)
