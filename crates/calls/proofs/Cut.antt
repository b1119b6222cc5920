-- A write of a and then of b is a write of a and b together; and its count is the number of $07 among its command codes. Assumes nothing.
use Prim.Native.Nat.{ℕ}
use mathlib.Core.Path.{◌≡◌, refl, sym, ap}
use mathlib.Core.List.{List, ◌++◌}
use Rattle.port.specs.declared.Port.{Port}
use Rattle.port.specs.Step.{Outcome}
use Rattle.port.specs.Commands.{command_codes, occurrences, wait_of}
use Rattle.port.proofs.Streams.{stream_cut, cells_cut}
use Rattle.port.proofs.Outcomes.{stream_bells}
use Rattle.reply.specs.Laws.{SameCut}
use Rattle.calls.specs.Calls.{written}

pub written_cut : (p : Port) (s a b : List ℕ) → SameCut (written p s a) (written (written p s a).state (written p s a).screen b) (written p s (a ++ b))
unfolding written
written_cut p s a b = record {
  first_status = refl;
  second_status = refl;
  state = sym (ap (λ (m : Outcome). m.port) (stream_cut p a b));
  screen = sym (cells_cut p a b s);
  count = sym (ap (λ (m : Outcome). m.bells) (stream_cut p a b));
}

pub written_bells : (p : Port) (s bytes : List ℕ) → (written p s bytes).result ≡ occurrences 7 (command_codes (wait_of p) bytes)
unfolding written
written_bells p s bytes = stream_bells p bytes
