-- A write of a and then of b is a write of a and b together, refused or not; and what a write counts. Assumes nothing.
use Prim.Native.Nat.{ℕ}
use mathlib.Core.Path.{◌≡◌, refl, ap, ◌∙◌}
use mathlib.Core.Logic.{⊎_elim}
use mathlib.Core.List.{List, ◌++◌}
use lib.ListN.{length}
use Rattle.laws.proofs.Tests.{either}
use Rattle.rectangle.specs.Edit.{draw}
use Rattle.screen.proofs.Sizes.{decides_screen}
use Rattle.port.specs.declared.Port.{Port}
use Rattle.port.specs.Valid.{ValidPort}
use Rattle.port.specs.Stream.{stream}
use Rattle.port.specs.Commands.{command_codes, occurrences, wait_of}
use Rattle.port.proofs.Validity.{decides_valid}
use Rattle.port.proofs.Streams.{keeps_stream, stream_local}
use Rattle.reply.specs.declared.Status.{Status}
use Rattle.reply.specs.declared.Status.TheVariants.{ScreenLength, Invalid}
use Rattle.reply.specs.Reply.{refusal}
use Rattle.reply.specs.Laws.{SameCut}
use Rattle.calls.specs.Calls.{PortReply, written}
use Rattle.calls.proofs.Cut.{written_cut, written_bells}
use Rattle.console.specs.Calls.{write_call}
use Rattle.console.proofs.Answers.{accepted, refused_length, refused_port}

module _ (p : Port) (s a b : List ℕ) where
  abbrev Cut : Type 0
  Cut = SameCut (write_call p s a) (write_call (write_call p s a).state (write_call p s a).screen b) (write_call p s (a ++ b))

  -- refused by the same rule each time
  both_refused : (status : Status) → ((bytes : List ℕ) → write_call p s bytes ≡ refusal status p s bytes) → Cut
  both_refused status no_write = simp no_write (record { first_status = refl; second_status = refl; state = refl; screen = refl; count = refl })

  both_accepted : ValidPort p → length s ≡ 1920 → Cut
  unfolding written
  both_accepted v len =
      let first = accepted written p s a v len in
      let again = ap (λ (r : PortReply). write_call r.state r.screen b) first ∙ accepted written (stream p a).port (draw (stream p a).edits s) b (keeps_stream p v a).valid ((stream_local p v a).len s len) in
      rw (again, first, accepted written p s (a ++ b) v len) (written_cut p s a b)

-- no premise: refused or not
pub write_cut : (p : Port) (s a b : List ℕ) → Cut p s a b
write_cut p s a b =
    ⊎_elim
    (λ len. ⊎_elim (λ v. both_accepted p s a b v len) (λ bad. both_refused p s a b Invalid (λ bytes. refused_port written p s bytes len bad)) (either (decides_valid p)))
    (λ no_screen. both_refused p s a b ScreenLength (λ bytes. refused_length written p s bytes no_screen))
    (either (decides_screen (length s)))

-- of any write that is not refused; a refused one counts 0
pub write_bells : (p : Port) (s bytes : List ℕ) → ValidPort p → length s ≡ 1920 → (write_call p s bytes).result ≡ occurrences 7 (command_codes (wait_of p) bytes)
write_bells p s bytes v len = ap (λ (r : PortReply). r.result) (accepted written p s bytes v len) ∙ written_bells p s bytes
