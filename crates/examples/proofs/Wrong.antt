-- No write that meets the promise is one of paper 01's wrong consoles. Assumes nothing.
use Prim.Native.Nat.{ℕ}
use mathlib.Core.Path.{◌≡◌, refl, sym, ap, ◌∙◌}
use mathlib.Core.Logic.{⊎_elim}
use mathlib.Core.List.{List, [], ◌∷◌}
use native.Mathlib.Omega.{arith}
use lib.ListN.{length, get_or}
use Rattle.laws.proofs.Tests.{decides_eq, either}
use Rattle.rectangle.specs.Edit.{draw}
use Rattle.screen.specs.Size.{blank_screen}
use Rattle.screen.proofs.Sizes.{blank_size, blank_at}
use Rattle.port.specs.declared.Port.{Port}
use Rattle.port.specs.State.{zero_view}
use Rattle.port.specs.Stream.{stream}
use Rattle.port.proofs.Validity.{decides_valid}
use Rattle.reply.specs.declared.Status.TheVariants.{Done}
use Rattle.reply.specs.Reply.{refusal}
use Rattle.calls.specs.Calls.{PortReply, PortCall, written}
use Rattle.console.specs.Calls.{fresh_console, write_call}
use Rattle.console.proofs.Answers.{accepted, refused_length, refused_port, write_answers}
use Rattle.console.proofs.Cut.{write_bells}
use Rattle.examples.specs.Table.{P1}
use Rattle.examples.specs.Wrong.{Meets, on_fresh, RefusesEverything, AnswersBlank, DoesNothing, ObeysTheFirst, InventsBells}
use Rattle.examples.proofs.Computed.{fresh}
use Rattle.examples.proofs.Claim.{examples_hold}

-- the cell at (0,0)
abbrev corner : List ℕ → ℕ
corner s = get_or s 0 0

blank_corner : corner blank_screen ≡ 0xa0
blank_corner = blank_at 0 (omega arith)

-- an example with no scene is a write to a fresh console: an empty write leaves it as it is
abbrev again : List ℕ → PortReply
again bytes = write_call (on_fresh write_call []).state (on_fresh write_call []).screen bytes

empty_write : on_fresh write_call [] ≡ refusal Done fresh_console blank_screen []
unfolding written stream draw
empty_write = accepted written fresh_console blank_screen [] fresh blank_size

same_again : (bytes : List ℕ) → on_fresh write_call bytes ≡ again bytes
same_again bytes = ap (λ (r : PortReply). write_call r.state r.screen bytes) (sym empty_write)

-- the promise can be met
pub write_meets : Meets write_call
write_meets p s bytes = record { status_is = refl; state_is = refl; result_is = refl; cells = refl; bytes = refl }

module _ (f : PortCall) (meets : Meets f) where
  drawn : (bytes : List ℕ) → (on_fresh f bytes).screen ≡ (again bytes).screen
  drawn bytes = (meets fresh_console blank_screen bytes).cells ∙ ap (λ (r : PortReply). r.screen) (same_again bytes)

  left : (bytes : List ℕ) → (on_fresh f bytes).state ≡ (again bytes).state
  left bytes = (meets fresh_console blank_screen bytes).state_is ∙ ap (λ (r : PortReply). r.state) (same_again bytes)

  pub not_refuses_everything : RefusesEverything f → ⊥
  not_refuses_everything refuses = refuses [] ((meets fresh_console blank_screen []).status_is ∙ write_answers fresh_console blank_screen [] fresh blank_size)

  -- P1 has $81 at (0,0)
  pub not_answers_blank : AnswersBlank f → ⊥
  not_answers_blank blank =
      let same = sym (examples_hold.0.cells 0 (omega arith)) ∙ ap corner (sym (drawn P1.bytes) ∙ blank P1.bytes) ∙ blank_corner in
      omega arith

  -- P1 has the cursor in column 1
  pub not_does_nothing : DoesNothing f → ⊥
  unfolding zero_view
  not_does_nothing stays =
      let same = sym examples_hold.0.column ∙ ap (λ (p : Port). p.view.column) (sym (left P1.bytes) ∙ stays P1.bytes) in
      omega arith

  -- P2 and P3 begin with one byte, and have $01 and $41 at (0,0)
  pub not_obeys_the_first : ObeysTheFirst f → ⊥
  not_obeys_the_first ignores =
      let first : (bs : List ℕ) → (again (0x0f ∷ bs)).screen ≡ (on_fresh f (0x0f ∷ [])).screen = λ bs. sym (drawn (0x0f ∷ bs)) ∙ ignores 0x0f bs in
      let same = sym (examples_hold.1.0.cells 0 (omega arith)) ∙ ap corner (first (0x41 ∷ []) ∙ sym (first (0x1b ∷ 0x41 ∷ []))) ∙ examples_hold.1.1.0.cells 0 (omega arith) in
      omega arith

  -- refused or not: a refused write counts 0
  pub not_invents_bells : InventsBells f → ⊥
  not_invents_bells x =
      let record { port = p; cells = s; bytes = bytes; more = more } = x in
      let count = (meets p s bytes).result_is in
      ⊎_elim
      (λ len. ⊎_elim
      (λ v. let is = write_bells p s bytes v len in omega arith)
      (λ bad. let is = ap (λ (r : PortReply). r.result) (refused_port written p s bytes len bad) in omega arith)
      (either (decides_valid p)))
      (λ no_screen. let is = ap (λ (r : PortReply). r.result) (refused_length written p s bytes no_screen) in omega arith)
      (either (decides_eq (length s) 1920))
