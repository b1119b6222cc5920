-- A call that is refused with 9 or 10 changes nothing and counts 0; a taking below its judging is never refused. Assumes nothing.
use Prim.Native.Nat.{ℕ}
use mathlib.Core.Path.{refl}
use mathlib.Core.List.{List}
use lib.Dec.{ltb}
use lib.ListN.{length}
use Rattle.laws.proofs.Tests.{by_test}
use Rattle.block.specs.Block.{block_length, block_fits}
use Rattle.port.specs.declared.Port.{Port}
use Rattle.reply.specs.declared.Status.{Status}
use Rattle.reply.specs.declared.Status.TheVariants.{Done}
use Rattle.reply.specs.Reply.{Reply}
use Rattle.reply.specs.Laws.{ChangesNothing}
use Rattle.calls.specs.Calls.{written, block_returned, block_restored}
use Rattle.calls.specs.Taking.{none_taken, marks_taken}

-- a refused call changes nothing and counts 0
abbrev pub Unchanged : {State : Type 0} → State → List ℕ → List ℕ → Reply Status State ℕ → Type 0
Unchanged state s block reply = ChangesNothing Done 0 state s block reply

module _ (p : Port) (s block : List ℕ) where
  pub written_refuses : Unchanged p s block (written p s block)
  unfolding written
  written_refuses e = absurd (e refl)

  pub returned_refuses : Unchanged p s block (block_returned p s block)
  unfolding block_returned
  returned_refuses = by_test (Unchanged p s block) (ltb (length block) (block_length p.view.viewport)) (λ _ e. refl) (λ _ e. absurd (e refl))

  pub restored_refuses : Unchanged p s block (block_restored p s block)
  unfolding block_restored
  restored_refuses = by_test (Unchanged p s block) (block_fits p.view.viewport block) (λ _ e. absurd (e refl)) (λ _ e. refl)

  pub taken_refuses : ChangesNothing Done none_taken p s block (marks_taken p s block)
  unfolding marks_taken
  taken_refuses e = absurd (e refl)
