-- When a plain call is refused, and that a refused one changes nothing. Assumes nothing.
use Prim.Native.Nat.{ℕ}
use mathlib.Core.Path.{◌≡◌, refl, ap, ◌∙◌}
use mathlib.Core.Bool.{Bool, true, false, cond}
use mathlib.Core.List.{List, []}
use lib.Dec.{ltb}
use lib.ListN.{length}
use Rattle.std.specs.Prelude.{Ok, Err}
use Rattle.laws.proofs.Tests.{fails}
use Rattle.block.specs.Block.{block_length, block_fits}
use Rattle.port.specs.declared.Port.{Port}
use Rattle.port.specs.Valid.{ValidPort}
use Rattle.port.proofs.Validity.{decides_valid}
use Rattle.reply.specs.declared.Status.{Status}
use Rattle.reply.specs.declared.Status.TheVariants.{Done, ScreenLength, Invalid, BlockTooShort, BlockMismatch}
use Rattle.reply.specs.Reply.{Reply, refusal, refusal_with}
use Rattle.reply.specs.Laws.{ChangesNothing}
use Rattle.calls.specs.Verdict.{first_of}
use Rattle.calls.specs.Calls.{PortReply, PortCall, written, block_returned, block_restored}
use Rattle.calls.specs.Taking.{Taken, none_taken, marks_taken}
use Rattle.calls.proofs.Verdicts.{on_screen, off_screen, on_accepted, on_refused, by_verdict}
use Rattle.calls.proofs.Refusals.{Unchanged, written_refuses, returned_refuses, restored_refuses, taken_refuses}
use Rattle.console.specs.Calls.{port_verdict, plain_verdict, plain_call, write_call, return_call, restore_call, take_call}

-- 1 where there are not 1,920 cells, then 2 where the port is not valid, and else none
module _ (p : Port) (s : List ℕ) where
  pub verdict_good : ValidPort p → length s ≡ 1920 → plain_verdict p (length s) ≡ Ok tt
  unfolding plain_verdict first_of port_verdict
  verdict_good v len = rw (on_screen (length s) len, (decides_valid p).passes v)

  verdict_length : (length s ≡ 1920 → ⊥) → plain_verdict p (length s) ≡ Err ScreenLength
  unfolding plain_verdict first_of
  verdict_length no_screen = rw (off_screen (length s) no_screen)

  verdict_port : length s ≡ 1920 → (ValidPort p → ⊥) → plain_verdict p (length s) ≡ Err Invalid
  unfolding plain_verdict first_of port_verdict
  verdict_port len bad = rw (on_screen (length s) len, fails (decides_valid p) bad)

module _ (call : PortCall) (p : Port) (s block : List ℕ) where
  pub accepted : ValidPort p → length s ≡ 1920 → plain_call call p s block ≡ call p s block
  accepted v len = on_accepted 0 p s block (call p s block) (verdict_good p s v len)

  pub refused_length : (length s ≡ 1920 → ⊥) → plain_call call p s block ≡ refusal ScreenLength p s block
  refused_length no_screen = on_refused 0 p s block (call p s block) ScreenLength (verdict_length p s no_screen)

  pub refused_port : length s ≡ 1920 → (ValidPort p → ⊥) → plain_call call p s block ≡ refusal Invalid p s block
  refused_port len bad = on_refused 0 p s block (call p s block) Invalid (verdict_port p s len bad)

status_of : (t : Bool) (a b : PortReply) → (cond t a b).status ≡ cond t a.status b.status
status_of true a b = refl
status_of false a b = refl

-- on a valid port and 1,920 cells: 0, but for 9 and 10 by their rules
module _ (p : Port) (s block : List ℕ) (v : ValidPort p) (len : length s ≡ 1920) where
  pub write_answers : (write_call p s block).status ≡ Done
  unfolding written
  write_answers = ap (λ (r : PortReply). r.status) (accepted written p s block v len)

  pub return_answers : (return_call p s block).status ≡ cond (ltb (length block) (block_length p.view.viewport)) BlockTooShort Done
  unfolding block_returned
  return_answers = ap (λ (r : PortReply). r.status) (accepted block_returned p s block v len) ∙ status_of (ltb (length block) (block_length p.view.viewport)) _ _

  pub restore_answers : (restore_call p s block).status ≡ cond (block_fits p.view.viewport block) Done BlockMismatch
  unfolding block_restored
  restore_answers = ap (λ (r : PortReply). r.status) (accepted block_restored p s block v len) ∙ status_of (block_fits p.view.viewport block) _ _

-- a taking of a valid port's marks is done
pub take_answers : (p : Port) → ValidPort p → (take_call p).status ≡ Done
unfolding port_verdict marks_taken
take_answers p v = ap (λ (r : Reply Status Port Taken). r.status) (on_accepted none_taken p [] [] (marks_taken p [] []) (rw ((decides_valid p).passes v) refl))

-- .. and of one that is not valid it is refused with 2
pub take_invalid : (p : Port) → (ValidPort p → ⊥) → take_call p ≡ refusal_with none_taken Invalid p [] []
unfolding port_verdict
take_invalid p bad = on_refused none_taken p [] [] (marks_taken p [] []) Invalid (rw (fails (decides_valid p) bad) refl)

-- a refused one hands no marks out, counts 0 and changes nothing
pub take_refuses : (p : Port) → ChangesNothing Done none_taken p [] [] (take_call p)
take_refuses p = by_verdict none_taken p [] [] (marks_taken p [] []) (ChangesNothing Done none_taken p [] []) (port_verdict p) (λ status _ e. refl) (λ _. taken_refuses p [] [])

-- a refused call changes nothing and counts 0
module _ (p : Port) (s block : List ℕ) where
  verdict_refuses : (call : PortCall) → Unchanged p s block (call p s block) → Unchanged p s block (plain_call call p s block)
  verdict_refuses call h = by_verdict 0 p s block (call p s block) (Unchanged p s block) (plain_verdict p (length s)) (λ status _ e. refl) (λ _. h)

  pub write_refuses : Unchanged p s block (write_call p s block)
  write_refuses = verdict_refuses written (written_refuses p s block)

  pub return_refuses : Unchanged p s block (return_call p s block)
  return_refuses = verdict_refuses block_returned (returned_refuses p s block)

  pub restore_refuses : Unchanged p s block (restore_call p s block)
  restore_refuses = verdict_refuses block_restored (restored_refuses p s block)
