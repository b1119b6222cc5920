-- What the multiplexer needs of the standalone console, and all that it needs: a call keeps the port valid and at its home, keeps the screen's length,
-- changes no cell outside home, and depends on no cell outside home. Assumes nothing.
use Prim.Native.Nat.{ℕ}
use native.Mathlib.Omega.{arith}
use mathlib.Core.Path.{◌≡◌, refl, ap}
use mathlib.Core.List.{List, [], ◌++◌}
use mathlib.Core.Logic.{⊎_elim}
use lib.Dec.{ltb}
use lib.ListN.{length, get_or, drop}
use Rattle.std.proofs.lemmas.Bool.{cases_Bool}
use Rattle.laws.proofs.Tests.{by_test}
use Rattle.rectangle.specs.declared.Rect.{Rect}
use Rattle.rectangle.specs.Cells.{Inside}
use Rattle.rectangle.specs.Local.{Agree, Local}
use Rattle.rectangle.proofs.Local.{within_inside}
use Rattle.block.specs.Block.{block_length, block_fits, restored}
use Rattle.block.proofs.Rows.{rows_agree}
use Rattle.block.proofs.Restores.{restored_local}
use Rattle.marks.specs.Marks.{no_marks, marked_in, WithinLines}
use Rattle.marks.proofs.Marking.{none_within, rect_within}
use Rattle.port.specs.declared.Port.{Port}
use Rattle.port.specs.Valid.{ValidPort}
use Rattle.port.proofs.Validity.{marks_valid}
use Rattle.port.proofs.Streams.{keeps_stream, stream_local}
use Rattle.calls.specs.Calls.{PortReply, written, block_returned, block_restored}
use Rattle.calls.specs.Taking.{marks_taken}
use Rattle.client_calls.specs.Serve.{CallReply, counted, Kind, call_on_port}
use Rattle.client_calls.specs.Serve.Kind.{Write, Return, Restore, Take}

pub record Keeps (p : Port) (s : List ℕ) (r : CallReply Port) : Type 0 where
  pub valid : ValidPort r.state
  pub home : r.state.home ≡ p.home
  pub len : length r.screen ≡ 1920
  pub outside : (i : ℕ) → (Inside p.home i → ⊥) → get_or r.screen i 0 ≡ get_or s i 0

-- the same call on two screens that agree in a rectangle
pub record Alike (home : Rect) (a b : CallReply Port) : Type 0 where
  pub status : a.status ≡ b.status
  pub state : a.state ≡ b.state
  pub result : a.result ≡ b.result
  pub block : a.block ≡ b.block
  pub cells : Agree home a.screen b.screen

-- replies that differ in their cells at most
other_cells : (home : Rect) (r : CallReply Port) (t : List ℕ) → Agree home r.screen t → Alike home r (record { status = r.status; state = r.state; result = r.result; screen = t; block = r.block })
other_cells home r t agree = record { status = refl; state = refl; result = refl; block = refl; cells = agree }

module _ (p : Port) (v : ValidPort p) where
  -- a call that changes neither port nor screen
  idle : (s : List ℕ) (r : CallReply Port) → length s ≡ 1920 → r.state ≡ p → r.screen ≡ s → Keeps p s r
  idle s r l e c = record { valid = rw e v; home = rw e; len = rw c l; outside = λ i out. rw c }

  restore_local : (block : List ℕ) → Local p.home (restored p.view.viewport block)
  restore_local = restored_local p.view.viewport p.home v.view.within v.home.right_in v.home.bottom_in

  restore_marks : WithinLines (marked_in p.marks p.view.viewport) p.home
  restore_marks = let w = v.view.within in rect_within p.marks p.home p.view.viewport w.top_in w.bottom_in v.marks

  pub keeps_call : (kind : Kind) (s : List ℕ) → length s ≡ 1920 → Keeps p s (call_on_port kind p s)
  unfolding written block_returned block_restored marks_taken
  keeps_call (Write bytes) s l =
      let k = keeps_stream p v bytes in
      let f = stream_local p v bytes in
      record { valid = k.valid; home = k.home; len = f.len s l; outside = f.outside s l }
  keeps_call (Return block) s l =
      by_test (λ (r : PortReply). Keeps p s (counted r)) (ltb (length block) (block_length p.view.viewport)) (λ _. idle s _ l refl refl) (λ _. idle s _ l refl refl)
  keeps_call (Restore block) s l =
      by_test (λ (r : PortReply). Keeps p s (counted r)) (block_fits p.view.viewport block)
      (λ _. record { valid = marks_valid p v _ restore_marks; home = refl; len = (restore_local block).len s l; outside = (restore_local block).outside s l })
      (λ _. idle s _ l refl refl)
  keeps_call Take s l = record { valid = marks_valid p v no_marks (none_within p.home); home = refl; len = l; outside = λ i out. refl }

  pub alike_call : (kind : Kind) (s t : List ℕ) → length s ≡ 1920 → length t ≡ 1920 → Agree p.home s t → Alike p.home (call_on_port kind p s) (call_on_port kind p t)
  unfolding written block_returned block_restored marks_taken
  alike_call (Write bytes) s t l l' agree =
      other_cells p.home (counted (written p s bytes)) _ ((stream_local p v bytes).same s t l l' agree)
  alike_call (Return block) s t l l' agree =
      let same = rows_agree p.view.viewport s t (omega arith) l l' (λ i x. agree i (within_inside v.view.within x)) in
      ⊎_elim
      (λ e. rw e (other_cells p.home _ t agree))
      (λ e. rw e (record { status = refl; state = refl; result = refl; block = ap (λ x. x ++ drop (block_length p.view.viewport) block) same; cells = agree }))
      (cases_Bool (ltb (length block) (block_length p.view.viewport)))
  alike_call (Restore block) s t l l' agree =
      ⊎_elim
      (λ e. rw e (other_cells p.home _ _ ((restore_local block).same s t l l' agree)))
      (λ e. rw e (other_cells p.home _ t agree))
      (cases_Bool (block_fits p.view.viewport block))
  alike_call Take s t l l' agree = other_cells p.home (marks_taken p s []) t agree
