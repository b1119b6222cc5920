-- A plain console: a screen drawn anew by its marks is the screen; what each call marks, and what a taking hands out. Assumes nothing.
use Prim.Native.Nat.{ℕ, ◌≤◌}
use mathlib.Core.Path.{◌≡◌, refl, ◌∙◌}
use mathlib.Core.Bool.{true, false}
use mathlib.Core.Logic.{◌⊎◌, inl, inr, ⊎_elim}
use mathlib.Core.List.{List, [], ◌∷◌}
use native.Mathlib.Omega.{arith}
use lib.Dec.{ltb}
use lib.ListN.{length}
use Rattle.std.proofs.lemmas.Bool.{cases_Bool}
use Rattle.laws.proofs.Tests.{either, by_test}
use Rattle.laws.specs.Bits.{bit, count_below}
use Rattle.laws.proofs.Bits.{bit_none}
use Rattle.rectangle.specs.Cells.{line_of}
use Rattle.screen.proofs.Sizes.{decides_screen}
use Rattle.port.specs.declared.Port.{Port}
use Rattle.port.specs.Valid.{valid_port, ValidPort}
use Rattle.port.proofs.Validity.{decides_valid}
use Rattle.block.specs.Block.{block_length}
use Rattle.marks.specs.Marks.{is_marked, line_count}
use Rattle.marks.proofs.Marking.{marked_in_lem}
use Rattle.port.proofs.Streams.{stream_marks}
use Rattle.reply.specs.declared.Status.{Status}
use Rattle.reply.specs.declared.Status.TheVariants.{Invalid}
use Rattle.reply.specs.Reply.{Reply}
use Rattle.calls.specs.Calls.{PortReply, PortCall, written, block_returned, block_restored}
use Rattle.calls.specs.Verdict.{on_verdict}
use Rattle.calls.specs.Taking.{Taken, none_taken, marks_taken}
use Rattle.calls.proofs.Verdicts.{accepted_by, by_verdict}
use Rattle.console.specs.Calls.{port_verdict, plain_call, take_call}
use Rattle.console.proofs.Answers.{accepted, refused_length, refused_port}
use Rattle.redraw.specs.Redraw.{PlainCall, plain_reply, plain_all, PlainTracked, PlainRedraw}
use Rattle.redraw.specs.Redraw.PlainCall.{Write, Return, Restore}
use Rattle.redraw.specs.Marks.{PlainMarks, CountsLines, PlainTaken}
use Rattle.redraw.proofs.Tracks.{Grows, unchanged, grows_write, grows_return, grows_restore, redraws}

-- a plain call, refused or not
plain_grows : (call : PortCall) (p : Port) (s block : List ℕ) → (ValidPort p → length s ≡ 1920 → Grows p s (call p s block)) → Grows p s (plain_call call p s block)
plain_grows call p s block made =
    ⊎_elim
    (λ l. ⊎_elim (λ v. rw (accepted call p s block v l) (made v l)) (λ bad. rw (refused_port call p s block l bad) (unchanged p s _ refl refl)) (either (decides_valid p)))
    (λ no_screen. rw (refused_length call p s block no_screen) (unchanged p s _ refl refl))
    (either (decides_screen (length s)))

call_grows : (p : Port) (s : List ℕ) (c : PlainCall) → Grows p s (plain_reply p s c)
call_grows p s (Write bytes) = plain_grows written p s bytes (λ v l. grows_write p v s l bytes)
call_grows p s (Return block) = plain_grows block_returned p s block (λ v l. grows_return p v s l block)
call_grows p s (Restore block) = plain_grows block_restored p s block (λ v l. grows_restore p v s l block)

still_long : (p : Port) (s : List ℕ) (cs : List PlainCall) → length (plain_all p s cs).screen ≡ length s
unfolding plain_all
still_long p s [] = refl
still_long p s (c ∷ cs) = still_long (plain_reply p s c).state (plain_reply p s c).screen cs ∙ (call_grows p s c).len

tracked : (p : Port) (s : List ℕ) (cs : List PlainCall) → PlainTracked p s cs
unfolding plain_all
tracked p s [] = record { cells = λ k. inl refl; grows = λ line is. is }
tracked p s (c ∷ cs) =
    let g = call_grows p s c in
    let rest = tracked (plain_reply p s c).state (plain_reply p s c).screen cs in
    record {
      cells = λ k. ⊎_elim (λ e. ⊎_elim (λ d. inl (e ∙ d)) (λ is. inr (rest.grows (line_of k) is)) (g.cells k)) inr (rest.cells k);
      grows = λ line is. rest.grows line (g.marks line is);
    }

-- no premise: refused or not
pub plain_redraw : (p : Port) (s : List ℕ) (cs : List PlainCall) → PlainRedraw p s cs
plain_redraw p s cs =
    record { tracked = tracked p s cs; shown = λ l. redraws (is_marked (plain_all p s cs).port.marks) s (plain_all p s cs).screen (still_long p s cs ∙ l) (tracked p s cs).cells }

-- ---- what each call marks
pub plain_marks : (p : Port) (s block : List ℕ) (line : ℕ) → ValidPort p → length s ≡ 1920 → PlainMarks p s block line
unfolding written block_returned block_restored
plain_marks p s block line v l = record {
  write = rw (accepted written p s block v l) (stream_marks p v block line);
  return = rw (accepted block_returned p s block v l) (by_test (λ (r : PortReply). r.state.marks ≡ p.marks) (ltb (length block) (block_length p.view.viewport)) (λ _. refl) (λ _. refl));
  restore = λ fits. rw (accepted block_restored p s block v l, fits) (marked_in_lem p.marks p.view.viewport line);
  no_restore = λ off. rw (accepted block_restored p s block v l, off) refl;
}

pub plain_taken : (p : Port) → ValidPort p → PlainTaken p
unfolding port_verdict on_verdict marks_taken
plain_taken p v = record { marks = rw ((decides_valid p).passes v) refl; port = rw ((decides_valid p).passes v) refl }

-- ---- what a taking counts
pub none_counted : CountsLines none_taken
unfolding count_below bit
none_counted = record { count = refl; above = λ line far. bit_none line }

pub taken_counted : (p : Port) → ValidPort p → (s block : List ℕ) → CountsLines (marks_taken p s block).result
unfolding marks_taken line_count
taken_counted p v s block = record { count = refl; above = λ line far. beyond line far (cases_Bool (is_marked p.marks line)) }
  where
    beyond : (line : ℕ) → 24 ≤ line → (is_marked p.marks line ≡ true) ⊎ (is_marked p.marks line ≡ false) → is_marked p.marks line ≡ false
    beyond line far (inl is) = let last = (v.marks line is).1 in let home = v.home.bottom_in in absurd (omega arith)
    beyond line far (inr off) = off

pub plain_counts : (p : Port) → CountsLines (take_call p).result
unfolding port_verdict
plain_counts p =
    by_verdict none_taken p [] [] (marks_taken p [] []) (λ (r : Reply Status Port Taken). CountsLines r.result) (port_verdict p) (λ status _. none_counted)
    (λ e. taken_counted p ((decides_valid p).holds (accepted_by (valid_port p) Invalid e)) [] [])
