-- Codes that are printed, as a stream of them. Assumes nothing.
use Prim.Native.Nat.{ℕ, zero, suc, ◌+◌, ◌-◌, ◌≤◌, ◌<◌}
use mathlib.Core.Path.{◌≡◌, refl, sym, ap, ◌∙◌, subst}
use mathlib.Core.Bool.{true}
use mathlib.Core.List.{List, [], ◌∷◌, ◌++◌, append-nil}
use native.Mathlib.Omega.{arith}
use native.Mathlib.Nat.{add-zero}
use lib.ListN.{length, get_or, take}
use borrow.Author.Tests.{lt-ltb}
use Rattle.laws.proofs.Lists.{alone_taken, taken_length}
use Rattle.rectangle.specs.declared.Edit.{Edit}
use Rattle.rectangle.specs.declared.Motion.TheVariants.{Clear}
use Rattle.rectangle.specs.Rectangles.{cell_at}
use Rattle.rectangle.specs.Edit.{edited, draw}
use Rattle.rectangle.proofs.Local.{draw_append}
use Rattle.charset.specs.declared.Mode.{Mode}
use Rattle.charset.specs.Stored.{Printing, stored_byte}
use Rattle.screen.specs.Run.{AllPrinting, stored_run, RunStored}
use Rattle.marks.specs.Marks.{marked, marked_by}
use Rattle.marks.proofs.Marking.{marked_again}
use Rattle.port.specs.declared.View.{View}
use Rattle.port.specs.declared.Port.{Port}
use Rattle.port.specs.State.{zero_port, with_view, with_drawn, cursor_at}
use Rattle.port.specs.Effect.{Effect, becomes}
use Rattle.port.specs.Codes.{mode_of, store_cell, advance, move_cursor_right, print_byte, print}
use Rattle.port.specs.Step.{Outcome, on_view, step}
use Rattle.port.specs.Stream.{stream}
use Rattle.port.proofs.Streams.{stream_cut}
use Rattle.port.proofs.Prints.{step_prints}
use Rattle.port.proofs.Views.{keeps_print_byte}
use Rattle.printer.specs.Execute.{AllOnScreen, Drew, Executed}
use Rattle.printer.specs.Print.{Placed, Printed, run_marks, RunPrinted}
use Rattle.printer.proofs.Draws.{on_screen}

-- a stream in two parts
pub cut_executed : (p q r : Port) (a b : List ℕ) (k n : ℕ) (s s₁ t : List ℕ) → Executed (stream p a) q k s s₁ → Executed (stream q b) r n s₁ t → Executed (stream p (a ++ b)) r (k + n) s t
cut_executed p q r a b k n s s₁ t d e =
    let next : Port = (stream p a).port in
    subst (λ (m : Outcome). Executed m r (k + n) s t) (sym (stream_cut p a b)) (record {
      port_is = e.port_is ∙ ap (λ (x : Port). (stream x b).port) d.port_is;
      bells_are = (λ i. d.bells_are i + e.bells_are i) ∙ ap (λ (x : Port). (stream p a).bells + (stream x b).bells) d.port_is;
      cells =
          e.cells ∙ ap (λ (x : Port). draw (stream x b).edits s₁) d.port_is ∙ ap (draw (stream next b).edits) d.cells
          ∙ sym (draw_append (stream p a).edits (stream next b).edits s);
    })

pub nothing_executed : (p : Port) (s : List ℕ) → Executed (stream p []) p 0 s s
unfolding stream draw
nothing_executed p s = record { port_is = refl; bells_are = refl; cells = refl }

-- a stream of one byte
pub single_executed : (p q : Port) (b n : ℕ) (s t : List ℕ) → Executed (step p b) q n s t → Executed (stream p (b ∷ [])) q n s t
unfolding stream
single_executed p q b n s t d = record {
  port_is = d.port_is;
  bells_are = d.bells_are ∙ sym (add-zero (step p b).bells);
  cells = d.cells ∙ ap (λ (es : List Edit). draw es s) (sym (append-nil (step p b).edits));
}

-- printing on a view that is placed edits on the screen only
pub byte_on_screen : (v : View) (byte : ℕ) → Placed v → AllOnScreen (print_byte v byte).edits
byte_on_screen v byte h = on_screen v.viewport h.legal.right_in h.legal.bottom_in (print_byte v byte).edits (keeps_print_byte v.viewport v h byte).edits

-- the cursor's line is a line of the screen
pub line_on_screen : (v : View) → Placed v → v.line ≤ 23
line_on_screen v h = let l = h.legal in let k = h.to_bottom in omega arith

-- a printing code, where nothing waits
pub code_executed : (p : Port) (code byte : ℕ) → p.waiting ≡ 0 → Printing code → byte ≡ stored_byte (mode_of p.view) code → (w : View) (after : ℕ) (s t : List ℕ) → Drew (print_byte p.view byte) p.marks w after s t
    → Executed (step p code) (with_drawn p w after) 0 s t
unfolding print
code_executed p code byte none large is w after s t d =
    let prints : step p code ≡ on_view p (print_byte p.view byte) = step_prints p code none large ∙ ap (λ (x : ℕ). on_view p (print_byte p.view x)) (sym is) in
    subst (λ (m : Outcome). Executed m (with_drawn p w after) 0 s t) (sym prints) (record { port_is = λ i. with_drawn p (d.view i) (d.marks i); bells_are = refl; cells = d.cells })

-- where no code was printed the cells are as they were
none_drawn : (v w : View) (codes : List ℕ) (n : ℕ) (s t : List ℕ) → n ≤ 0 → RunPrinted v n (take n codes) w s t → t ≡ s
unfolding stream draw
none_drawn v w codes n s t few printed =
    let nothing : n ≡ 0 = omega arith in
    subst (λ (k : ℕ). t ≡ draw (stream (with_view zero_port v) (take k codes)).edits s) nothing (printed.as_stream (with_view zero_port v) refl refl).cells

-- one code alone, where there is no run
pub one_printed : (v u : View) (before : ℕ) (w : View) (after : ℕ) (codes : List ℕ) (n byte : ℕ) (s s₁ t : List ℕ) → n ≤ 0 → RunPrinted v n (take n codes) u s s₁ → 0 < length codes → Printing (get_or codes 0 0)
    → byte ≡ stored_byte (mode_of v) (get_or codes 0 0)
    → Drew (print_byte v byte) before w after s₁ t
    → Printed v before (take 1 codes) w after s t
one_printed v u before w after codes n byte s s₁ t few run some large is d = record {
  as_stream = λ p same none at.
      let code : ℕ = get_or codes 0 0 in
      let drew = subst (λ (x : List ℕ). Drew (print_byte v byte) before w after x t) (none_drawn v u codes n s s₁ few run) d in
      subst (λ (cs : List ℕ). Executed (stream p cs) (with_drawn p w after) 0 s t) (sym (alone_taken codes 0 some))
      (single_executed p (with_drawn p w after) code 0 s t
      (code_executed p code byte none large (is ∙ ap (λ (x : View). stored_byte (mode_of x) code) (sym same)) w after s t
      (subst (λ (x : View). Drew (print_byte x byte) p.marks w after s t) (sym same) (subst (λ (x : ℕ). Drew (print_byte v byte) x w after s t) (sym at) drew))));
}

-- left of the right edge the cursor goes one to the right
advances : (v : View) → v.flags.advance ≡ true → v.column < v.viewport.right → advance v ≡ becomes (cursor_at v (v.column + 1) v.line)
unfolding advance move_cursor_right
advances v on less = simp (on, lt-ltb v.column v.viewport.right less)

prints_left : (v : View) (byte marks : ℕ) (s : List ℕ) → v.flags.advance ≡ true → v.column < v.viewport.right
    → Drew (print_byte v byte) marks (cursor_at v (v.column + 1) v.line) (marked marks v.line v.line) s (edited (cell_at v.column v.line) Clear byte s)
unfolding print_byte store_cell draw
prints_left v byte marks s on less =
    let moves = sym (advances v on less) in
    record { view = ap (λ (e : Effect). e.view) moves; marks = ap (λ (e : Effect). marked_by (marked marks v.line v.line) e.edits) moves; cells = ap (λ (e : Effect). draw e.edits (edited (cell_at v.column v.line) Clear byte s)) moves }

-- a run marks its line once
run_again : (marks line n : ℕ) → run_marks (marked marks line line) line n ≡ marked marks line line
run_again marks line zero = refl
run_again marks line (suc n) = marked_again marks line line

-- codes that stay left of the right edge: the first, and then the others
run_executed : (codes : List ℕ) (p : Port) (s : List ℕ) → p.view.flags.advance ≡ true → p.view.column + length codes ≤ p.view.viewport.right → AllPrinting codes → p.waiting ≡ 0
    → Executed (stream p codes) (with_drawn p (cursor_at p.view (p.view.column + length codes) p.view.line) (run_marks p.marks p.view.line (length codes))) 0 s (stored_run (mode_of p.view) p.view.column p.view.line codes s)
unfolding stored_run mode_of
run_executed [] p s on fits all none =
    subst (λ (n : ℕ). Executed (stream p []) (with_drawn p (cursor_at p.view n p.view.line) p.marks) 0 s s) (sym (add-zero p.view.column)) (nothing_executed p s)
run_executed (c ∷ cs) p s on fits all none =
    let v : View = p.view in
    let lines : ℕ = marked p.marks v.line v.line in
    let q : Port = with_drawn p (cursor_at v (v.column + 1) v.line) lines in
    let byte : ℕ = stored_byte (mode_of v) c in
    let less : v.column < v.viewport.right = omega arith in
    let s₁ : List ℕ = edited (cell_at v.column v.line) Clear byte s in
    let t : List ℕ = stored_run (mode_of v) (v.column + 1) v.line cs s₁ in
    let place : v.column + 1 + length cs ≡ v.column + length (c ∷ cs) = omega arith in
    let first = code_executed p c byte none all.0 refl q.view lines s s₁ (prints_left v byte p.marks s on less) in
    let rest = run_executed cs q s₁ on (omega arith) all.1 none in
    subst (λ (x : ℕ). Executed (stream p (c ∷ cs)) (with_drawn p (cursor_at v (v.column + length (c ∷ cs)) v.line) x) 0 s t) (run_again p.marks v.line (length cs))
    (subst (λ (n : ℕ). Executed (stream p (c ∷ cs)) (with_drawn p (cursor_at v n v.line) (run_marks lines v.line (length cs))) 0 s t) place (cut_executed p q _ (c ∷ []) cs 0 0 s s₁ t (single_executed p q c 0 s s₁ first) rest))

-- a run that was stored is printed
module _ (v : View) (bytes : List ℕ) (n : ℕ) (mode : Mode) (s t : List ℕ) (is : mode ≡ mode_of v) (on : v.flags.advance ≡ true) (placed : Placed v)
    (run : RunStored mode v.column v.line (v.viewport.right - v.column) bytes n s t) where
  pub run_fits : v.column + n ≤ v.viewport.right
  run_fits = let fits = run.fits in let inside = placed.to_right in omega arith

  pub run_printed : RunPrinted v n (take n bytes) (cursor_at v (v.column + n) v.line) s t
  run_printed = record {
    as_stream = λ p same none.
        let codes : List ℕ = take n bytes in
        let long : length codes ≡ n = taken_length bytes 0 n (let h = run.within in omega arith) in
        let stored : t ≡ stored_run (mode_of v) v.column v.line codes s = run.cells ∙ ap (λ (x : Mode). stored_run x v.column v.line codes s) is in
        let fits : v.column + length codes ≤ v.viewport.right = let h = run_fits in omega arith in
        let executed =
        subst (λ (x : View). Executed (stream p codes) (with_drawn p (cursor_at x (x.column + length codes) x.line) (run_marks p.marks x.line (length codes))) 0 s (stored_run (mode_of x) x.column x.line codes s)) same
        (run_executed codes p s (ap (λ (x : View). x.flags.advance) same ∙ on) (subst (λ (x : View). x.column + length codes ≤ x.viewport.right) (sym same) fits) run.printing none) in
        subst (λ (u : List ℕ). Executed (stream p codes) (with_drawn p (cursor_at v (v.column + n) v.line) (run_marks p.marks v.line n)) 0 s u) (sym stored)
        (subst (λ (k : ℕ). Executed (stream p codes) (with_drawn p (cursor_at v (v.column + k) v.line) (run_marks p.marks v.line k)) 0 s (stored_run (mode_of v) v.column v.line codes s)) long executed);
  }

-- a run that is not empty, in an equal view, with its line marked
pub run_marked : (v u w : View) (n before after : ℕ) (codes s t : List ℕ) → RunPrinted v n codes u s t → 0 < n → w ≡ u → after ≡ marked before v.line v.line → Printed v before codes w after s t
run_marked v u w zero before after codes s t run some is marks_are = absurd (omega arith)
run_marked v u w (suc n) before after codes s t run some is marks_are = record {
  as_stream = λ p same none at.
      subst (λ (q : Port). Executed (stream p codes) q 0 s t) (λ i. with_drawn p (sym is i) ((ap (λ (x : ℕ). marked x v.line v.line) at ∙ sym marks_are) i)) (run.as_stream p same none);
}

-- no code at all
pub none_printed : (v : View) (codes : List ℕ) (s : List ℕ) → RunPrinted v 0 (take 0 codes) (cursor_at v (v.column + 0) v.line) s s
none_printed v codes s = record {
  as_stream = λ p same none.
      subst (λ (n : ℕ). Executed (stream p []) (with_drawn p (cursor_at v n v.line) p.marks) 0 s s) (sym (add-zero v.column))
      (subst (λ (x : View). Executed (stream p []) (with_drawn p x p.marks) 0 s s) same (nothing_executed p s));
}
