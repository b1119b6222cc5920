-- One call on a valid port and 1,920 cells: what it changes it marks, and what was marked stays marked, or is handed out. Assumes nothing.
use Prim.Native.Nat.{ℕ, ◌<◌}
use mathlib.Core.Path.{◌≡◌, refl, sym, ap, ◌∙◌}
use mathlib.Core.Bool.{Bool, true, cond, ◌||◌}
use mathlib.Core.Logic.{◌⊎◌, inl, inr, ⊎_elim}
use mathlib.Core.List.{List}
use lib.Dec.{ltb}
use lib.ListN.{length, get_or}
use lib.Seq.{ext_get_or}
use Rattle.laws.specs.Tabulate.{tabulate, length_tabulate, get_or_tabulate}
use Rattle.std.proofs.lemmas.Bool.{cases_Bool, both_ways, or_left, or_right}
use Rattle.laws.proofs.Tests.{by_test}
use Rattle.rectangle.specs.declared.Rect.{Rect}
use Rattle.rectangle.specs.Cells.{line_of}
use Rattle.rectangle.proofs.Edits.{inside?}
use Rattle.block.specs.Block.{block_length, block_fits}
use Rattle.block.proofs.Restores.{length_restored, restored_outside}
use Rattle.marks.specs.Marks.{no_marks, is_marked, has_line, stored_to}
use Rattle.marks.proofs.Marking.{marked_in_lem}
use Rattle.marks.proofs.Cells.{has_line_lem, cell_stays}
use Rattle.port.specs.declared.Port.{Port}
use Rattle.port.specs.Valid.{ValidPort}
use Rattle.port.specs.Stream.{stream}
use Rattle.port.proofs.Streams.{keeps_stream, stream_local, stream_marks}
use Rattle.calls.specs.Calls.{PortReply, written, block_returned, block_restored}
use Rattle.calls.specs.Taking.{marks_taken}
use Rattle.client_calls.specs.Serve.{CallReply, counted, Kind, call_on_port}
use Rattle.client_calls.specs.Serve.Kind.{Write, Return, Restore, Take}
use Rattle.redraw.specs.Redraw.{redrawn}

-- of a call that hands no marks out
pub record Grows (p : Port) (s : List ℕ) (r : PortReply) : Type 0 where
  pub len : length r.screen ≡ length s
  pub cells : (k : ℕ) → (get_or r.screen k 0 ≡ get_or s k 0) ⊎ (is_marked r.state.marks (line_of k) ≡ true)
  pub marks : (line : ℕ) → is_marked p.marks line ≡ true → is_marked r.state.marks line ≡ true

-- one that changes neither port nor screen
pub unchanged : (p : Port) (s : List ℕ) (r : PortReply) → r.state ≡ p → r.screen ≡ s → Grows p s r
unchanged p s r same cells = record {
  len = ap length cells;
  cells = λ k. inl (ap (λ (t : List ℕ). get_or t k 0) cells);
  marks = λ line is. ap (λ (q : Port). is_marked q.marks line) same ∙ is;
}

module _ (p : Port) (v : ValidPort p) (s : List ℕ) (l : length s ≡ 1920) where
  pub grows_write : (bytes : List ℕ) → Grows p s (written p s bytes)
  unfolding written
  grows_write bytes = record {
    len = (stream_local p v bytes).len s l ∙ sym l;
    cells = λ k.
        ⊎_elim (λ is. inr (stream_marks p v bytes (line_of k) ∙ or_right (is_marked p.marks (line_of k)) (stored_to (stream p bytes).edits (line_of k)) is))
        (λ none. inl (cell_stays p.home v.home.right_in v.home.bottom_in (stream p bytes).edits (keeps_stream p v bytes).edits s l k none))
        (cases_Bool (stored_to (stream p bytes).edits (line_of k)));
    marks = λ line is. stream_marks p v bytes line ∙ or_left (is_marked p.marks line) (stored_to (stream p bytes).edits line) is;
  }

  pub grows_return : (block : List ℕ) → Grows p s (block_returned p s block)
  unfolding block_returned
  grows_return block = by_test (Grows p s) (ltb (length block) (block_length p.view.viewport)) (λ _. unchanged p s _ refl refl) (λ _. unchanged p s _ refl refl)

  abbrev rect : Rect
  rect = p.view.viewport

  pub grows_restore : (block : List ℕ) → Grows p s (block_restored p s block)
  unfolding block_restored
  grows_restore block =
      by_test (Grows p s) (block_fits rect block)
      (λ _. record {
        len = length_restored rect block s ∙ sym l;
        cells = λ k.
            ⊎_elim (λ x. inr (marked_in_lem p.marks rect (line_of k) ∙ or_right (is_marked p.marks (line_of k)) (has_line rect (line_of k)) (has_line_lem rect k x)))
            (λ out. inl (restored_outside rect block s l k out))
            (inside? rect k);
        marks = λ line is. marked_in_lem p.marks rect line ∙ or_left (is_marked p.marks line) (has_line rect line) is;
      })
      (λ _. unchanged p s _ refl refl)

-- ---- of any call: a line that is marked after it, or was handed out by it
abbrev pub shows : CallReply Port → ℕ → Bool
shows r line = is_marked r.state.marks line || is_marked r.result.marks line

pub record Tracks (p : Port) (s : List ℕ) (r : CallReply Port) : Type 0 where
  pub cells : (k : ℕ) → (get_or r.screen k 0 ≡ get_or s k 0) ⊎ (shows r (line_of k) ≡ true)
  pub marks : (line : ℕ) → is_marked p.marks line ≡ true → shows r line ≡ true

tracks_counted : (p : Port) (s : List ℕ) (r : PortReply) → Grows p s r → Tracks p s (counted r)
tracks_counted p s r g = record {
  cells = λ k. ⊎_elim inl (λ is. inr (or_left (is_marked r.state.marks (line_of k)) (is_marked no_marks (line_of k)) is)) (g.cells k);
  marks = λ line is. or_left (is_marked r.state.marks line) (is_marked no_marks line) (g.marks line is);
}

pub tracks_call : (p : Port) → ValidPort p → (kind : Kind) (s : List ℕ) → length s ≡ 1920 → Tracks p s (call_on_port kind p s)
unfolding marks_taken
tracks_call p v (Write bytes) s l = tracks_counted p s (written p s bytes) (grows_write p v s l bytes)
tracks_call p v (Return block) s l = tracks_counted p s (block_returned p s block) (grows_return p v s l block)
tracks_call p v (Restore block) s l = tracks_counted p s (block_restored p s block) (grows_restore p v s l block)
tracks_call p v Take s l = record { cells = λ k. inl refl; marks = λ line is. or_right (is_marked no_marks line) (is_marked p.marks line) is }

-- ---- a screen drawn anew
pub redraws : (lines : ℕ → Bool) (s t : List ℕ) → length t ≡ 1920 → ((k : ℕ) → (get_or t k 0 ≡ get_or s k 0) ⊎ (lines (line_of k) ≡ true)) → redrawn lines s t ≡ t
unfolding redrawn
redraws lines s t l same =
    ext_get_or 0 (tabulate 1920 cell) t (length_tabulate 1920 cell ∙ sym l) λ k h.
    let small : k < 1920 = rw (length_tabulate 1920 cell) at h in
    get_or_tabulate 1920 cell k small
    ∙ by_test (λ (b : ℕ). b ≡ get_or t k 0) (lines (line_of k)) (λ _. refl) (λ off. ⊎_elim (λ e. sym e) (λ on. absurd (both_ways _ off on)) (same k))
  where
    cell : ℕ → ℕ
    cell k = cond (lines (line_of k)) (get_or t k 0) (get_or s k 0)
