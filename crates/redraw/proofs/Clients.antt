-- A multiplexer: a screen drawn anew by its marks is the screen, over any list of demand 3's calls; what a taking hands out, and what leaves marks. All laws together. Assumes nothing.
use Prim.Native.Nat.{ℕ}
use mathlib.Core.Path.{◌≡◌, refl, sym, ap, ◌∙◌}
use mathlib.Core.Bool.{Bool, true, false, ◌||◌, true≢false}
use mathlib.Core.Logic.{◌⊎◌, inl, inr, ⊎_elim}
use mathlib.Core.List.{List, [], ◌∷◌}
use native.Mathlib.Omega.{arith}
use lib.Dec.{eqb}
use lib.ListN.{length, get_or}
use borrow.Author.Tests.{eqb-true, eqb-false}
use Rattle.laws.proofs.Bits.{bit_none}
use Rattle.std.proofs.lemmas.Bool.{cases_Bool}
use Rattle.laws.proofs.Tests.{decides_any}
use Rattle.rectangle.specs.declared.Rect.{Rect}
use Rattle.rectangle.specs.Cells.{line_of, Inside}
use Rattle.marks.specs.Marks.{is_marked, has_line, no_marks}
use Rattle.marks.proofs.Marking.{marked_in_lem}
use Rattle.port.specs.declared.Port.{Port}
use Rattle.port.specs.Valid.{ValidPort}
use Rattle.calls.specs.Taking.{none_taken, marks_taken}
use Rattle.slots.specs.declared.Slot.{Slot}
use Rattle.slots.specs.declared.Multiplexer.{Multiplexer}
use Rattle.slots.specs.State.{slot_at, pane, Open, fresh_slot}
use Rattle.slots.specs.Valid.{valid_multiplexer, ValidMultiplexer}
use Rattle.slots.proofs.Validity.{decides_multiplexer}
use Rattle.slots.proofs.Slots.{client?, slot_client, slot_set, slot_kept}
use Rattle.multiplexer.specs.Located.{client_slot, claim_slot}
use Rattle.multiplexer.specs.Calls.{MultiplexerReply, opened_at, open_call, close_call, take_call}
use Rattle.multiplexer.proofs.Claims.{claims}
use Rattle.multiplexer.proofs.Clients.{found}
use Rattle.multiplexer.proofs.Replying.{located_at, by_slot}
use Rattle.client_calls.specs.Serve.{CallReply, Kind, Call, call_on_port, serve}
use Rattle.client_calls.specs.Serve.Kind.{Write, Return, Restore, Take}
use Rattle.client_calls.proofs.Consoles.{keeps_call}
use Rattle.client_calls.proofs.Serving.{goes_to, frame}
use Rattle.client_calls.proofs.Taken.{taken_leaves}
use Rattle.client_calls.proofs.Closed.{closed_leaves, close_refused}
use Rattle.isolation.specs.Isolation.{Standalone, standalone, serve_all, calls_of}
use Rattle.isolation.proofs.Isolation.{isolation, pane?}
use Rattle.redraw.specs.Redraw.{handed_out, lines_of, lines_of_all, ClientRedraw, RedrawLaws}
use Rattle.redraw.specs.Marks.{CountsLines, ClientTaken, MarkLaws}
use Rattle.redraw.proofs.Plain.{plain_redraw, plain_marks, plain_taken, none_counted, taken_counted, plain_counts}
use Rattle.redraw.proofs.Tracks.{shows, tracks_call, grows_write, grows_return, grows_restore, redraws}

-- ---- one standalone console
-- the lines to draw anew for it
drawn : Standalone → ℕ → Bool
drawn e line = is_marked e.port.marks line || handed_out e.answers line

record Tracked (p : Port) (s : List ℕ) (e : Standalone) : Type 0 where
  cells : (k : ℕ) → (get_or e.screen k 0 ≡ get_or s k 0) ⊎ (drawn e (line_of k) ≡ true)
  marks : (line : ℕ) → is_marked p.marks line ≡ true → drawn e line ≡ true

-- a line that is shown after the first call is drawn in the end: it is handed out, or still tracked
onward : (end given rest kept : Bool) → (kept ≡ true → (end || rest) ≡ true) → (kept || given) ≡ true → (end || (given || rest)) ≡ true
onward true given rest kept h e = refl
onward false true rest kept h e = refl
onward false false rest true h e = h refl
onward false false rest false h e = absurd (true≢false (sym e))

later : (end given rest : Bool) → (end || rest) ≡ true → (end || (given || rest)) ≡ true
later true given rest e = refl
later false true rest e = refl
later false false rest e = e

tracked : (ks : List Kind) (p : Port) (s : List ℕ) → ValidPort p → length s ≡ 1920 → Tracked p s (standalone p s ks)
unfolding standalone handed_out drawn
tracked [] p s v l = record { cells = λ k. inl refl; marks = λ line is. simp is }
tracked (kind ∷ ks) p s v l =
    let r : CallReply Port = call_on_port kind p s in
    let keeps = keeps_call p v kind s l in
    let first = tracks_call p v kind s l in
    let rest = tracked ks r.state r.screen keeps.valid keeps.len in
    let end : Standalone = standalone r.state r.screen ks in
    let goes : (line : ℕ) → shows r line ≡ true → (is_marked end.port.marks line || (is_marked r.result.marks line || handed_out end.answers line)) ≡ true =
    λ line. onward (is_marked end.port.marks line) (is_marked r.result.marks line) (handed_out end.answers line) (is_marked r.state.marks line) (rest.marks line) in
    record {
      cells = λ k.
          ⊎_elim (λ e. ⊎_elim (λ d. inl (e ∙ d)) (λ is. inr (goes (line_of k) is)) (first.cells k))
          (λ is. inr (later (is_marked end.port.marks (line_of k)) (is_marked r.result.marks (line_of k)) (handed_out end.answers (line_of k)) is))
          (rest.cells k);
      marks = λ line is. goes line (first.marks line is);
    }

-- ---- the multiplexer: each open client is as on its standalone console
module _ (m : Multiplexer) (s : List ℕ) (cs : List Call) (valid : valid_multiplexer m ≡ true) (l : length s ≡ 1920) where
  abbrev Drawn : ℕ → Type 0
  Drawn k = (i : ℕ) × Open m i × Inside (pane m i) k × (lines_of serve m s cs i (line_of k) ≡ true)

  client_cells : (k : ℕ) → (get_or (serve_all serve m s cs).screen k 0 ≡ get_or s k 0) ⊎ Drawn k
  unfolding drawn
  client_cells k =
      let a = isolation.isolated m s cs valid l in
      let v = (decides_multiplexer m).holds valid in
      ⊎_elim
      (λ w. let i = w.0 in
      let o = w.1 in
      let t = tracked (calls_of (slot_at m i).client cs) (slot_at m i).port s (v.ports i o) l in
      ⊎_elim (λ e. inl (a.cells i o k w.2 ∙ e))
      (λ is. inr (i, o, w.2, (λ j. is_marked (a.ports i o j).port.marks (line_of k) || handed_out (a.answers i o j) (line_of k)) ∙ is))
      (t.cells k))
      (λ none. inl (a.outside k none))
      (pane? m k)

  client_redraw : ClientRedraw serve m s cs
  client_redraw = record {
    cells = client_cells;
    shown = redraws (lines_of_all serve m s cs) s (serve_all serve m s cs).screen (isolation.isolated m s cs valid l).still_long
        (λ k. ⊎_elim inl (λ w. inr ((decides_any (λ i. lines_of serve m s cs i (line_of k)) (λ i. lines_of serve m s cs i (line_of k) ≡ true) (λ i. record { holds = λ e. e; passes = λ e. e })).passes (w.0, w.1.0, w.3))) (client_cells k));
  }

-- ---- what marks, what a taking hands out, and what leaves marks
opening_marks : (n : ℕ) (r : Rect) (line : ℕ) → is_marked (fresh_slot n r).port.marks line ≡ has_line r line
opening_marks n r line = marked_in_lem no_marks r line ∙ ap (λ (t : Bool). t || has_line r line) (bit_none line)

client_taken : (m : Multiplexer) (n i : ℕ) → ValidMultiplexer m → Open m i → (slot_at m i).client ≡ n → ClientTaken m n i
unfolding marks_taken
client_taken m n i v o e = let is = taken_leaves m n v i o e in record { marks = ap (λ (r : CallReply Multiplexer). r.result.marks) is; multiplexer = ap (λ (r : CallReply Multiplexer). r.state) is }

client_counts : (m : Multiplexer) (n : ℕ) → CountsLines (take_call m n).result
client_counts m n =
    by_slot none_taken m [] [] _ (λ (r : CallReply Multiplexer). CountsLines r.result) (client_slot m n) (λ status _. none_counted)
    (λ i at. taken_counted (slot_at m i).port (found m n i at).port [] [])

module _ (m : Multiplexer) (s : List ℕ) (c : Call) (v : ValidMultiplexer m) (l : length s ≡ 1920) where
  own_marks : (i : ℕ) (o : Open m i) (kind : Kind) → (kind ≡ Take → ⊥) → (line : ℕ) → is_marked (slot_at m i).port.marks line ≡ true → is_marked (call_on_port kind (slot_at m i).port s).state.marks line ≡ true
  own_marks i o (Write bytes) no_taking = (grows_write (slot_at m i).port (v.ports i o) s l bytes).marks
  own_marks i o (Return block) no_taking = (grows_return (slot_at m i).port (v.ports i o) s l block).marks
  own_marks i o (Restore block) no_taking = (grows_restore (slot_at m i).port (v.ports i o) s l block).marks
  own_marks i o Take no_taking = absurd (no_taking refl)

  calls_grow : (i : ℕ) → Open m i → (c.kind ≡ Take → c.client ≡ (slot_at m i).client → ⊥)
      → (line : ℕ) → is_marked (slot_at m i).port.marks line ≡ true → is_marked (slot_at (serve m s c).state i).port.marks line ≡ true
  calls_grow i o no_taking line is =
      ⊎_elim
      (λ own. let same = eqb-true c.client (slot_at m i).client own in
      rw (goes_to m s c v l i o (sym same)) (rw (slot_set m v i o.0 _) (own_marks i o c.kind (λ e. no_taking e same) line is)))
      (λ other. ap (λ (x : Slot). is_marked x.port.marks line) ((frame m s c v l).slots i (λ _ e. eqb-false c.client (slot_at m i).client other (sym e))) ∙ is)
      (cases_Bool (eqb c.client (slot_at m i).client))

-- the slot that an opening takes was free
opening_leaves : (m : Multiplexer) (s : List ℕ) (n : ℕ) (r : Rect) (i : ℕ) → Open m i → slot_at (open_call m s n r).state i ≡ slot_at m i
opening_leaves m s n r i o =
    by_slot 0 m s [] (opened_at m s n r) (λ (x : MultiplexerReply). slot_at x.state i ≡ slot_at m i) _ (λ status _. refl)
    (λ j k. let a = located_at s (claim_slot m n r) j k in
    let c = claims m n r j a.1 in
    let room = c.0.room in
    let at = c.1 in
    slot_kept m c.0.valid j (omega arith) (fresh_slot n r) i (λ e. o.1 (ap (λ (x : ℕ). (slot_at m x).client) (e ∙ c.1) ∙ slot_client m 0 c.0.room)))

closing_leaves : (m : Multiplexer) (n i : ℕ) → ValidMultiplexer m → Open m i → ((slot_at m i).client ≡ n → ⊥) → slot_at (close_call m n).state i ≡ slot_at m i
closing_leaves m n i v o other =
    ⊎_elim (λ k. (closed_leaves m n v k.0 k.1 k.2).others i (λ e. other (ap (λ (x : ℕ). (slot_at m x).client) e ∙ k.2)))
    (λ h. ap (λ (x : MultiplexerReply). slot_at x.state i) (close_refused m n v h))
    (client? m n)

pub redraw_laws : RedrawLaws
redraw_laws = record { plain = plain_redraw; client = client_redraw }

pub mark_laws : MarkLaws
mark_laws = record {
  plain_calls = plain_marks;
  plain_taken = plain_taken;
  client_taken = client_taken;
  plain_counts = plain_counts;
  client_counts = client_counts;
  opening = opening_marks;
  calls_grow = calls_grow;
  opening_leaves = opening_leaves;
  closing_leaves = closing_leaves;
}
