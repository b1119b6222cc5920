-- An example holds where a test of it passes. The test draws over functions from a cell to its byte, which computes quickly; `draw_cells` says that this is drawing over lists. Assumes nothing.
use Prim.Native.Nat.{ℕ, zero, suc, ◌<◌}
use mathlib.Core.Path.{◌≡◌, refl, sym, ap, ◌∙◌, subst}
use mathlib.Core.Bool.{Bool, true, ◌&&◌}
use mathlib.Core.Logic.{⊎_elim}
use mathlib.Core.List.{List, [], ◌∷◌}
use native.Mathlib.Omega.{arith}
use lib.Dec.{eqb}
use lib.ListN.{length, get_or}
use borrow.Author.Tests.{eqb-true}
use Rattle.std.proofs.lemmas.Bool.{cases_lt}
use Rattle.laws.proofs.Tests.{and_left, and_right, Decides, decides_eq, decides_both, decides_as}
use Rattle.rectangle.specs.declared.Rect.{Rect}
use Rattle.rectangle.specs.declared.Edit.{Edit}
use Rattle.rectangle.specs.Edit.{draw, draw_cell}
use Rattle.rectangle.specs.Rectangles.{whole_screen}
use Rattle.rectangle.proofs.Local.{draw_cells}
use Rattle.screen.specs.Size.{blank_screen}
use Rattle.screen.proofs.Sizes.{blank_size, blank_at}
use Rattle.port.specs.declared.View.{View}
use Rattle.port.specs.Valid.{ValidPort}
use Rattle.port.specs.Step.{Outcome}
use Rattle.port.specs.Stream.{stream}
use Rattle.port.specs.Keeps.{KeepsHome}
use Rattle.port.proofs.Validity.{fresh_valid}
use Rattle.port.proofs.Streams.{keeps_stream, stream_local}
use Rattle.calls.specs.Calls.{PortReply, written}
use Rattle.console.specs.Calls.{fresh_console, write_call}
use Rattle.console.proofs.Answers.{accepted}
use Rattle.examples.specs.Example.{Cell, Example, before, after, named, Shows, Holds, AllHold}

-- a test passes at each number below n
abbrev every_below : ℕ → (ℕ → Bool) → Bool
every_below zero f = true
every_below (suc n) f = f n && every_below n f

below_at : (n : ℕ) (f : ℕ → Bool) → every_below n f ≡ true → (i : ℕ) → i < n → f i ≡ true
below_at zero f e i h = absurd (omega arith)
below_at (suc n) f e i h =
    ⊎_elim (λ k. below_at n f (and_right (f n) (every_below n f) e) i k) (λ k. let same : i ≡ n = omega arith in rw same (and_left (f n) (every_below n f) e)) (cases_lt i n)

abbrev same_rect : Rect → Rect → Bool
same_rect r q = (eqb r.left q.left && eqb r.top q.top) && (eqb r.right q.right && eqb r.bottom q.bottom)

decides_rect : (r q : Rect) → Decides (same_rect r q) (r ≡ q)
decides_rect r q =
    decides_as (decides_both (decides_both (decides_eq _ _) (decides_eq _ _)) (decides_both (decides_eq _ _) (decides_eq _ _)))
    (λ k i. record { left = k.0.0 i; top = k.0.1 i; right = k.1.0 i; bottom = k.1.1 i })
    (λ e. ((ap (λ (x : Rect). x.left) e, ap (λ (x : Rect). x.top) e), (ap (λ (x : Rect). x.right) e, ap (λ (x : Rect). x.bottom) e)))

-- the bytes of an example and of its scene
abbrev set_up : Example → Outcome
set_up e = stream fresh_console e.scene

abbrev acted : Example → Outcome
acted e = stream (set_up e).port e.bytes

abbrev held_cell : Example → ℕ → ℕ
held_cell e = draw_cell (set_up e).edits (λ _. 0xa0)

-- all that an example states, as one test
abbrev port_right : Example → Bool
port_right e =
    let m : Outcome = acted e in
    (same_rect m.port.view.viewport e.viewport && eqb m.bells e.bells) && (eqb m.port.view.column e.column && eqb m.port.view.line e.line)

abbrev cell_right : List Cell → List Edit → (ℕ → ℕ) → ℕ → Bool
cell_right cells es held i = eqb (draw_cell es held i) (named cells i (held i))

abbrev cells_right : Example → Bool
cells_right e =
    let held : ℕ → ℕ = held_cell e in
    let es : List Edit = (acted e).edits in
    every_below 1920 (cell_right e.cells es held)

abbrev passes : Example → Bool
passes e = port_right e && cells_right e

pub fresh : ValidPort fresh_console
fresh = fresh_valid whole_screen (omega arith)

holds : (e : Example) → passes e ≡ true → Holds e
unfolding written
holds e test =
    subst (λ (r : PortReply). Shows e r (after e)) (sym scene_is)
    (subst (λ (r : PortReply). Shows e (written fresh_console blank_screen e.scene) r) (sym shown_is) shows)
  where
    scene_kept : KeepsHome fresh_console (set_up e)
    scene_kept = keeps_stream fresh_console fresh e.scene

    scene_screen : List ℕ
    scene_screen = draw (set_up e).edits blank_screen

    scene_size : length scene_screen ≡ 1920
    scene_size = (stream_local fresh_console fresh e.scene).len blank_screen blank_size

    scene_is : before e ≡ written fresh_console blank_screen e.scene
    scene_is = accepted written fresh_console blank_screen e.scene fresh blank_size

    shown_is : after e ≡ written (set_up e).port scene_screen e.bytes
    shown_is = ap (λ (r : PortReply). write_call r.state r.screen e.bytes) scene_is ∙ accepted written (set_up e).port scene_screen e.bytes scene_kept.valid scene_size

    cell_at : (i : ℕ) → i < 1920 → get_or scene_screen i 0 ≡ held_cell e i
    cell_at i h = draw_cells whole_screen (omega arith) (omega arith) (set_up e).edits scene_kept.edits blank_screen (λ _. 0xa0) blank_at i h

    port_right_lem : port_right e ≡ true
    port_right_lem = and_left (port_right e) (cells_right e) test

    m : Outcome
    m = acted e

    v : View
    v = (acted e).port.view

    shape : (same_rect v.viewport e.viewport && eqb m.bells e.bells) ≡ true
    shape = and_left (same_rect v.viewport e.viewport && eqb m.bells e.bells) (eqb v.column e.column && eqb v.line e.line) port_right_lem

    cursor : (eqb v.column e.column && eqb v.line e.line) ≡ true
    cursor = and_right (same_rect v.viewport e.viewport && eqb m.bells e.bells) (eqb v.column e.column && eqb v.line e.line) port_right_lem

    shows : Shows e (written fresh_console blank_screen e.scene) (written (set_up e).port scene_screen e.bytes)
    shows = record {
      status = refl;
      size = (stream_local (set_up e).port scene_kept.valid e.bytes).len scene_screen scene_size;
      cells = λ i h.
          draw_cells (set_up e).port.home scene_kept.valid.home.right_in scene_kept.valid.home.bottom_in m.edits
          (keeps_stream (set_up e).port scene_kept.valid e.bytes).edits
          scene_screen
          (held_cell e)
          cell_at
          i
          h
          ∙ eqb-true _ _ (below_at 1920 (cell_right e.cells m.edits (held_cell e)) (and_right (port_right e) (cells_right e) test) i h)
          ∙ ap (named e.cells i) (sym (cell_at i h));
      viewport = (decides_rect v.viewport e.viewport).holds (and_left (same_rect v.viewport e.viewport) (eqb m.bells e.bells) shape);
      column = eqb-true _ _ (and_left (eqb v.column e.column) (eqb v.line e.line) cursor);
      line = eqb-true _ _ (and_right (eqb v.column e.column) (eqb v.line e.line) cursor);
      bells = eqb-true _ _ (and_right (same_rect v.viewport e.viewport) (eqb m.bells e.bells) shape);
    }

-- one test for a whole table
abbrev pub all_pass : List Example → Bool
all_pass [] = true
all_pass (e ∷ es) = passes e && all_pass es

pub all_hold : (es : List Example) → all_pass es ≡ true → AllHold es
all_hold [] test = tt
all_hold (e ∷ es) test = (holds e (and_left (passes e) (all_pass es) test), all_hold es (and_right (passes e) (all_pass es) test))
