-- One byte printed; and the loop that prints spaces: what is left of them, done from here, is what was asked. Assumes nothing.
use Prim.Native.Nat.{ℕ, zero, suc, ◌+◌, ◌-◌, ◌≤◌, ◌<◌}
use mathlib.Core.Path.{◌≡◌, refl, sym, ap, ◌∙◌, subst}
use mathlib.Core.Bool.{◌&&◌}
use mathlib.Core.List.{List, ◌++◌}
use native.Mathlib.Omega.{arith}
use lib.Dec.{ltb}
use Rattle.laws.proofs.Tests.{by_test}
use Rattle.rectangle.specs.declared.Motion.TheVariants.{Clear}
use Rattle.rectangle.specs.Rectangles.{cell_at}
use Rattle.rectangle.specs.Edit.{edited, draw}
use Rattle.rectangle.proofs.Local.{draw_append}
use Rattle.charset.specs.declared.Mode.{Mode}
use Rattle.charset.specs.Stored.{stored_byte}
use Rattle.marks.specs.Marks.{marked, marked_by}
use Rattle.marks.proofs.Marking.{marked_append}
use Rattle.port.specs.declared.View.{View}
use Rattle.port.specs.Effect.{Effect, and_then}
use Rattle.port.specs.Codes.{move_cursor_right, advance, store_cell, print_byte, print, mode_of, print_spaces}
use Rattle.view.specs.declared.ViewPlan.{ViewPlan}
use Rattle.view.specs.Plan.{effect_of}
use Rattle.printer.specs.Execute.{AllOnScreen, Drew}
use Rattle.printer.proofs.Draws.{front_on_screen, back_on_screen}

-- a byte stored, and then what the cursor's move draws
module _ (v : View) (byte : ℕ) (all : AllOnScreen (print_byte v byte).edits) where
  pub cell_on_screen : (v.column ≤ 79) × (v.line ≤ 23)
  unfolding print_byte store_cell
  cell_on_screen = (all.0.right_in, all.0.bottom_in)

  pub move_on_screen : (m : ViewPlan 1) → effect_of m ≡ advance v → AllOnScreen (effect_of m).edits
  unfolding print_byte store_cell
  move_on_screen m is = subst (λ (e : Effect). AllOnScreen e.edits) (sym is) all.1

pub printed : (v : View) (byte : ℕ) (m : ViewPlan 1) (before between : ℕ) (w : View) (after : ℕ) (s s₁ t : List ℕ) → effect_of m ≡ advance v → s₁ ≡ edited (cell_at v.column v.line) Clear byte s → between ≡ marked before v.line v.line → Drew (effect_of m) between w after s₁ t
    → Drew (print_byte v byte) before w after s t
unfolding print_byte store_cell draw
printed v byte m before between w after s s₁ t is stored at_line d = record {
  view = d.view ∙ ap (λ (e : Effect). e.view) is;
  marks = d.marks ∙ (λ i. marked_by (at_line i) (is i).edits);
  cells = d.cells ∙ (λ i. draw (is i).edits (stored i));
}

-- the byte that a code is stored as, in the mode of a view
pub stored_as : {x : ℕ} (v : View) (mode : Mode) (code : ℕ) → x ≡ stored_byte mode code → mode ≡ mode_of v → x ≡ stored_byte (mode_of v) code
stored_as v mode code e k = e ∙ ap (λ (z : Mode). stored_byte z code) k

-- printing keeps the mode
mode_kept : (v : View) (byte : ℕ) → mode_of (print_byte v byte).view ≡ mode_of v
unfolding print_byte store_cell advance move_cursor_right mode_of
mode_kept v byte =
    by_test Same v.flags.advance
    (λ _. by_test Same (ltb v.column v.viewport.right) (λ _. refl) λ _.
    by_test Same (v.flags.wrap && ltb v.line v.viewport.bottom) (λ _. refl) λ _.
    by_test Same (v.flags.wrap && v.flags.scroll) (λ _. refl) (λ _. refl))
    (λ _. refl)
  where
    Same : Effect → Type 0
    Same e = mode_of e.view ≡ mode_of v

pub record Spacing (byte asked : ℕ) (start : View) (first : ℕ) (s₀ : List ℕ) (left : ℕ) (v : View) (marks : ℕ) (s : List ℕ) : Type 0 where
  pub stored : byte ≡ stored_byte (mode_of v) 0x20
  pub edits : AllOnScreen (print_spaces left v).edits
  pub rest : (w : View) (after : ℕ) (t : List ℕ) → Drew (print_spaces left v) marks w after s t → Drew (print_spaces asked start) first w after s₀ t

pub spacing_starts : (byte n : ℕ) (v : View) (marks : ℕ) (s : List ℕ) → AllOnScreen (print_spaces n v).edits × (byte ≡ stored_byte (mode_of v) 0x20) → Spacing byte n v marks s (n - 0) v marks s
spacing_starts byte n v marks s asked = let all : n ≡ n - 0 = omega arith in subst (λ (k : ℕ). Spacing byte n v marks s k v marks s) all (record { stored = asked.1; edits = asked.0; rest = λ w after t d. d })

pub spacing_ends : (byte n : ℕ) (v : View) (first : ℕ) (s₀ : List ℕ) (left : ℕ) (w : View) (marks : ℕ) (s : List ℕ) → Spacing byte n v first s₀ left w marks s → left ≤ 0 → Drew (print_spaces n v) first w marks s₀ s
unfolding print_spaces draw
spacing_ends byte n v first s₀ zero w marks s r h = r.rest w marks s (record { view = refl; marks = refl; cells = refl })
spacing_ends byte n v first s₀ (suc left) w marks s r h = absurd (omega arith)

-- one space, and then those that are left
one_less : (n : ℕ) (v : View) → 0 < n → print_spaces n v ≡ and_then (print v 0x20) (print_spaces (n - 1))
unfolding print_spaces
one_less zero v h = absurd (omega arith)
one_less (suc n) v h = let e : suc n - 1 ≡ n = omega arith in rw e

module _ {byte asked : ℕ} {start : View} {first : ℕ} {s₀ : List ℕ} {left : ℕ} {v : View} {marks : ℕ} {s : List ℕ} (r : Spacing byte asked start first s₀ left v marks s) (some : 0 < left) where
  split : print_spaces left v ≡ and_then (print_byte v byte) (print_spaces (left - 1))
  unfolding print
  split = one_less left v some ∙ ap (λ (b : ℕ). and_then (print_byte v b) (print_spaces (left - 1))) (sym r.stored)

  all_edits : AllOnScreen ((print_byte v byte).edits ++ (print_spaces (left - 1) (print_byte v byte).view).edits)
  all_edits = subst (λ (e : Effect). AllOnScreen e.edits) split r.edits

  pub space_edits : AllOnScreen (print_byte v byte).edits
  space_edits = front_on_screen (print_byte v byte).edits (print_spaces (left - 1) (print_byte v byte).view).edits all_edits

  pub spacing_again : (next : ℕ) → next + 1 ≡ left → (w : View) (after : ℕ) (t : List ℕ) → Drew (print_byte v byte) marks w after s t → Spacing byte asked start first s₀ next w after t
  spacing_again next e w after t d = let less : left - 1 ≡ next = omega arith in subst (λ (n : ℕ). Spacing byte asked start first s₀ n w after t) less (subst (λ (x : View). Spacing byte asked start first s₀ (left - 1) x after t) (sym d.view) (record {
    stored = r.stored ∙ ap (λ (k : Mode). stored_byte k 0x20) (sym (mode_kept v byte));
    edits = back_on_screen (print_byte v byte).edits (print_spaces (left - 1) (print_byte v byte).view).edits all_edits;
    rest = λ x end u h. r.rest x end u (subst (λ (y : Effect). Drew y marks x end s u) (sym split)
        (record { view = h.view; marks = h.marks ∙ ap (λ (n : ℕ). marked_by n (print_spaces (left - 1) (print_byte v byte).view).edits) d.marks ∙ sym (marked_append marks (print_byte v byte).edits (print_spaces (left - 1) (print_byte v byte).view).edits); cells = h.cells ∙ ap (draw (print_spaces (left - 1) (print_byte v byte).view).edits) d.cells ∙ sym (draw_append (print_byte v byte).edits (print_spaces (left - 1) (print_byte v byte).view).edits s) }));
  }))
