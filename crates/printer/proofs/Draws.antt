-- Edits that are carried out one after another. Assumes nothing.
use Prim.Native.Nat.{ℕ, ◌+◌, ◌≤◌, ◌<◌}
use mathlib.Core.Path.{◌≡◌, sym, ap, ◌∙◌, subst}
use mathlib.Core.List.{List, [], ◌∷◌, ◌++◌}
use native.Mathlib.Omega.{arith}
use lib.ListN.{length, get_or, drop}
use Rattle.std.proofs.lemmas.List.{drop_all, drop_more}
use Rattle.std.specs.Prelude.{Option, Some, None}
use Rattle.rectangle.specs.declared.Rect.{Rect}
use Rattle.rectangle.specs.declared.Edit.{Edit}
use Rattle.rectangle.specs.Rectangles.{OnScreen}
use Rattle.rectangle.specs.Edit.{edited, draw}
use Rattle.rectangle.specs.Local.{AllWithin}
use Rattle.rectangle.proofs.Local.{length_edited, draw_append}
use Rattle.marks.specs.Marks.{marked_in, marked_by}
use Rattle.marks.proofs.Marking.{marked_append}
use Rattle.view.specs.Plan.{change_list, all_changes}
use Rattle.printer.specs.Execute.{AllOnScreen}

-- edits inside a rectangle on the screen are on the screen
pub on_screen : (r : Rect) → r.right ≤ 79 → r.bottom ≤ 23 → (es : List Edit) → AllWithin r es → AllOnScreen es
on_screen r right bottom [] all = tt
on_screen r right bottom (e ∷ es) all = let w = all.0 in (omega arith, on_screen r right bottom es all.1)

pub front_on_screen : (a b : List Edit) → AllOnScreen (a ++ b) → AllOnScreen a
front_on_screen [] b all = tt
front_on_screen (e ∷ a) b all = (all.0, front_on_screen a b all.1)

pub back_on_screen : (a b : List Edit) → AllOnScreen (a ++ b) → AllOnScreen b
back_on_screen [] b all = all
back_on_screen (e ∷ a) b all = back_on_screen a b all.1

-- one edit, or none
pub drawn_edit : (change : Option Edit) (e : Edit) → change ≡ Some e → AllOnScreen (change_list change) → OnScreen e.rect
drawn_edit change e k all = (subst (λ (x : Option Edit). AllOnScreen (change_list x)) k all).0

pub draws_nothing : (change : Option Edit) (s : List ℕ) → change ≡ None → s ≡ draw (change_list change) s
unfolding draw
draws_nothing change s k = rw k

pub draws_one : (change : Option Edit) (e : Edit) (s t : List ℕ) → change ≡ Some e → t ≡ edited e.rect e.motion e.fill s → t ≡ draw (change_list change) s
unfolding draw
draws_one change e s t k h = rw k h

pub marks_nothing : (marks : ℕ) (change : Option Edit) → change ≡ None → marks ≡ marked_by marks (change_list change)
marks_nothing marks change k = rw k

pub marks_one : (marks : ℕ) (change : Option Edit) (e : Edit) {after : ℕ} → change ≡ Some e → after ≡ marked_in marks e.rect → after ≡ marked_by marks (change_list change)
marks_one marks change e k h = rw k h

-- its lines are lines of the screen
module _ (change : Option Edit) (e : Edit) (k : change ≡ Some e) (all : AllOnScreen (change_list change)) where
  pub edit_down : e.rect.top ≤ e.rect.bottom
  edit_down = (drawn_edit change e k all).down

  pub edit_bottom : e.rect.bottom ≤ 23
  edit_bottom = (drawn_edit change e k all).bottom_in

pub length_draw : (es : List Edit) (s : List ℕ) → length s ≡ 1920 → length (draw es s) ≡ 1920
unfolding draw
length_draw [] s len = len
length_draw (e ∷ es) s len = length_draw es _ (length_edited e.rect e.motion e.fill s)

-- ---- the loop over a plan's edits: what is left of them, drawn from here, is what was asked
pub record Drawing (asked : List (Option Edit)) (before : ℕ) (s₀ : List ℕ) (left : List (Option Edit)) (marks : ℕ) (s : List ℕ) : Type 0 where
  pub edits : AllOnScreen (all_changes left)
  pub marks_are : marked_by marks (all_changes left) ≡ marked_by before (all_changes asked)
  pub cells_are : draw (all_changes left) s ≡ draw (all_changes asked) s₀

pub drawing_on : {asked rest : List (Option Edit)} {before marks after : ℕ} {s₀ s t : List ℕ} (c : Option Edit) → Drawing asked before s₀ (c ∷ rest) marks s → after ≡ marked_by marks (change_list c) → t ≡ draw (change_list c) s
    → Drawing asked before s₀ rest after t
drawing_on {rest = rest} {marks = marks} {s = s} {t = t} c r m d = record {
  edits = back_on_screen (change_list c) (all_changes rest) r.edits;
  marks_are = ap (λ (n : ℕ). marked_by n (all_changes rest)) m ∙ sym (marked_append marks (change_list c) (all_changes rest)) ∙ r.marks_are;
  cells_are = ap (draw (all_changes rest)) d ∙ sym (draw_append (change_list c) (all_changes rest) s) ∙ r.cells_are;
}

module _ {asked : List (Option Edit)} {before marks : ℕ} {s₀ s : List ℕ} (xs : List (Option Edit)) (i : ℕ) (r : Drawing asked before s₀ (drop i xs) marks s) where
  from_next : i < length xs → Drawing asked before s₀ (get_or xs i None ∷ drop (i + 1) xs) marks s
  from_next more = subst (λ (ys : List (Option Edit)). Drawing asked before s₀ ys marks s) (drop_more xs i None more) r

  pub next_on_screen : i < length xs → AllOnScreen (change_list (get_or xs i None))
  next_on_screen more = front_on_screen (change_list (get_or xs i None)) (all_changes (drop (i + 1) xs)) (from_next more).edits

  pub drawing_again : {after : ℕ} {t : List ℕ} → i < length xs → after ≡ marked_by marks (change_list (get_or xs i None)) → t ≡ draw (change_list (get_or xs i None)) s → Drawing asked before s₀ (drop (i + 1) xs) after t
  drawing_again more = drawing_on (get_or xs i None) (from_next more)

  pub all_drawn : length xs ≤ i → (marks ≡ marked_by before (all_changes asked)) × (s ≡ draw (all_changes asked) s₀)
  unfolding draw
  all_drawn past =
      let end = subst (λ (ys : List (Option Edit)). Drawing asked before s₀ ys marks s) (drop_all i xs past) r in
      (end.marks_are, end.cells_are)

pub ruleset drawings = (drawn_edit, draws_nothing, draws_one, marks_nothing, marks_one, edit_down, edit_bottom)
