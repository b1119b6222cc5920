-- Edits, and lists of edits, keep to a rectangle. What keeps to rectangles with no cell in common commutes. Assumes nothing.
use Prim.Native.Nat.{ℕ, ◌≤◌, ◌<◌}
use mathlib.Core.Path.{◌≡◌, refl, sym, ◌∙◌}
use mathlib.Core.Logic.{⊎_elim}
use mathlib.Core.List.{List, [], ◌∷◌, ◌++◌}
use native.Mathlib.Omega.{arith}
use borrow.Author.Rules.{rules}
use lib.ListN.{length, get_or, get_or-eq_default}
use lib.Seq.{ext_get_or}
use Rattle.laws.specs.Tabulate.{length_tabulate, get_or_tabulate}
use Rattle.std.proofs.lemmas.Bool.{cases_lt}
use Rattle.rectangle.specs.declared.Rect.{Rect}
use Rattle.rectangle.specs.declared.Edit.{Edit}
use Rattle.rectangle.specs.declared.Motion.{Motion}
use Rattle.rectangle.specs.Cells.{Inside}
use Rattle.rectangle.specs.Edit.{edited_cell, edited, draw, draw_cell}
use Rattle.rectangle.specs.Rectangles.{Within, Apart}
use Rattle.rectangle.specs.Local.{Local, AllWithin}
use Rattle.rectangle.proofs.Edits.{inside?, cell_outside, cell_same}

-- an edit, cell by cell
module _ (r : Rect) (m : Motion) (fill : ℕ) (s : List ℕ) where
  pub length_edited : length (edited r m fill s) ≡ 1920
  unfolding edited
  length_edited = length_tabulate 1920 _

  pub edited_at : (i : ℕ) → i < 1920 → get_or (edited r m fill s) i 0 ≡ edited_cell r m fill (λ k. get_or s k 0) i
  unfolding edited
  edited_at = get_or_tabulate 1920 _

  edited_past : (i : ℕ) → 1920 ≤ i → get_or (edited r m fill s) i 0 ≡ 0
  edited_past i h = get_or-eq_default (edited r m fill s) 0 {n = i} (omega (arith, length_edited))

-- rectangles within rectangles
pub within_inside : {r q : Rect} {i : ℕ} → Within r q → Inside r i → Inside q i
within_inside w h = search rules

pub all_append : (r : Rect) (a b : List Edit) → AllWithin r a → AllWithin r b → AllWithin r (a ++ b)
all_append r [] b of_a of_b = of_b
all_append r (e ∷ a) b of_a of_b = (of_a.0, all_append r a b of_a.1 of_b)

pub all_widen : (r q : Rect) → q.left ≤ r.left → r.right ≤ q.right → q.top ≤ r.top → r.bottom ≤ q.bottom
    → (es : List Edit)
    → AllWithin r es
    → AllWithin q es
all_widen r q left right top bottom [] all = tt
all_widen r q left right top bottom (e ∷ es) all = (search rules, all_widen r q left right top bottom es all.1)

-- changes that keep to a rectangle
pub local_then : (r : Rect) (f g : List ℕ → List ℕ) → Local r f → Local r g → Local r (λ s. g (f s))
local_then r f g of_f of_g =
    record {
      len = λ s l. of_g.len (f s) (of_f.len s l);
      outside = λ s l i out. of_g.outside (f s) (of_f.len s l) i out ∙ of_f.outside s l i out;
      same = λ s t l l' agree. of_g.same (f s) (f t) (of_f.len s l) (of_f.len t l') (of_f.same s t l l' agree);
    }

pub local_commute : (r q : Rect) (f g : List ℕ → List ℕ) → Apart r q → Local r f → Local q g → (s : List ℕ) → length s ≡ 1920 → f (g s) ≡ g (f s)
local_commute r q f g apart of_f of_g s l =
    ext_get_or 0 (f (g s)) (g (f s)) (of_f.len (g s) g_len ∙ sym (of_g.len (f s) f_len)) (λ i h. cell i)
  where
    f_len : length (f s) ≡ 1920
    f_len = of_f.len s l

    g_len : length (g s) ≡ 1920
    g_len = of_g.len s l

    -- in r both hold what f makes of s; in q, what g makes of it; elsewhere, what s holds
    cell : (i : ℕ) → get_or (f (g s)) i 0 ≡ get_or (g (f s)) i 0
    cell i =
        ⊎_elim
        (λ in_r. of_f.same (g s) s g_len l (λ k x. of_g.outside s l k (apart k x)) i in_r ∙ sym (of_g.outside (f s) f_len i (apart i in_r)))
        (λ off_r. of_f.outside (g s) g_len i off_r ∙ ⊎_elim
        (λ in_q. sym (of_g.same (f s) s f_len l (λ k x. of_f.outside s l k (λ y. apart k y x)) i in_q))
        (λ off_q. of_g.outside s l i off_q ∙ sym (of_f.outside s l i off_r) ∙ sym (of_g.outside (f s) f_len i off_q))
        (inside? q i))
        (inside? r i)

pub edit_local : (r q : Rect) (m : Motion) (fill : ℕ) → Within r q → q.right ≤ 79 → q.bottom ≤ 23 → Local q (edited r m fill)
edit_local r q m fill w right bottom =
    record {
      len = λ s l. length_edited r m fill s;
      outside = λ s l i out. ⊎_elim
          (λ h. edited_at r m fill s i h ∙ cell_outside r m fill _ i (λ x. out (within_inside w x)))
          (λ h. edited_past r m fill s i h ∙ sym (get_or-eq_default s 0 (omega arith)))
          (cases_lt i 1920);
      same = λ s t l l' agree i h.
          edited_at r m fill s i (omega arith)
          ∙ cell_same r m fill _ _ i (omega arith) (λ k x. agree k (within_inside w x)) (agree i h)
          ∙ sym (edited_at r m fill t i (omega arith));
    }

-- lists of edits
pub draw_append : (a b : List Edit) (s : List ℕ) → draw (a ++ b) s ≡ draw b (draw a s)
unfolding draw
draw_append [] b s = refl
draw_append (e ∷ a) b s = draw_append a b _

pub draw_local : (q : Rect) → q.right ≤ 79 → q.bottom ≤ 23 → (es : List Edit) → AllWithin q es → Local q (draw es)
unfolding draw
draw_local q right bottom [] all = record { len = λ s l. l; outside = λ s l i out. refl; same = λ s t l l' agree. agree }
draw_local q right bottom (e ∷ es) all =
    local_then q (edited e.rect e.motion e.fill) (draw es)
    (edit_local e.rect q e.motion e.fill all.0 right bottom)
    (draw_local q right bottom es all.1)

-- drawing over functions is drawing over lists: where old is what the cells of s hold, the one gives what the other gives
pub draw_cells : (q : Rect) → q.right ≤ 79 → q.bottom ≤ 23 → (es : List Edit) → AllWithin q es → (s : List ℕ) (old : ℕ → ℕ)
    → ((k : ℕ) → k < 1920 → get_or s k 0 ≡ old k)
    → (i : ℕ) → i < 1920 → get_or (draw es s) i 0 ≡ draw_cell es old i
unfolding draw draw_cell
draw_cells q right bottom [] all s old same = same
draw_cells q right bottom (e ∷ es) all s old same =
    draw_cells q right bottom es all.1 _ _
    (λ i h. edited_at e.rect e.motion e.fill s i h ∙ cell_same e.rect e.motion e.fill (λ k. get_or s k 0) old i (omega arith) (λ k x. same k (omega arith)) (same i h))
