-- A walk over the lines of a rectangle: one line more is done, and all are; and a scroll of full lines at once. Assumes nothing.
use Prim.Native.Nat.{ℕ, ◌+◌, ◌-◌, ◌*◌, ◌≤◌, ◌<◌, min}
use mathlib.Core.Path.{◌≡◌, refl, sym, ap, ◌∙◌, subst}
use mathlib.Core.List.{List}
use native.Mathlib.Omega.{arith}
use borrow.Author.Rules.{rules}
use lib.ListN.{length, get_or}
use lib.Seq.{ext_get_or}
use Rattle.rectangle.specs.declared.Rect.{Rect}
use Rattle.rectangle.specs.declared.Motion.{Motion}
use Rattle.rectangle.specs.declared.Motion.TheVariants.{Up, Down, Left, Right}
use Rattle.rectangle.specs.Cells.{cell_index, line_of, Inside}
use Rattle.rectangle.specs.Rectangles.{OnScreen, width_of}
use Rattle.rectangle.specs.Edit.{origin, edited_cell, edited}
use Rattle.rectangle.proofs.Edits.{Vacated, cell_outside, cell_vacated, cell_moved}
use Rattle.rectangle.proofs.Local.{length_edited, edited_at}
use Rattle.screen.specs.Rewrite.{Rewritten, Relocated}
use Rattle.screen.proofs.Rewrites.{ends, holds, wider, then_after, then_before}

-- a line that moved from line i to line j, where these are k and l
pub between : (r : Rect) (i j : ℕ) {k l : ℕ} {s t : List ℕ} → Relocated (cell_index r.left j) (cell_index r.left j + width_of r) (λ n. n + 80 * i - 80 * j) s t → i ≡ k → j ≡ l
    → Relocated (cell_index r.left l) (cell_index r.left l + width_of r) (λ n. n + 80 * k - 80 * l) s t
between r i j {k} {l} {s} {t} moved from to =
    subst (λ (m : ℕ). Relocated (cell_index r.left l) (cell_index r.left l + width_of r) (λ n. n + 80 * m - 80 * l) s t) from
    (subst (λ (m : ℕ). Relocated (cell_index r.left m) (cell_index r.left m + width_of r) (λ n. n + 80 * i - 80 * m) s t) to moved)

-- what an edit of the screen s leaves in a cell
abbrev cell_of : Rect → Motion → ℕ → List ℕ → ℕ → ℕ
cell_of r m fill s = edited_cell r m fill (λ k. get_or s k 0)

-- lines first up to past are as the edit leaves them, and the others are as in s
abbrev pub Done : Rect → Motion → ℕ → ℕ → ℕ → List ℕ → List ℕ → Type 0
Done r m fill first past s t = Rewritten (80 * first) (80 * past) (cell_of r m fill s) s t

module _ (r : Rect) (m : Motion) (fill : ℕ) (s : List ℕ) where
  outside : (i : ℕ) → (Inside r i → ⊥) → get_or s i 0 ≡ cell_of r m fill s i
  outside i out = sym (cell_outside r m fill (λ k. get_or s k 0) i out)

  -- all lines are done
  pub all_done : {t : List ℕ} {past : ℕ} → past ≡ r.bottom + 1 → length s ≡ 1920 → OnScreen r
      → Done r m fill r.top past s t
      → t ≡ edited r m fill s
  all_done {t} is_past len fits walk =
      ext_get_or 0 t _ (walk.len ∙ len ∙ sym (length_edited r m fill s))
      (λ i h. let small : i < 1920 = omega (arith, walk.len) in everywhere.run i (omega arith) small ∙ sym (edited_at r m fill s i small))
    where
      everywhere : Rewritten 0 1920 (cell_of r m fill s) s t
      everywhere = wider walk (omega arith) (omega arith) (λ i p q. outside i (λ h. omega arith)) (λ i p q. outside i (λ h. omega arith))

-- line l of the rectangle, whose cells there are a up to e
module _ {r : Rect} (l : ℕ) (fits : OnScreen r) (top : r.top ≤ l) (bottom : l ≤ r.bottom) {a e : ℕ}
    (is_a : a ≡ 80 * l + r.left) (is_e : e ≡ 80 * l + (r.right + 1)) (fill : ℕ) (s : List ℕ) where
  here : (i : ℕ) → a ≤ i → i < e → Inside r i
  here i h k = search rules

  -- a run over places p up to q of these that fills cells, and one that moves cells whose origin o was not stored to so far
  module _ (m : Motion) {p q : ℕ} {t u : List ℕ} (from : a ≤ p) (to : q ≤ e) where
    fill_cells : Rewritten p q (λ i. fill) t u → ((i : ℕ) → p ≤ i → i < q → Vacated r m i) → Rewritten p q (cell_of r m fill s) t u
    fill_cells run vacant = holds run (λ i h k. sym (cell_vacated r m fill _ i (here i (omega arith) (omega arith)) (vacant i h k)))

    move_edit : (o : ℕ → ℕ) → Rewritten p q (λ i. get_or t (o i) 0) t u
        → ((i : ℕ) → p ≤ i → i < q → (Vacated r m i → ⊥) × (o i ≡ origin m i) × (get_or t (o i) 0 ≡ get_or s (o i) 0))
        → Rewritten p q (cell_of r m fill s) t u
    move_edit o run kept =
        holds run
        (λ i h k. let x = kept i h k in
        x.2 ∙ ap (λ j. get_or s j 0) x.1 ∙ sym (cell_moved r m fill (λ j. get_or s j 0) i (here i (omega arith) (omega arith)) x.0))

  module _ (m : Motion) {t u : List ℕ} where
    -- a run over all of these, said of the whole line
    whole_line : Rewritten a e (cell_of r m fill s) t u → ((i : ℕ) → line_of i ≡ l → get_or t i 0 ≡ get_or s i 0)
        → Rewritten (80 * l) (80 * (l + 1)) (cell_of r m fill s) t u
    whole_line run old =
        wider run (omega arith) (omega arith)
        (λ i h k. old i (omega arith) ∙ outside r m fill s i (λ x. omega arith))
        (λ i h k. old i (omega arith) ∙ outside r m fill s i (λ x. omega arith))

    -- with it one line more is done, below the others or above them
    below : Rewritten a e (cell_of r m fill s) t u → Done r m fill r.top l s t → Done r m fill r.top (l + 1) s u
    below run walk = then_after (omega arith) (omega arith) walk (whole_line run (λ i h. walk.high i (omega arith)))

    above : Rewritten a e (cell_of r m fill s) t u → (past : ℕ) → l < past → Done r m fill (l + 1) past s t → Done r m fill l past s u
    above run past h walk = then_before (omega arith) (omega arith) walk (whole_line run (λ i x. walk.low i (omega arith)))

    -- a line that is filled
    pub fill_below : Rewritten a e (λ i. fill) t u → ((i : ℕ) → line_of i ≡ l → Vacated r m i) → Done r m fill r.top l s t → Done r m fill r.top (l + 1) s u
    fill_below run vacant = below (fill_cells m (omega arith) (omega arith) run (λ i h k. vacant i (omega arith)))

    pub fill_above : Rewritten a e (λ i. fill) t u → ((i : ℕ) → line_of i ≡ l → Vacated r m i) → (past : ℕ) → l < past → Done r m fill (l + 1) past s t → Done r m fill l past s u
    fill_above run vacant = above (fill_cells m (omega arith) (omega arith) run (λ i h k. vacant i (omega arith)))

  -- a line of a scroll: a run moves the cells of the next line, or of the one before
  module _ {t u : List ℕ} where
    pub up_line : Relocated a e (λ i. i + 80 * (l + 1) - 80 * l) t u → l < r.bottom → Done r Up fill r.top l s t → Done r Up fill r.top (l + 1) s u
    unfolding origin
    up_line run within walk =
        below Up
        (move_edit Up (omega arith) (omega arith) _ run (λ i h k. ((λ v. omega arith), omega arith, walk.high _ (omega arith))))
        walk

    pub down_line : (k : ℕ) → l ≡ k + 1 → Relocated a e (λ i. i + 80 * k - 80 * l) t u → r.top < l → (past : ℕ) → l < past → Done r Down fill (l + 1) past s t → Done r Down fill l past s u
    unfolding origin
    down_line k next run within past x walk =
        above Down
        (move_edit Down (omega arith) (omega arith) _ run (λ i h k. ((λ v. omega arith), omega arith, walk.low _ (omega arith))))
        past x walk

  -- a line of a shift: one run moves cells, and another, beside it, fills
  module _ (count gap : ℕ) (is_gap : gap ≡ min count (r.right + 1 - r.left)) {b : ℕ} {t v u : List ℕ} where
    pub left_line : b ≡ e - gap
        → Rewritten a b (λ i. get_or t (i + gap) 0) t v
        → Rewritten b e (λ i. fill) v u
        → Done r (Left count) fill r.top l s t
        → Done r (Left count) fill r.top (l + 1) s u
    unfolding origin
    left_line is_b moves fills walk =
        below (Left count)
        (then_after (omega arith) (omega arith)
        (move_edit (Left count) (omega arith) (omega arith) _ moves (λ i h k. ((λ v. omega arith), omega arith, walk.high _ (omega arith))))
        (fill_cells (Left count) (omega arith) (omega arith) fills (λ i h k. omega arith)))
        walk

    pub right_line : b ≡ a + gap
        → Rewritten b e (λ i. get_or t (i - gap) 0) t v
        → Rewritten a b (λ i. fill) v u
        → Done r (Right count) fill r.top l s t
        → Done r (Right count) fill r.top (l + 1) s u
    unfolding origin
    right_line is_b moves fills walk =
        below (Right count)
        (then_before (omega arith) (omega arith)
        (move_edit (Right count) (omega arith) (omega arith) _ moves (λ i h k. ((λ v. omega arith), omega arith, walk.high _ (omega arith))))
        (fill_cells (Right count) (omega arith) (omega arith) fills (λ i h k. omega arith)))
        walk

-- a scroll of lines as wide as the screen: one run moves them all, and another fills the one that is vacated
module _ (r : Rect) (fits : OnScreen r) (wide : width_of r ≡ 80) (fill : ℕ) (s : List ℕ) (size : length s ≡ 1920) {a e b d : ℕ} {t u : List ℕ} where
  pub up_at_once : Rewritten a e (λ i. get_or s (i + 80) 0) s t
      → Rewritten b d (λ i. fill) t u
      → a ≡ 80 * r.top
      → e ≡ 80 * r.bottom
      → b ≡ 80 * r.bottom
      → d ≡ 80 * r.bottom + 80
      → u ≡ edited r Up fill s
  unfolding origin
  up_at_once moves fills is_a is_e is_b is_d =
      all_done r Up fill s refl size fits
      (fill_below r.bottom fits (omega arith) (omega arith) (omega arith) (omega arith) fill s Up fills (λ i h. h)
      (ends (holds moves (λ i h k. sym (cell_moved r Up fill (λ j. get_or s j 0) i (search rules) (λ v. omega arith)))) is_a is_e))

  pub down_at_once : Rewritten a e (λ i. get_or s (i - 80) 0) s t
      → Rewritten b d (λ i. fill) t u
      → a ≡ 80 * r.top + 80
      → e ≡ 80 * r.bottom + 80
      → b ≡ 80 * r.top
      → d ≡ 80 * r.top + 80
      → u ≡ edited r Down fill s
  unfolding origin
  down_at_once moves fills is_a is_e is_b is_d =
      all_done r Down fill s refl size fits
      (fill_above r.top fits (omega arith) (omega arith) (omega arith) (omega arith) fill s Down fills (λ i h. h) _ (omega arith)
      (ends (holds moves (λ i h k. sym (cell_moved r Down fill (λ j. get_or s j 0) i (search rules) (λ v. omega arith)))) (omega arith) (omega arith)))
