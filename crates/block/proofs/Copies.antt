-- The loops that copy: one row more, and all rows. Assumes nothing.
use Prim.Native.Nat.{ℕ, ◌+◌, ◌-◌, ◌*◌, ◌≤◌, ◌<◌}
use mathlib.Core.Path.{◌≡◌, refl, sym, ap, ◌∙◌}
use mathlib.Core.Logic.{⊎_elim}
use mathlib.Core.List.{List, ◌++◌}
use native.Mathlib.Nat.{mul_comm}
use native.Mathlib.Omega.{arith}
use lib.ListN.{length, get_or, set, take, drop, length-append, length-drop, get_or-append}
use lib.Seq.{ext_get_or, length-take-le, get_or-take, get_or-drop, get_or-append-add}
use borrow.Rule.Slice.PartMut.{mid_of, put_mid}
use Rattle.std.proofs.lemmas.Bool.{cases_lt}
use Rattle.rectangle.specs.declared.Rect.{Rect}
use Rattle.rectangle.specs.Rectangles.{OnScreen, width_of, height_of}
use Rattle.rectangle.specs.Cells.{Inside}
use Rattle.screen.specs.Rewrite.{Rewritten, Copied}
use Rattle.screen.proofs.Rewrites.{none, ends, holds, wider, then_after, one_after}
use Rattle.screen.proofs.Parts.{all_of, length_part, back}
use Rattle.block.specs.Block.{block_length, row_start, block_of, block_place, restored}
use Rattle.block.proofs.Rows.{row_fits, row_inside, length_block, block_row, place_of_row}
use Rattle.block.proofs.Restores.{length_restored, restored_inside, restored_outside}

-- t is the block b with, after its first two bytes, the cells that the screen s has in the rows before row
abbrev pub RowsOut : Rect → List ℕ → ℕ → List ℕ → List ℕ → Type 0
RowsOut r s row b t = Rewritten 2 (2 + row * width_of r) (λ i. get_or (block_of r s) i 0) b t

-- t is the screen s with, in the rows before row, the cells of the block
abbrev pub RowsIn : Rect → List ℕ → ℕ → List ℕ → List ℕ → Type 0
RowsIn r block row s t = Rewritten (80 * r.top) (80 * (r.top + row)) (λ i. get_or (restored r block s) i 0) s t

-- one row more: its start on the screen, and its part of a block, are as the code has them
module _ (r : Rect) (fits : OnScreen r) (row : ℕ) (h : row < height_of r)
    (start place end : ℕ) (is_start : start ≡ row_start r row) (is_place : place ≡ 2 + row * width_of r) (is_end : end ≡ place + width_of r) {t : List ℕ} where
  -- the part comes back with the row's cells
  pub row_out : (s : List ℕ) {b : List ℕ} (y : List ℕ) → length s ≡ 1920 → end ≤ length t
      → y ≡ take (length (mid_of place (end - place) t)) (drop start s)
      → RowsOut r s row b t
      → RowsOut r s (row + 1) b (put_mid place (end - place) t y)
  row_out s y l room is_y walk =
      then_after (omega arith) (omega arith) walk
      (ends (back place (end - place) t inside 0 (end - place) (λ i. get_or (block_of r s) i 0) (omega arith) (omega arith) (all_of size len) cell) (omega arith) (omega arith))
    where
      inside : place + (end - place) ≤ length t
      inside = omega arith

      size : length (mid_of place (end - place) t) ≡ end - place
      size = length_part place (end - place) t inside

      len : length y ≡ end - place
      len = ap length is_y ∙ length-take-le _ (drop start s) (simp length-drop (omega (arith, size, row_fits r row fits h))) ∙ size

      cell : (i : ℕ) → 0 ≤ i → i < end - place → get_or y i 0 ≡ get_or (block_of r s) (place + i) 0
      cell i low high =
          ap (λ (c : List ℕ). get_or c i 0) is_y ∙ get_or-take _ (drop start s) i 0 (omega (arith, size)) ∙ get_or-drop start s i 0
          ∙ rw (is_start, is_place) (sym (block_row r s fits l row i h (omega arith)))

  -- the row's cells become those of the part
  pub row_in : (block : List ℕ) {s u : List ℕ} → length s ≡ 1920 → end ≤ length block
      → Copied (take (end - place) (drop place block)) 0 start (length (take (end - place) (drop place block))) t u
      → RowsIn r block row s t
      → RowsIn r block (row + 1) s u
  unfolding row_start
  row_in block {s} {u} l room run walk =
      then_after (omega arith) (omega arith) walk
      (wider (holds (ends run refl (ap (λ (n : ℕ). start + n) size)) cell) (omega arith) (omega arith)
      (λ i low high. beside i low (λ x. omega arith))
      (λ i low high. beside i (omega arith) (λ x. omega arith)))
    where
      size : length (take (end - place) (drop place block)) ≡ end - place
      size = length-take-le (end - place) (drop place block) (simp length-drop (omega arith))

      beside : (i : ℕ) → 80 * (r.top + row) ≤ i → (Inside r i → ⊥) → get_or t i 0 ≡ get_or (restored r block s) i 0
      beside i low out = walk.high i low ∙ sym (restored_outside r block s l i out)

      cell : (i : ℕ) → start ≤ i → i < start + (end - place) → get_or (take (end - place) (drop place block)) (i - start + 0) 0 ≡ get_or (restored r block s) i 0
      cell i low high =
          let here : row_start r row + (i - start) ≡ i = omega arith in
          let small : i - start < width_of r = omega arith in
          let there : block_place r i ≡ place + (i - start + 0) = rw here at (place_of_row r row (i - start) fits h small) ∙ omega arith in
          get_or-take (end - place) (drop place block) (i - start + 0) 0 (omega arith) ∙ get_or-drop place block (i - start + 0) 0
          ∙ sym (restored_inside r block s i (omega (arith, row_fits r row fits h)) (rw here at (row_inside r row (i - start) fits h small)) ∙ ap (λ (k : ℕ). get_or block k 0) there)

-- all rows; a block's first two bytes are stored before them
written_front : (a s : List ℕ) {t : List ℕ} → length a ≤ length s → Rewritten 0 (length a) (λ i. get_or a i 0) s t → t ≡ a ++ drop (length a) s
written_front a s {t} le r =
    ext_get_or 0 t _ (simp (length-append, length-drop) (omega (arith, r.len)))
    (λ i h. ⊎_elim
    (λ x. r.run i (omega arith) x ∙ sym (get_or-append a _ 0 i x))
    (λ x. let place : length a + (i - length a) ≡ i = omega arith in
    r.high i x ∙ sym (rw place at (get_or-append-add a (drop (length a) s) (i - length a) 0 ∙ get_or-drop (length a) s (i - length a) 0)))
    (cases_lt i (length a)))

head_out : (r : Rect) (s b : List ℕ) {w h : ℕ} → 2 ≤ length b → w ≡ width_of r → h ≡ height_of r → Rewritten 0 2 (λ i. get_or (block_of r s) i 0) b (set (set b 0 w) 1 h)
unfolding block_of
head_out r s b room is_w is_h = one_after (one_after none (omega arith) (omega arith) is_w) (omega arith) (omega arith) is_h

pub all_out : (r : Rect) (s b : List ℕ) {t : List ℕ} {w h row : ℕ} → OnScreen r → length s ≡ 1920 → block_length r ≤ length b → w ≡ width_of r → h ≡ height_of r → row ≡ height_of r
    → RowsOut r s row (set (set b 0 w) 1 h) t
    → t ≡ block_of r s ++ drop (block_length r) b
unfolding block_length
all_out r s b {row = row} fits l room is_w is_h is_row walk =
    rw len at (written_front (block_of r s) b (omega (arith, len)) (ends (then_after (omega arith) (omega arith) (head_out r s b (omega arith) is_w is_h) walk) refl past))
  where
    len : length (block_of r s) ≡ block_length r
    len = length_block r s fits l

    past : 2 + row * width_of r ≡ length (block_of r s)
    past = ap (λ k. 2 + k * width_of r) is_row ∙ omega (arith, len, mul_comm (width_of r) (height_of r))

pub all_in : (r : Rect) (block s : List ℕ) {t : List ℕ} {row : ℕ} → OnScreen r → length s ≡ 1920 → row ≡ height_of r → RowsIn r block row s t → t ≡ restored r block s
all_in r block s {t} fits l is_row walk =
    ext_get_or 0 t _ (walk.len ∙ l ∙ sym (length_restored r block s)) (λ i h. everywhere.run i (omega arith) (omega (arith, walk.len)))
  where
    everywhere : Rewritten 0 1920 (λ i. get_or (restored r block s) i 0) s t
    everywhere =
        wider walk (omega arith) (omega arith)
        (λ i low high. sym (restored_outside r block s l i (λ x. omega arith)))
        (λ i low high. sym (restored_outside r block s l i (λ x. omega arith)))
