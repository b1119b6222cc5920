-- What a block put back leaves: cell by cell, and outside the rectangle nothing new. Assumes nothing.
use Prim.Native.Nat.{ℕ, ◌≤◌, ◌<◌}
use mathlib.Core.Path.{◌≡◌, refl, sym, ◌∙◌}
use mathlib.Core.Logic.{⊎_elim}
use mathlib.Core.List.{List}
use native.Mathlib.Omega.{arith}
use lib.ListN.{length, get_or, get_or-eq_default}
use lib.Seq.{ext_get_or}
use Rattle.laws.specs.Tabulate.{length_tabulate, get_or_tabulate}
use Rattle.std.proofs.lemmas.Bool.{cases_lt}
use Rattle.laws.proofs.Tests.{by_test}
use Rattle.rectangle.specs.declared.Rect.{Rect}
use Rattle.rectangle.specs.Rectangles.{OnScreen, Within}
use Rattle.rectangle.specs.Cells.{Inside, inside}
use Rattle.rectangle.specs.Local.{Local}
use Rattle.rectangle.proofs.Edits.{inside?, decides_inside}
use Rattle.rectangle.proofs.Local.{within_inside}
use Rattle.block.specs.Block.{block_of, block_place, restored}
use Rattle.block.proofs.Rows.{block_at}

module _ (r : Rect) (block s : List ℕ) where
  pub length_restored : length (restored r block s) ≡ 1920
  unfolding restored
  length_restored = length_tabulate 1920 _

  -- a cell of the rectangle is the block's, and any other is as it was
  pub restored_inside : (i : ℕ) → i < 1920 → Inside r i → get_or (restored r block s) i 0 ≡ get_or block (block_place r i) 0
  unfolding restored
  restored_inside i h x = get_or_tabulate 1920 _ i h ∙ rw ((decides_inside r i).passes x)

  pub restored_outside : length s ≡ 1920 → (i : ℕ) → (Inside r i → ⊥) → get_or (restored r block s) i 0 ≡ get_or s i 0
  unfolding restored
  restored_outside l i out =
      ⊎_elim
      (λ h. get_or_tabulate 1920 _ i h ∙ by_test (λ b. b ≡ get_or s i 0) (inside r i) (λ e. absurd (out ((decides_inside r i).holds e))) (λ e. refl))
      (λ h. get_or-eq_default (restored r block s) 0 {n = i} (omega (arith, length_restored)) ∙ sym (get_or-eq_default s 0 (omega arith)))
      (cases_lt i 1920)

-- a block handed out and put straight back changes nothing
pub restore_returned : (r : Rect) (s : List ℕ) → OnScreen r → length s ≡ 1920 → restored r (block_of r s) s ≡ s
restore_returned r s fits l =
    ext_get_or 0 _ s (length_restored r (block_of r s) s ∙ sym l)
    (λ i h. ⊎_elim
    (λ x. restored_inside r (block_of r s) s i (omega arith) x ∙ block_at r s fits l i x)
    (λ out. restored_outside r (block_of r s) s l i out)
    (inside? r i))

-- putting a block back keeps to any rectangle that holds its own
pub restored_local : (r q : Rect) → Within r q → q.right ≤ 79 → q.bottom ≤ 23 → (block : List ℕ) → Local q (restored r block)
restored_local r q w right bottom block =
    record {
      len = λ s l. length_restored r block s;
      outside = λ s l i out. restored_outside r block s l i (λ x. out (within_inside w x));
      same = λ s t l l' agree i h. ⊎_elim
          (λ x. restored_inside r block s i (omega arith) x ∙ sym (restored_inside r block t i (omega arith) x))
          (λ out. restored_outside r block s l i out ∙ agree i h ∙ sym (restored_outside r block t l' i out))
          (inside? r i);
    }
