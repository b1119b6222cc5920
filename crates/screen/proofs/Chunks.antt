-- Cells of one line copied to the same columns of another, chunk after chunk: one chunk more. Assumes nothing.
use Prim.Native.Nat.{ℕ, ◌+◌, ◌-◌, ◌≤◌, ◌<◌}
use mathlib.Core.Path.{◌≡◌, refl, ap, ◌∙◌}
use mathlib.Core.Logic.{⊎_elim}
use mathlib.Core.List.{List}
use native.Mathlib.Omega.{arith}
use lib.ListN.{get_or}
use Rattle.std.proofs.lemmas.Bool.{cases_lt}
use Rattle.rectangle.specs.Cells.{column_of}
use Rattle.screen.specs.Rewrite.{Copied}
use Rattle.screen.proofs.Rewrites.{ends, holds, then_over}

module _ (from to count : ℕ) (columns : column_of from ≡ column_of to) (one_line : column_of from + count ≤ 80) {s t : List ℕ} where
  -- a cell that is copied holds what it held: it lies in another line, or is copied to itself
  unstored : (done : ℕ) → done ≤ count → Copied s from to done s t → (j : ℕ) → from ≤ j → j < from + count → get_or t j 0 ≡ get_or s j 0
  unstored done most walk j low high =
      ⊎_elim (walk.low j)
      (λ h. ⊎_elim
      (λ x. walk.run j h x ∙ ap (λ (i : ℕ). get_or s i 0) (omega arith))
      (walk.high j) (cases_lt j (to + done)))
      (cases_lt j to)

  pub chunk_more : (size k done : ℕ) {u : List ℕ} → k ≤ done → done ≤ k + size → k + size ≤ count
      → Copied s from to done s t
      → Copied t (from + k) (to + k) size t u
      → Copied s from to (k + size) s u
  chunk_more size k done over meets small walk chunk =
      ends
      (then_over (omega arith) (omega arith) (omega arith) walk
      (holds chunk
      (λ i h x. let place : i - (to + k) + (from + k) ≡ i - to + from = omega arith in
      rw place (unstored done (omega arith) walk (i - to + from) (omega arith) (omega arith)))))
      refl (omega arith)

  -- the last chunk ends where the cells do
  pub all_copied : (size done : ℕ) {v u : List ℕ} → size ≤ count → count - size ≤ done → done ≤ count
      → Copied s from to done s t
      → v ≡ t
      → Copied v (from + (count - size)) (to + (count - size)) size v u
      → Copied s from to count s u
  all_copied size done small meets most walk same chunk = ends (chunk_more size (count - size) done meets (omega arith) (omega arith) walk (rw same at chunk)) refl (omega arith)
