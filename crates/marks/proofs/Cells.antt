-- A line that is stored to has a cell in an edit's rectangle, and a cell on a line that is not stays. Assumes nothing.
use Prim.Native.Nat.{ℕ, ◌≤◌}
use mathlib.Core.Path.{◌≡◌, refl, sym, ◌∙◌}
use mathlib.Core.Bool.{true, false, true≢false}
use mathlib.Core.Logic.{◌⊎◌, inl, inr, ⊎_elim}
use mathlib.Core.List.{List, [], ◌∷◌}
use native.Mathlib.Omega.{arith}
use lib.Dec.{leb}
use lib.ListN.{length, get_or}
use borrow.Author.Tests.{leb-true, le-leb}
use Rattle.std.proofs.lemmas.Bool.{or_parts, cases_Bool, both_ways, and_from, or_left, or_right}
use Rattle.laws.proofs.Tests.{and_left, and_right}
use Rattle.rectangle.specs.declared.Rect.{Rect}
use Rattle.rectangle.specs.declared.Edit.{Edit}
use Rattle.rectangle.specs.Cells.{line_of, cell_index, Inside}
use Rattle.rectangle.specs.Rectangles.{Within}
use Rattle.rectangle.specs.Edit.{edited, draw}
use Rattle.rectangle.specs.Local.{AllWithin}
use Rattle.rectangle.proofs.Local.{length_edited, edit_local}
use Rattle.marks.specs.Marks.{has_line, stored_to}

-- the line of a cell of a rectangle
pub has_line_lem : (r : Rect) (k : ℕ) → Inside r k → has_line r (line_of k) ≡ true
unfolding has_line
has_line_lem r k x = and_from (leb r.top (line_of k)) (leb (line_of k) r.bottom) (le-leb _ _ x.from_top) (le-leb _ _ x.to_bottom)

-- and a cell of that line, in a rectangle of the screen that has it
pub line_cell : (q r : Rect) → q.right ≤ 79 → Within r q → (line : ℕ) → has_line r line ≡ true → (k : ℕ) × Inside r k × (line_of k ≡ line)
unfolding has_line
line_cell q r right w line has =
    let from = leb-true r.top line (and_left (leb r.top line) (leb line r.bottom) has) in
    let to = leb-true line r.bottom (and_right (leb r.top line) (leb line r.bottom) has) in
    (cell_index r.left line, omega arith, omega arith)

-- some edit's rectangle has cell k
abbrev pub Stored : List Edit → ℕ → Type 0
Stored [] k = ⊥
Stored (e ∷ es) k = Inside e.rect k ⊎ Stored es k

-- 'had a cell stored to': a line is stored to exactly if a cell of it is
pub cell_stored : (q : Rect) → q.right ≤ 79 → (es : List Edit) → AllWithin q es → (line : ℕ) → stored_to es line ≡ true → (k : ℕ) × Stored es k × (line_of k ≡ line)
unfolding stored_to
cell_stored q right [] all line is = absurd (true≢false (sym is))
cell_stored q right (e ∷ es) all line is =
    ⊎_elim
    (λ has. let c = line_cell q e.rect right all.0 line has in (c.0, inl c.1, c.2))
    (λ none. let c = cell_stored q right es all.1 line (rw none at is) in (c.0, inr c.1, c.2))
    (cases_Bool (has_line e.rect line))

pub line_stored : (es : List Edit) (k : ℕ) → Stored es k → stored_to es (line_of k) ≡ true
unfolding stored_to
line_stored [] k x = absurd x
line_stored (e ∷ es) k x =
    ⊎_elim (λ y. or_left (has_line e.rect (line_of k)) (stored_to es (line_of k)) (has_line_lem e.rect k y)) (λ y. or_right (has_line e.rect (line_of k)) (stored_to es (line_of k)) (line_stored es k y)) x

-- a cell on a line that is not stored to
pub cell_stays : (q : Rect) → q.right ≤ 79 → q.bottom ≤ 23 → (es : List Edit) → AllWithin q es → (s : List ℕ) → length s ≡ 1920 → (k : ℕ) → stored_to es (line_of k) ≡ false
    → get_or (draw es s) k 0 ≡ get_or s k 0
unfolding stored_to draw
cell_stays q right bottom [] all s len k none = refl
cell_stays q right bottom (e ∷ es) all s len k none =
    let w = all.0 in
    let r : Rect = e.rect in
    let first = (or_parts (has_line r (line_of k)) (stored_to es (line_of k)) none).0 in
    let rest = (or_parts (has_line r (line_of k)) (stored_to es (line_of k)) none).1 in
    let stays = (edit_local r r e.motion e.fill (omega arith) (omega arith) (omega arith)).outside s len k (λ x. both_ways _ first (has_line_lem r k x)) in
    cell_stays q right bottom es all.1 (edited r e.motion e.fill s) (length_edited r e.motion e.fill s) k rest ∙ stays
