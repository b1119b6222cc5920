-- A table agrees with the range rule: a test of each of its entries, and the law that makes the rule of it. No number of the table stands here.
-- antt computes the test once, for this crate's table, in `Entries`. Assumes nothing.
use Prim.Native.Nat.{ℕ, zero, suc, ◌+◌, ◌*◌, ◌-◌, ◌/◌, ◌%◌, ◌≤◌, ◌<◌}
use mathlib.Core.Path.{◌≡◌, refl, ap, ◌∙◌, subst, sym}
use mathlib.Core.Bool.{Bool, true, false, cond, ◌&&◌}
use mathlib.Core.List.{List, [], ◌∷◌}
use native.Mathlib.Nat.{add-zero, add-suc, suc-add, le_of_suc-le-suc, not-suc-le-zero}
use native.Mathlib.Omega.{arith}
use lib.Dec.{T, eqb, eqb→eq}
use lib.ListN.{length, get_or, take, drop, length-drop}
use lib.Seq.{length-take-le, get_or-take, get_or-drop}
use Rattle.charset.specs.declared.Mode.{Mode}
use Rattle.charset.specs.declared.Mode.TheVariants.{Normal, Inverse, MouseText}
use Rattle.charset.specs.Stored.{Agrees, IsRow, row_of, stored_byte}

both_left : (a b : Bool) → T (a && b) → T a
both_left true b t = tt
both_left false b t = t

both_right : (a b : Bool) → T (a && b) → T b
both_right true b t = t
both_right false b t = absurd t

-- the test f passes at each entry, with its place counted from i
abbrev pub every : (ℕ → ℕ → Bool) → ℕ → List ℕ → Bool
every f i [] = true
every f i (x ∷ xs) = f i x && every f (suc i) xs

every_at : (f : ℕ → ℕ → Bool) (xs : List ℕ) (i : ℕ) → T (every f i xs) → (k : ℕ) → k < length xs → T (f (i + k) (get_or xs k 0))
every_at f [] i t k h = absurd (not-suc-le-zero h)
every_at f (x ∷ xs) i t zero h = subst (λ (m : ℕ). T (f m x)) (sym (add-zero i)) (both_left (f i x) (every f (suc i) xs) t)
every_at f (x ∷ xs) i t (suc k) h =
    subst (λ (m : ℕ). T (f m (get_or xs k 0))) (suc-add i k ∙ sym (add-suc i k))
    (every_at f xs (suc i) (both_right (f i x) (every f (suc i) xs) t) k (le_of_suc-le-suc h))

-- the mode of a row
abbrev pub mode_at : ℕ → Mode
mode_at row = cond (eqb row 0) Normal (cond (eqb row 1) Inverse MouseText)

row_mode : (mode : Mode) → (mode_at (row_of mode) ≡ mode) × (row_of mode < 3)
unfolding row_of
row_mode Normal = (refl, omega arith)
row_mode Inverse = (refl, omega arith)
row_mode MouseText = (refl, omega arith)

-- entry k is the stored byte of code k % 256 in the mode of row k / 256
abbrev pub right : ℕ → ℕ → Bool
right k x = eqb x (stored_byte (mode_at (k / 256)) (k % 256))

pub agrees : (table : List ℕ) → length table ≡ 768 → T (every right 0 table) → Agrees table
agrees table len test = record { entry = at_entry }
  where
    at_entry : (mode : Mode) (code : ℕ) → code < 256 → get_or table (256 * row_of mode + code) 0 ≡ stored_byte mode code
    at_entry mode code small =
        let row = row_mode mode in
        let entry : ℕ = 256 * row_of mode + code in
        let in_row : (0 + entry) / 256 ≡ row_of mode = omega arith in
        let at_code : (0 + entry) % 256 ≡ code = omega arith in
        eqb→eq _ _ (every_at right table 0 test entry (omega arith)) ∙ (λ i. stored_byte (mode_at (in_row i)) (at_code i)) ∙ ap (λ (m : Mode). stored_byte m code) row.0

-- the 256 entries of a table from a mode's start on are its row
pub row_at : (table : List ℕ) (mode : Mode) (start end : ℕ) → length table ≡ 768 → Agrees table → start ≡ 256 * row_of mode → start ≤ 512 → end ≡ start + 256
    → IsRow mode (take (end - start) (drop start table))
row_at table mode start end len a e small is_end =
    let size : end - start ≡ 256 = omega arith in
    record {
      size = rw size (length-take-le 256 (drop start table) (simp length-drop (omega arith)));
      entry = λ code h. rw size (get_or-take 256 (drop start table) code 0 h ∙ get_or-drop start table code 0 ∙ rw e (a.entry mode code h));
    }
