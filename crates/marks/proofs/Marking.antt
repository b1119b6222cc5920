-- What is marked as a number is marked line by line. Assumes nothing.
use Prim.Native.Nat.{ℕ, suc, ◌+◌, ◌-◌, ◌*◌, ◌%◌, ◌^◌, ◌≤◌, ◌<◌}
use mathlib.Core.Path.{◌≡◌, refl, sym, ap, ◌∙◌}
use mathlib.Core.Bool.{Bool, true, false, cond, ◌&&◌, ◌||◌, true≢false}
use mathlib.Core.Logic.{◌⊎◌, inl, inr}
use mathlib.Core.List.{List, [], ◌∷◌, ◌++◌}
use native.Mathlib.Omega.{arith}
use native.Mathlib.Nat.{mul-le-mul, pow-suc}
use lib.Dec.{leb, ltb, eqb, leb-suc-suc, lit<}
use borrow.Author.Tests.{leb-true, le-leb}
use lib.Bits.{bit_or, or_add_and, and_le_r}
use lib.Count.{ones}
use lib.Pow.{pow_pos, pow_mono, shl_exact}
use Rattle.laws.proofs.Bits.{same_bits, bit_of_or, bit_stretch, bit_none, ones_count}
use Rattle.std.proofs.lemmas.Bool.{cases_Bool, both_ways}
use Rattle.laws.proofs.Tests.{and_left, and_right, Decides, decides_eq, decides_as}
use Rattle.rectangle.specs.declared.Rect.{Rect}
use Rattle.rectangle.specs.declared.Edit.{Edit}
use Rattle.rectangle.specs.Rectangles.{Legal, legal}
use Rattle.rectangle.specs.Local.{AllWithin}
use Rattle.rectangle.proofs.Rectangles.{decides_legal}
use Rattle.marks.specs.Marks.{is_marked, has_line, stored_to, no_marks, line_marks, marked, marked_in, marked_by, line_count, within_lines, WithinLines}

-- ---- line by line
-- the lines from top to bottom
line_marked : (top bottom line : ℕ) → is_marked (line_marks top bottom) line ≡ (leb top line && leb line bottom)
line_marked top bottom line = bit_stretch top (bottom + 1) line ∙ ap (λ (t : Bool). leb top line && t) (ltb_leb line bottom)
  where
    ltb_leb : (a b : ℕ) → ltb a (b + 1) ≡ leb a b
    ltb_leb a b = let next : b + 1 ≡ suc b = omega arith in ap (ltb a) next ∙ leb-suc-suc a b

pub marked_line : (marks top bottom line : ℕ) → is_marked (marked marks top bottom) line ≡ (is_marked marks line || (leb top line && leb line bottom))
unfolding marked
marked_line marks top bottom line = bit_of_or marks (line_marks top bottom) line ∙ ap (λ (t : Bool). is_marked marks line || t) (line_marked top bottom line)

pub marked_in_lem : (marks : ℕ) (r : Rect) (line : ℕ) → is_marked (marked_in marks r) line ≡ (is_marked marks line || has_line r line)
unfolding has_line
marked_in_lem marks r line = marked_line marks r.top r.bottom line

-- a line is marked after edits exactly if one of them stored to it, or if it was marked before
pub marked_by_lem : (marks : ℕ) (es : List Edit) (line : ℕ) → is_marked (marked_by marks es) line ≡ (is_marked marks line || stored_to es line)
unfolding stored_to
marked_by_lem marks [] line = nothing_more (is_marked marks line)
  where
    nothing_more : (t : Bool) → t ≡ (t || false)
    nothing_more true = refl
    nothing_more false = refl
marked_by_lem marks (e ∷ es) line =
    marked_by_lem (marked_in marks e.rect) es line ∙ ap (λ (t : Bool). t || stored_to es line) (marked_in_lem marks e.rect line)
    ∙ or_assoc (is_marked marks line) (has_line e.rect line) (stored_to es line)
  where
    or_assoc : (a b c : Bool) → ((a || b) || c) ≡ (a || (b || c))
    or_assoc true b c = refl
    or_assoc false b c = refl

-- edits one after another
pub marked_append : (marks : ℕ) (es fs : List Edit) → marked_by marks (es ++ fs) ≡ marked_by (marked_by marks es) fs
marked_append marks [] fs = refl
marked_append marks (e ∷ es) fs = marked_append (marked_in marks e.rect) es fs

-- the same lines once more
pub marked_again : (marks top bottom : ℕ) → marked (marked marks top bottom) top bottom ≡ marked marks top bottom
marked_again marks top bottom = same_bits _ _ (λ line. marked_line (marked marks top bottom) top bottom line ∙ absorbed line)
  where
    absorb : (a b : Bool) → ((a || b) || b) ≡ (a || b)
    absorb true b = refl
    absorb false true = refl
    absorb false false = refl

    absorbed : (line : ℕ) → (is_marked (marked marks top bottom) line || (leb top line && leb line bottom)) ≡ is_marked (marked marks top bottom) line
    absorbed line =
        let is = marked_line marks top bottom line in
        ap (λ (t : Bool). t || (leb top line && leb line bottom)) is ∙ absorb (is_marked marks line) (leb top line && leb line bottom) ∙ sym is

-- ---- as numbers
-- the lines of the screen
lines_small : (top bottom : ℕ) → bottom ≤ 23 → line_marks top bottom < 2 ^ 24
lines_small top bottom h = let few : bottom + 1 ≤ 24 = omega arith in let k : 2 ^ (bottom + 1) ≤ 2 ^ 24 = pow_mono few in let z = pow_pos top in omega arith

at_most : (marks lines : ℕ) → marks ≤ bit_or marks lines
at_most marks lines = let both = or_add_and marks lines in let h = and_le_r marks lines in omega arith

-- marks lie in a rectangle's lines exactly if these add all of them
module _ (marks : ℕ) (r : Rect) where
  lines : ℕ
  lines = line_marks r.top r.bottom

  inside_lines : marked_in marks r ≡ lines → WithinLines marks r
  unfolding lines
  inside_lines same line is =
      let is_line : (leb r.top line && leb line r.bottom) ≡ true =
      sym (line_marked r.top r.bottom line) ∙ ap (λ (n : ℕ). is_marked n line) (sym same) ∙ marked_line marks r.top r.bottom line ∙ simp is in
      (leb-true r.top line (and_left (leb r.top line) (leb line r.bottom) is_line), leb-true line r.bottom (and_right (leb r.top line) (leb line r.bottom) is_line))

  same_lines : WithinLines marks r → marked_in marks r ≡ lines
  unfolding lines
  same_lines within =
      same_bits _ _ λ line.
      marked_line marks r.top r.bottom line ∙ covered line (cases_Bool (is_marked marks line)) ∙ sym (line_marked r.top r.bottom line)
    where
      covered : (line : ℕ) → (is_marked marks line ≡ true) ⊎ (is_marked marks line ≡ false) → (is_marked marks line || (leb r.top line && leb line r.bottom)) ≡ (leb r.top line && leb line r.bottom)
      covered line (inl is) = let at = within line is in simp (is, le-leb r.top line at.0, le-leb line r.bottom at.1)
      covered line (inr is) = simp is

  decides_lines : Decides (eqb (marked_in marks r) (line_marks r.top r.bottom)) (WithinLines marks r)
  unfolding lines
  decides_lines = decides_as (decides_eq _ _) inside_lines same_lines

  pub decides_within_lines : Decides (within_lines marks r) (Legal r × WithinLines marks r)
  unfolding within_lines
  decides_within_lines = choose (legal r) refl
    where
      choose : (t : Bool) → legal r ≡ t → Decides (cond t (eqb (marked_in marks r) (line_marks r.top r.bottom)) false) (Legal r × WithinLines marks r)
      choose true e = decides_as decides_lines (λ w. ((decides_legal r).holds e, w)) (λ h. h.1)
      choose false e = record { holds = λ f. absurd (true≢false (sym f)); passes = λ h. absurd (both_ways _ e ((decides_legal r).passes h.0)) }

  -- so they are lines of the screen
  pub within_small : r.bottom ≤ 23 → WithinLines marks r → marks < 2 ^ 24
  unfolding lines marked
  within_small h within =
      let same = same_lines within in
      let few = at_most marks (line_marks r.top r.bottom) in
      let small = lines_small r.top r.bottom h in
      omega arith

pub none_within : (r : Rect) → WithinLines no_marks r
none_within r line is = absurd (both_ways _ (bit_none line) is)

-- what is stored to inside a rectangle is marked inside it
pub rect_within : (marks : ℕ) (home r : Rect) → home.top ≤ r.top → r.bottom ≤ home.bottom → WithinLines marks home → WithinLines (marked_in marks r) home
unfolding has_line
rect_within marks home r top bottom w line is = added (cases_Bool (is_marked marks line))
  where
    added : (is_marked marks line ≡ true) ⊎ (is_marked marks line ≡ false) → (home.top ≤ line) × (line ≤ home.bottom)
    added (inl before) = w line before
    added (inr before) =
        let is_line : (leb r.top line && leb line r.bottom) ≡ true = rw before at (sym (marked_in_lem marks r line) ∙ is) in
        let from = leb-true r.top line (and_left (leb r.top line) (leb line r.bottom) is_line) in
        let to = leb-true line r.bottom (and_right (leb r.top line) (leb line r.bottom) is_line) in
        (omega arith, omega arith)

pub marked_within : (marks : ℕ) (home : Rect) (es : List Edit) → AllWithin home es → WithinLines marks home → WithinLines (marked_by marks es) home
marked_within marks home [] all w = w
marked_within marks home (e ∷ es) all w = let h = all.0 in marked_within (marked_in marks e.rect) home es all.1 (rect_within marks home e.rect h.top_in h.bottom_in w)

-- ---- the code
-- small numbers, shifted in 32 bits
shifted : (a n : ℕ) → a < 16 → n ≤ 23 → (a * 2 ^ n) % 4294967296 ≡ a * 2 ^ n
shifted a n small on_screen = let fits : 4 + n ≤ 32 = omega arith in shl_exact 4 n 32 small fits

pub top_below : (a b top bottom : ℕ) → a ≤ b → b < 16 → top ≤ bottom → bottom ≤ 23 → (a * 2 ^ top) % 4294967296 ≤ (b * 2 ^ bottom) % 4294967296
top_below a b top bottom few small down on_screen =
    let less : a < 16 = omega arith in
    let above : top ≤ 23 = omega arith in
    let first = shifted a top less above in
    let second = shifted b bottom small on_screen in
    let h : a * 2 ^ top ≤ b * 2 ^ bottom = mul-le-mul few (pow_mono down) in
    omega arith

pub lines_shifted : (top bottom : ℕ) → top ≤ bottom → bottom ≤ 23 → (2 * 2 ^ bottom) % 4294967296 - (1 * 2 ^ top) % 4294967296 ≡ line_marks top bottom
lines_shifted top bottom down on_screen =
    let above : top ≤ 23 = omega arith in
    let next : bottom + 1 ≡ suc bottom = omega arith in
    let twice = pow-suc 2 bottom in
    let end : 2 * 2 ^ bottom ≡ 2 ^ suc bottom = omega arith in
    let start : 1 * 2 ^ top ≡ 2 ^ top = omega arith in
    λ i. (shifted 2 bottom (lit< tt) on_screen ∙ end ∙ ap (λ (n : ℕ). 2 ^ n) (sym next)) i - (shifted 1 top (lit< tt) above ∙ start) i

pub marked_as : (marks top bottom : ℕ) {lines : ℕ} → lines ≡ line_marks top bottom → bit_or marks lines ≡ marked marks top bottom
unfolding marked
marked_as marks top bottom is = ap (bit_or marks) is

-- the test of a legal rectangle, and of another
module _ (marks : ℕ) (r : Rect) (test : Bool) (is : test ≡ legal r) where
  pub legal_lines : test ≡ true → (r.top ≤ r.bottom) × (r.bottom ≤ 23)
  legal_lines t = let h = (decides_legal r).holds (sym is ∙ t) in (omega arith, h.bottom_in)

  pub lines_tested : {lines : ℕ} → test ≡ true → lines ≡ line_marks r.top r.bottom → eqb (bit_or marks lines) lines ≡ within_lines marks r
  unfolding within_lines marked
  lines_tested t same = simp (sym is ∙ t) (ap (λ (n : ℕ). eqb (bit_or marks n) n) same)

  pub not_tested : test ≡ false → false ≡ within_lines marks r
  unfolding within_lines
  not_tested t = simp (sym is ∙ t)

-- ones are ones-counted as lines
pub ones_counted : (marks : ℕ) {n : ℕ} → marks < 2 ^ 24 → n ≡ ones marks → n ≡ line_count marks
unfolding line_count
ones_counted marks small is = is ∙ ones_count 24 marks small
