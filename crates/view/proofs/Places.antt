-- What the codes with parameters compute, in the definitions' words. Assumes nothing.
use Prim.Native.Nat.{ℕ, ◌+◌, ◌-◌, ◌<◌, min}
use mathlib.Core.Path.{◌≡◌, refl, sym, ap, ◌∙◌, subst}
use mathlib.Core.Bool.{Bool, true, false, cond, ◌&&◌}
use native.Mathlib.Omega.{arith}
use lib.Dec.{leb, ltb}
use borrow.Author.Tests.{leb-false}
use Rattle.laws.proofs.Tests.{by_test, and_left}
use Rattle.rectangle.specs.declared.Edit.{Edit}
use Rattle.rectangle.specs.declared.Motion.TheVariants.{Left}
use Rattle.rectangle.specs.Rectangles.{rect_of, OnScreen}
use Rattle.port.specs.declared.View.{View}
use Rattle.port.specs.State.{cursor_at}
use Rattle.port.specs.Effect.{becomes, move_edit}
use Rattle.port.specs.Codes.{set_vertical, set_horizontal, goto_xy, resize, print_spaces, dle_space_expansion}
use Rattle.view.specs.Place.{offset_from, space_count}

-- $05: 256 is no byte, so the code takes from 255 and adds one
pub back_by : {e : Edit} (v : View) (b : ℕ) → b < 256 → e ≡ move_edit v (Left (255 - b + 1)) → e ≡ move_edit v (Left (256 - b))
back_by v b h p = p ∙ ap (λ (n : ℕ). move_edit v (Left n)) (omega arith)

-- a cursor that is placed by a number is placed as the definition says: where the parameter is ignored, the view is as it was
chosen_place : (v : View) (at : ℕ → View) (own other : ℕ) (t : Bool) → at own ≡ v → at (cond t own other) ≡ cond t v (at other)
chosen_place v at own other true same = same
chosen_place v at own other false same = refl

pub line_placed : {u : View} (v : View) (b y : ℕ) → u ≡ cursor_at v v.column y → y ≡ offset_from v.viewport.top v.viewport.bottom v.line b → u ≡ set_vertical v b
unfolding set_vertical offset_from
line_placed v b y e p =
    e ∙ ap (cursor_at v v.column) p ∙ chosen_place v (cursor_at v v.column) v.line (min (v.viewport.top + (b - 32)) v.viewport.bottom) (ltb b 32) refl

pub column_placed : {u : View} (v : View) (b x : ℕ) → u ≡ cursor_at v x v.line → x ≡ offset_from v.viewport.left v.viewport.right v.column b → u ≡ set_horizontal v b
unfolding set_horizontal offset_from
column_placed v b x e p =
    let at : ℕ → View = λ n. cursor_at v n v.line in
    e ∙ ap at p ∙ chosen_place v at v.column (min (v.viewport.left + (b - 32)) v.viewport.right) (ltb b 32) refl

-- $02: the tests and the rectangle of what the code computes are the definition's
pub same_tests : {t : Bool} (a b c d a' b' c' d' : Bool) → a ≡ a' → b ≡ b' → c ≡ c' → d ≡ d' → ((a && b) && (c && d)) ≡ t
    → ((a' && b') && (c' && d')) ≡ t
same_tests a b c d a' b' c' d' p q r s e = cc

pub same_edges : {u : View} (v : View) (a b c d a' b' c' d' : ℕ) → a ≡ a' → b ≡ b' → c ≡ c' → d ≡ d' → u ≡ resize v (rect_of a b c d)
    → u ≡ resize v (rect_of a' b' c' d')
same_edges v a b c d a' b' c' d' p q r s e = cc

-- $1E: $14 leaves the viewport, so $06 may follow
pub after_column : {u : View} (v : View) (b : ℕ) → OnScreen v.viewport → u ≡ set_horizontal v b → OnScreen u.viewport
unfolding set_horizontal
after_column v b h e = subst (λ (w : View). OnScreen w.viewport) (sym e) (by_test (λ (w : View). OnScreen w.viewport) (ltb b 32) (λ _. h) (λ _. h))

pub then_line : {u w : View} (v : View) (column line : ℕ) → u ≡ set_horizontal v column → w ≡ set_vertical u line → w ≡ goto_xy v column line
then_line v column line p q = q ∙ ap (λ (x : View). set_vertical x line) p

-- $10: what the count comes to by the code's test, `dle & (32 <= b)`, and what printing as many spaces is
pub counted : (v : View) (b : ℕ) → (v.flags.dle && leb 32 b) ≡ true → b - 32 ≡ space_count v b
unfolding space_count
counted v b e = rw (and_left v.flags.dle (leb 32 b) e)

pub counted_none : (v : View) (b : ℕ) → (v.flags.dle && leb 32 b) ≡ false → 0 ≡ space_count v b
unfolding space_count
counted_none v b = none v.flags.dle
  where
    none : (t : Bool) → (t && leb 32 b) ≡ false → 0 ≡ cond t (b - 32) 0
    none true e = let small : b < 32 = leb-false 32 b e in omega arith
    none false e = refl

pub spaces_are : (v : View) (b : ℕ) → print_spaces (space_count v b) v ≡ dle_space_expansion v b
unfolding dle_space_expansion print_spaces space_count
spaces_are v b = chosen v.flags.dle
  where
    chosen : (t : Bool) → print_spaces (cond t (b - 32) 0) v ≡ cond t (print_spaces (b - 32) v) (becomes v)
    chosen true = refl
    chosen false = refl
