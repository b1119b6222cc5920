-- The tests of a rectangle are true exactly when paper 01's clauses hold. Assumes nothing.
use Prim.Native.Nat.{◌≤◌}
use mathlib.Core.Path.{◌≡◌, ap}
use native.Mathlib.Omega.{arith}
use Rattle.laws.proofs.Tests.{Decides, decides_lt, decides_le, decides_eq, decides_both, decides_as}
use Rattle.rectangle.specs.declared.Rect.{Rect}
use Rattle.rectangle.specs.Rectangles.{rect_of, OnScreen, legal, Legal, within, is_zero_rect}

pub decides_legal : (r : Rect) → Decides (legal r) (Legal r)
unfolding legal
decides_legal r =
    decides_as (decides_both (decides_both (decides_lt _ _) (decides_le _ _)) (decides_both (decides_lt _ _) (decides_le _ _)))
    (λ k. record { wide = k.0.0; right_in = k.0.1; tall = k.1.0; bottom_in = k.1.1 })
    (λ h. ((h.wide, h.right_in), (h.tall, h.bottom_in)))

-- a legal rectangle lies on the screen
pub legal_on_screen : (r : Rect) → Legal r → OnScreen r
legal_on_screen r h = omega arith

-- each edge of one rectangle is in the other
abbrev pub Edges : Rect → Rect → Type 0
Edges inner outer = ((outer.left ≤ inner.left) × (inner.right ≤ outer.right)) × ((outer.top ≤ inner.top) × (inner.bottom ≤ outer.bottom))

pub decides_within : (inner outer : Rect) → Decides (within inner outer) (Edges inner outer)
unfolding within
decides_within inner outer = decides_both (decides_both (decides_le _ _) (decides_le _ _)) (decides_both (decides_le _ _) (decides_le _ _))

pub decides_zero_rect : (r : Rect) → Decides (is_zero_rect r) (r ≡ rect_of 0 0 0 0)
unfolding is_zero_rect
decides_zero_rect r =
    decides_as (decides_both (decides_both (decides_eq _ _) (decides_eq _ _)) (decides_both (decides_eq _ _) (decides_eq _ _)))
    (λ k i. rect_of (k.0.0 i) (k.0.1 i) (k.1.0 i) (k.1.1 i))
    (λ e. ((ap (λ (x : Rect). x.left) e, ap (λ (x : Rect). x.top) e), (ap (λ (x : Rect). x.right) e, ap (λ (x : Rect). x.bottom) e)))
