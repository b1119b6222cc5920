-- What it is for a change of the screen to keep to a rectangle. Assumes nothing.
use Rattle.std.specs.Prelude.{ℕ, ◌≡◌, List, [], ◌∷◌, length, get_or}
use Rattle.rectangle.specs.declared.Rect.{Rect}
use Rattle.rectangle.specs.declared.Edit.{Edit}
use Rattle.rectangle.specs.Cells.{Inside}
use Rattle.rectangle.specs.Rectangles.{Within}

-- two screens hold the same bytes in a rectangle
abbrev pub Agree : Rect → List ℕ → List ℕ → Type 0
Agree r s t = (i : ℕ) → Inside r i → get_or s i 0 ≡ get_or t i 0

-- a change of the screen changes no cell outside r, and what it leaves in r depends only on what was in r
pub record Local (r : Rect) (f : List ℕ → List ℕ) : Type 0 where
  pub len : (s : List ℕ) → length s ≡ 1920 → length (f s) ≡ 1920
  pub outside : (s : List ℕ) → length s ≡ 1920 → (i : ℕ) → (Inside r i → ⊥) → get_or (f s) i 0 ≡ get_or s i 0
  pub same : (s t : List ℕ) → length s ≡ 1920 → length t ≡ 1920 → Agree r s t → Agree r (f s) (f t)

-- every edit's rectangle lies in r
abbrev pub AllWithin : Rect → List Edit → Type 0
AllWithin r [] = Unit {0}
AllWithin r (e ∷ es) = Within e.rect r × AllWithin r es
