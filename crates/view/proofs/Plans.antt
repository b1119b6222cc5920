-- What `still`, `once` and `plan` return, as effects, and the erasing of an equal rectangle. Assumes nothing.
use mathlib.Core.Path.{◌≡◌, ap, ◌∙◌}
use mathlib.Core.List.{List, [], ◌∷◌}
use Rattle.std.specs.Prelude.{Some, None}
use Rattle.rectangle.specs.declared.Rect.{Rect}
use Rattle.rectangle.specs.declared.Edit.{Edit}
use Rattle.port.specs.declared.View.{View}
use Rattle.port.specs.Effect.{becomes, draws, erase_edit}
use Rattle.view.specs.declared.ViewPlan.{ViewPlan}
use Rattle.view.specs.Plan.{effect_of, still, once, plan}

pub still_is : {r : ViewPlan 1} {u v : View} → r ≡ still u → u ≡ v → effect_of r ≡ becomes v
still_is p q = ap effect_of p ∙ ap becomes q

pub once_is : {r : ViewPlan 1} {u v : View} {d e : Edit} → r ≡ once u d → u ≡ v → d ≡ e → effect_of r ≡ draws v (e ∷ [])
once_is p q s = ap effect_of p ∙ (λ i. draws (q i) (s i ∷ []))

-- an edit alone, and two of them
pub plan_one : {r : ViewPlan 2} {v : View} {d e : Edit} {es : List Edit} → r ≡ plan v d None → d ≡ e → e ∷ [] ≡ es → effect_of r ≡ draws v es
plan_one {v = v} p q same = ap effect_of p ∙ ap (λ (x : Edit). draws v (x ∷ [])) q ∙ ap (draws v) same

pub plan_two : {r : ViewPlan 2} {v : View} {c d e f : Edit} → r ≡ plan v c (Some d) → c ≡ e → d ≡ f → effect_of r ≡ draws v (e ∷ f ∷ [])
plan_two {v = v} p q s = ap effect_of p ∙ (λ i. draws v (q i ∷ s i ∷ []))

pub erase_of : {e : Edit} {r q : Rect} (v : View) → e ≡ erase_edit v r → r ≡ q → e ≡ erase_edit v q
erase_of v p q = p ∙ ap (erase_edit v) q

pub ruleset plans = (still_is, once_is, plan_one, erase_of)
