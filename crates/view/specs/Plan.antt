-- The plans of the code, as effects: the edits as a list. Assumes nothing.
use Rattle.std.specs.Prelude.{ℕ, List, [], ◌∷◌, ◌++◌, Option, Some, None}
use Rattle.rectangle.specs.declared.Edit.{Edit}
use Rattle.port.specs.declared.View.{View}
use Rattle.port.specs.Effect.{Effect}
use Rattle.view.specs.declared.ViewPlan.{ViewPlan}

-- at most one edit
abbrev pub change_list : Option Edit → List Edit
change_list None = []
change_list (Some e) = e ∷ []

-- at most so many, in their order
abbrev pub all_changes : List (Option Edit) → List Edit
all_changes [] = []
all_changes (c ∷ cs) = change_list c ++ all_changes cs

abbrev pub effect_of : {n : ℕ} → ViewPlan n → Effect
effect_of m = record { view = m.view; edits = all_changes m.edits }

-- the view alone, and with one edit
abbrev pub still : View → ViewPlan 1
still v = record { view = v; edits = None ∷ [] }

abbrev pub once : View → Edit → ViewPlan 1
once v e = record { view = v; edits = Some e ∷ [] }

-- an edit, and perhaps another after it
abbrev pub plan : View → Edit → Option Edit → ViewPlan 2
plan v e next = record { view = v; edits = Some e ∷ next ∷ [] }
