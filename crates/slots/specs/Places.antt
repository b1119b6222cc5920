-- The place that code answers with, as the number that the definitions have. Assumes nothing.
use Rattle.std.specs.Prelude.{ℕ, Option, Some, None}
use Rattle.slots.specs.declared.place.Place.{Place}

-- 4 where there is none
abbrev pub number_of : Option Place → ℕ
number_of (Some place) = place.index
number_of None = 4
