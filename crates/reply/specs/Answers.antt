-- Paper 01, 'What comes back': when each status is given, over the type of the statuses. `done` is the status of a call that is not refused, `number` the papers' number of each, and `applies` the rule of each. Assumes nothing.
use Rattle.std.specs.Prelude.{ℕ, ◌<◌, ◌≡◌, List, [], ◌∷◌}

-- 'each is given exactly then'
pub record Exactly {Status : Type 0} (given status : Status) (P : Type 0) : Type 0 where
  pub only_when : given ≡ status → P
  pub whenever : P → given ≡ status

-- each status exactly when its rule applies and none before it does, and 0 exactly when none does
abbrev pub Each : {Status : Type 0} → Status → (Status → Type 0) → Type 0 → List Status → Status → Type 0
Each done applies NoneBefore [] given = Exactly given done NoneBefore
Each done applies NoneBefore (x ∷ xs) given = Exactly given x (NoneBefore × applies x) × Each done applies (NoneBefore × (applies x → ⊥)) xs given

-- the statuses' numbers rise
abbrev pub Rising : {Status : Type 0} → (Status → ℕ) → ℕ → List Status → Type 0
Rising number k [] = Unit {0}
Rising number k (x ∷ xs) = (k < number x) × Rising number (number x) xs

-- 'where several apply, the smallest number that the call can give is given'
pub record Answers {Status : Type 0} (done : Status) (number : Status → ℕ) (applies : Status → Type 0) (can : List Status) (given : Status) : Type 0 where
  pub rising : Rising number 0 can
  pub each : Each done applies (Unit {0}) can given
