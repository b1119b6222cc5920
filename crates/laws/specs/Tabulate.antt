-- A list given by its length and a function from the place to the element. Assumes nothing.
use Rattle.std.specs.Prelude.{ℕ, zero, suc, ◌<◌, ◌≡◌, refl, List, [], ◌∷◌, length, get_or}
use Rattle.std.proofs.Common.{ap, le_of_suc-le-suc, not-suc-le-zero}

-- the list f 0, f 1, .. of n elements
pub tabulate : ℕ → (ℕ → ℕ) → List ℕ
tabulate zero f = []
tabulate (suc n) f = f zero ∷ tabulate n (λ i. f (suc i))

pub length_tabulate : (n : ℕ) (f : ℕ → ℕ) → length (tabulate n f) ≡ n
unfolding tabulate
length_tabulate zero f = refl
length_tabulate (suc n) f = ap suc (length_tabulate n (λ i. f (suc i)))

pub get_or_tabulate : (n : ℕ) (f : ℕ → ℕ) (i : ℕ) → i < n → get_or (tabulate n f) i 0 ≡ f i
unfolding tabulate
get_or_tabulate zero f i h = absurd (not-suc-le-zero h)
get_or_tabulate (suc n) f zero h = refl
get_or_tabulate (suc n) f (suc i) h = get_or_tabulate n (λ k. f (suc k)) i (le_of_suc-le-suc h)
