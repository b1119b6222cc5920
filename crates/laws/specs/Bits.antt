-- The bits of a number. Assumes nothing.
use Rattle.std.specs.Prelude.{ℕ, zero, suc, ◌+◌, ◌/◌, ◌%◌, ◌^◌, Bool, cond, eqb}

-- bit r is set; bit 0 is the lowest
unfoldable pub bit : ℕ → ℕ → Bool
bit n r = eqb (n / 2 ^ r % 2) 1

-- how many numbers below k pass a test
unfoldable pub count_below : ℕ → (ℕ → Bool) → ℕ
count_below zero test = 0
count_below (suc k) test = cond (test 0) 1 0 + count_below k (λ r. test (suc r))
