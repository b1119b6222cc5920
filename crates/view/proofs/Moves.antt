-- What the cursor's codes that wrap need besides choices. Assumes nothing.
use Prim.Native.Nat.{ℕ, ◌<◌}
use mathlib.Core.Path.{◌≡◌}
use mathlib.Core.Bool.{Bool, true, ◌&&◌}
use lib.Dec.{ltb}
use borrow.Author.Tests.{ltb-true}
use Rattle.laws.proofs.Tests.{and_right}

-- a wrap has a line to go to: the second of two joined tests, as a fact
pub and_below : (t : Bool) (a b : ℕ) → (t && ltb a b) ≡ true → a < b
and_below t a b h = ltb-true a b (and_right t (ltb a b) h)
