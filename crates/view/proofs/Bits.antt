-- $15: a shift and a mask of 1 take one bit. Assumes nothing.
use Prim.Native.Nat.{ℕ}
use mathlib.Core.Path.{◌≡◌, ap}
use lib.Dec.{eqb}
use lib.Bits.{bit_and, and_mask}
use Rattle.port.specs.Codes.{bit_set}

pub low_bit : (n : ℕ) → eqb (bit_and n 1) 1 ≡ bit_set n
unfolding bit_set
low_bit n = ap (λ (k : ℕ). eqb k 1) (and_mask n 1)
