-- Elements taken from a place of a list on. Assumes nothing.
use Prim.Native.Nat.{ℕ, ◌+◌, ◌≤◌, ◌<◌}
use mathlib.Core.Path.{◌≡◌, ap, ◌∙◌}
use mathlib.Core.List.{List, [], ◌∷◌, ◌++◌}
use native.Mathlib.Nat.{add-zero}
use native.Mathlib.Numerals.{add-one}
use native.Mathlib.Omega.{arith}
use lib.ListN.{length, get_or, take, drop, length-drop}
use lib.Seq.{length-take-le, take-suc, get_or-drop}

-- one element more, at the end
pub one_taken : (xs : List ℕ) (from n : ℕ) → from + n < length xs
    → take (n + 1) (drop from xs) ≡ take n (drop from xs) ++ (get_or xs (from + n) 0 ∷ [])
one_taken xs from n h =
    let inside : n < length (drop from xs) = simp length-drop (omega arith) in rw (add-one, take-suc (drop from xs) n 0, get_or-drop)

pub alone_taken : (xs : List ℕ) (from : ℕ) → from < length xs → take 1 (drop from xs) ≡ get_or xs from 0 ∷ []
alone_taken xs from h = one_taken xs from 0 (omega arith) ∙ ap (λ (n : ℕ). get_or xs n 0 ∷ []) (add-zero from)

pub taken_length : (xs : List ℕ) (from n : ℕ) → from + n ≤ length xs → length (take n (drop from xs)) ≡ n
taken_length xs from n h = length-take-le n (drop from xs) (simp length-drop (omega arith))
