-- Bytes of a buffer that are copied within it: the text with a byte put in, or taken out, laid over the buffer. Assumes nothing.
use Prim.Native.Nat.{ℕ, ◌+◌, ◌-◌, ◌≤◌, ◌<◌}
use mathlib.Core.Path.{◌≡◌, sym, ap, ◌∙◌}
use mathlib.Core.List.{List, [], ◌∷◌, ◌++◌}
use native.Mathlib.Omega.{arith}
use native.Mathlib.Numerals.{add-one}
use Rattle.std.proofs.lemmas.List.{append_assoc, set-append_left}
use lib.ListN.{length, set, take, drop, length-append, length-drop}
use lib.Seq.{length-take-le, take-set-lt, take-suc-set, paste}
use Rattle.editing.specs.Keys.{inserted, removed}
use Rattle.editing.specs.Buffer.{laid}
use Rattle.editing.proofs.Texts.{pasted_laid, inserted_front, removed_front}

-- a byte stored in front of a copy is copied with it
stored_front : (b s : List ℕ) (at n byte : ℕ) → at < length b → set (paste b (at + 1) s n) at byte ≡ paste b at (byte ∷ s) (n + 1)
stored_front b s at n byte h =
    let one : at < length (take (at + 1) b) = rw (length-take-le (at + 1) b (omega arith)) (omega arith) in
    let both : at < length (take (at + 1) b ++ take n s) = simp length-append (omega (arith, one)) in
    let place : at + 1 + n ≡ at + (n + 1) = omega arith in
    let head : set (take (at + 1) b) at byte ≡ take at b ++ (byte ∷ []) = sym (take-set-lt (at + 1) b at byte (omega arith)) ∙ rw (add-one at) (take-suc-set b at byte h) in
    set-append_left (take (at + 1) b ++ take n s) (drop (at + 1 + n) b) at byte both
    ∙ ap (λ (xs : List ℕ). xs ++ drop (at + 1 + n) b) (set-append_left (take (at + 1) b) (take n s) at byte one ∙ ap (λ (xs : List ℕ). xs ++ take n s) head ∙ append_assoc (take at b) (byte ∷ []) (take n s))
    ∙ rw (place, add-one n)

module _ (b b' : List ℕ) (size at : ℕ) where
  pub byte_inserted : (byte : ℕ) → at ≤ size → size < length b → b' ≡ paste b (at + 1) (drop at b) (size - at) → set b' at byte ≡ laid (inserted at byte (take size b)) b
  byte_inserted byte h inside e =
      let n : size - at + 1 ≡ size + 1 - at = omega arith in
      ap (λ (xs : List ℕ). set xs at byte) e
      ∙ stored_front b (drop at b) at (size - at) byte (omega arith)
      ∙ rw n
      (pasted_laid b (inserted at byte (take size b)) (byte ∷ drop at b) at (size + 1 - at) (omega arith) (simp length-drop (omega arith)) (inserted_front b size at (omega arith) byte h))

  pub byte_removed : (n : ℕ) → at < size → size ≤ length b → b' ≡ paste b at (drop (at + 1) b) (n - (at + 1)) → n ≡ size → b' ≡ laid (removed at (take size b)) b
  byte_removed n h inside e end =
      let moved : n - (at + 1) ≡ size - 1 - at = omega arith in
      e
      ∙ rw moved
      (pasted_laid b (removed at (take size b)) (drop (at + 1) b) at (size - 1 - at) (omega arith) (simp length-drop (omega arith)) (removed_front b size at inside h))
