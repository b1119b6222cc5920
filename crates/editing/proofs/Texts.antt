-- The text in front of a buffer, and a text laid over it. Assumes nothing.
use Prim.Native.Nat.{ℕ, zero, suc, ◌+◌, ◌-◌, ◌≤◌, ◌<◌}
use mathlib.Core.Path.{◌≡◌, refl, ◌∙◌}
use mathlib.Core.List.{List, [], ◌∷◌, ◌++◌}
use native.Mathlib.Numerals.{unary_clauses}
use native.Mathlib.Omega.{arith}
use lib.ListN.{length, take, drop, length-append, length-drop, take-append-drop}
use lib.Seq.{drop-append-add, drop-drop, length-take-le, take-nil, drop-nil, take-take, take-length, take_at, length_paste_head, paste}
use Rattle.editing.specs.declared.State.{State}
use Rattle.editing.specs.Keys.{Content, inserted, removed}
use Rattle.editing.specs.Buffer.{laid, content_of, state_of}

-- a part of a front
drop_take : (n m : ℕ) (b : List ℕ) → drop n (take m b) ≡ take (m - n) (drop n b)
drop_take zero m b = simp unary_clauses
drop_take (suc n) zero b = let none : zero - suc n ≡ zero = omega arith in rw none
drop_take (suc n) (suc m) [] = simp (take-nil, drop-nil)
drop_take (suc n) (suc m) (x ∷ b) = simp unary_clauses (drop_take n m b)

-- lengths of an edited text
pub length_inserted : (text : List ℕ) (at byte : ℕ) → at ≤ length text → length (inserted at byte text) ≡ length text + 1
length_inserted text at byte h = simp (length-append, length-take-le at text h, length-drop) (omega arith)

pub length_removed : (text : List ℕ) (at : ℕ) → at < length text → length (removed at text) ≡ length text - 1
length_removed text at h = let le : at ≤ length text = omega arith in simp (length-append, length-take-le at text le, length-drop) (omega arith)

-- a front of the buffer, laid over it, is there already
pub laid_front : (n : ℕ) (b : List ℕ) → n ≤ length b → laid (take n b) b ≡ b
unfolding laid
laid_front n b h = rw (length-take-le n b h) (take-append-drop n b)

pub length_laid : (text b : List ℕ) → length text ≤ length b → length (laid text b) ≡ length b
unfolding laid
length_laid text b h = simp (length-append, length-drop) (omega arith)

-- the text is in front of what it is laid over
pub take_laid : (text b : List ℕ) → take (length text) (laid text b) ≡ text
unfolding laid
take_laid text b = take_at text (drop (length text) b) (length text) refl

-- a text that is laid over a buffer changes no byte behind it
pub behind_laid : (text b : List ℕ) (n : ℕ) → length text ≤ n → drop n (laid text b) ≡ drop n b
unfolding laid
behind_laid text b n h =
    let place : length text + (n - length text) ≡ n = omega arith in
    rw place at (drop-append-add text (drop (length text) b) (n - length text) ∙ drop-drop (n - length text) (length text) b)

-- from a state to its text and back, and from a text that was laid over the buffer
pub state_content : (state : State) (b : List ℕ) → state.length ≤ length b → state_of (content_of state b) ≡ state
state_content state b h = rw (length-take-le state.length b h)

pub content_laid : (c : Content) (b : List ℕ) → content_of (state_of c) (laid c.text b) ≡ c
content_laid c b = rw (take_laid c.text b)

-- a copy of it in front of the buffer is the text laid over it
pub copied_laid : (text b b' : List ℕ) → b' ≡ take (length text) text ++ drop (length text) b → b' ≡ laid text b
unfolding laid
copied_laid text b b' e = e ∙ rw (take-length text)

-- what a loop pastes from place at on is the text's end
pub pasted_laid : (b text s : List ℕ) (at n : ℕ) → at ≤ length b → n ≤ length s → text ≡ take at b ++ take n s → paste b at s n ≡ laid text b
unfolding laid
pasted_laid b text s at n le ge e = rw (e, length_paste_head b at s n le ge)

module _ (b : List ℕ) (size at : ℕ) (within : size ≤ length b) where
  pub inserted_front : (byte : ℕ) → at ≤ size → inserted at byte (take size b) ≡ take at b ++ take (size + 1 - at) (byte ∷ drop at b)
  inserted_front byte h =
      let n : size + 1 - at ≡ suc (size - at) = omega arith in
      rw (n, take-take at size b h, drop_take at size b)

  pub removed_front : at < size → removed at (take size b) ≡ take at b ++ take (size - 1 - at) (drop (at + 1) b)
  removed_front h =
      let le : at ≤ size = omega arith in
      let n : size - (at + 1) ≡ size - 1 - at = omega arith in
      rw (take-take at size b le, drop_take (at + 1) size b, n)
