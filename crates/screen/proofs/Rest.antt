-- The rest of a list, from one place on, that was lent as `&mut s[a..]` and came back with cells moved: what that is of the whole list. Assumes nothing.
use Prim.Native.Nat.{ℕ, ◌+◌, ◌-◌, ◌≤◌, ◌<◌}
use mathlib.Core.Path.{◌≡◌, sym, ap, ◌∙◌}
use mathlib.Core.Logic.{⊎_elim}
use mathlib.Core.List.{List, ◌++◌, append-nil}
use native.Mathlib.Omega.{arith}
use lib.ListN.{length, get_or, take, drop, length-drop, drop_of_length-le}
use lib.Seq.{length-take-le, take_all, get_or-take, get_or-drop, drop_at}
use borrow.Rule.Slice.PartMut.{mid_of, put_mid, same_len_mid, take_put}
use Rattle.std.proofs.lemmas.Bool.{cases_lt}
use Rattle.std.specs.List.{CopiedTo, SameBelow, SameFrom}
use Rattle.screen.specs.Rewrite.{Relocated}
use Rattle.screen.proofs.Rewrites.{ends}

-- a place in the rest
in_rest : (a : ℕ) (s : List ℕ) (i : ℕ) → a ≤ i → get_or s i 0 ≡ get_or (drop a s) (i - a) 0
in_rest a s i h = let place : i ≡ a + (i - a) = omega arith in ap (λ k. get_or s k 0) place ∙ sym (get_or-drop a s (i - a) 0)

-- t is s with the rest rewritten: from p up to q its cells come from o, which is o' in the whole
in_whole : (a p q : ℕ) (o o' : ℕ → ℕ) (s t : List ℕ) → length t ≡ length s → take a t ≡ take a s
    → Relocated p q o (drop a s) (drop a t)
    → ((i : ℕ) → p ≤ i → i < q → a + o i ≡ o' (a + i))
    → Relocated (a + p) (a + q) o' s t
in_whole a p q o o' s t len front rest origins =
    record {
      len = len;
      run = λ i h k.
          let place : a + (i - a) ≡ i = omega arith in
          in_rest a t i (omega arith) ∙ rest.run (i - a) (omega arith) (omega arith) ∙ get_or-drop a s (o (i - a)) 0
          ∙ ap (λ j. get_or s j 0) (origins (i - a) (omega arith) (omega arith) ∙ ap o' place);
      low = λ i h. ⊎_elim (before i) (λ x. kept i x (rest.low (i - a) (omega arith))) (cases_lt i a);
      high = λ i h. kept i (omega arith) (rest.high (i - a) (omega arith));
    }
  where
    before : (i : ℕ) → i < a → get_or t i 0 ≡ get_or s i 0
    before i h = sym (get_or-take a t i 0 h) ∙ ap (λ l. get_or l i 0) front ∙ get_or-take a s i 0 h

    kept : (i : ℕ) → a ≤ i → get_or (drop a t) (i - a) 0 ≡ get_or (drop a s) (i - a) 0 → get_or t i 0 ≡ get_or s i 0
    kept i h same = in_rest a t i h ∙ same ∙ sym (in_rest a s i h)

-- the rest as it is lent, and the list once it is back
pub rest_back : (a p q : ℕ) (o o' : ℕ → ℕ) (s y : List ℕ) → a ≤ length s
    → Relocated p q o (mid_of a (length s - a) s) y
    → ((i : ℕ) → p ≤ i → i < q → a + o i ≡ o' (a + i))
    → Relocated (a + p) (a + q) o' s (put_mid a (length s - a) s y)
rest_back a p q o o' s y fits moved origins =
    let k = length s - a in
    let all : length (drop a s) ≤ k = simp length-drop (omega arith) in
    let lent : mid_of a k s ≡ drop a s = take_all k (drop a s) all in
    let none : y ++ drop k (drop a s) ≡ y = simp (drop_of_length-le (drop a s) all, append-nil) in
    let back : drop a (put_mid a k s y) ≡ y = drop_at (take a s) _ a (length-take-le a s fits) ∙ none in
    in_whole a p q o o' s (put_mid a k s y) (same_len_mid a k s y moved.len) (take_put a k s y fits) (rw (back, ← lent) moved) origins

-- the rest, of k places, comes back with n of them, from p on, moved: they hold what those from q on held
rest_moved : (a k p q n : ℕ) (o : ℕ → ℕ) (s y : List ℕ)
    → CopiedTo (mid_of a k s) y q p n × SameBelow (mid_of a k s) y p × SameFrom (mid_of a k s) y (p + n)
    → length y ≡ length (mid_of a k s)
    → a ≤ length s → k ≡ length s - a
    → ((i : ℕ) → p ≤ i → i < p + n → a + (q + (i - p)) ≡ o (a + i))
    → Relocated (a + p) (a + (p + n)) o s (put_mid a k s y)
rest_moved a k p q n o s y held len fits all origins = rw all (rest_back a p (p + n) (λ i. q + (i - p)) o s y fits (rw all at placed) origins)
  where
    placed : Relocated p (p + n) (λ i. q + (i - p)) (mid_of a k s) y
    placed = record { len = len; run = λ i h x. held.0 i 0 h x; low = λ i h. held.1 i 0 h; high = λ i h. held.2 i 0 h }

-- .. by gap places to its front: those up to e
pub rest_pulled : (a k gap e : ℕ) (s y : List ℕ)
    → CopiedTo (mid_of a k s) y gap 0 (e - gap) × SameBelow (mid_of a k s) y 0 × SameFrom (mid_of a k s) y (0 + (e - gap))
    → length y ≡ length (mid_of a k s)
    → a ≤ length s → k ≡ length s - a
    → Relocated a (a + (e - gap)) (λ i. i + gap) s (put_mid a k s y)
rest_pulled a k gap e s y held len fits all =
    ends (rest_moved a k 0 gap (e - gap) (λ i. i + gap) s y held len fits all (λ i h x. omega arith)) (omega arith) (omega arith)

-- .. or by gap places from its front: the first n
pub rest_pushed : (a k gap n : ℕ) (s y : List ℕ)
    → CopiedTo (mid_of a k s) y 0 gap (n - 0) × SameBelow (mid_of a k s) y gap × SameFrom (mid_of a k s) y (gap + (n - 0))
    → length y ≡ length (mid_of a k s)
    → a ≤ length s → k ≡ length s - a
    → Relocated (a + gap) (a + gap + n) (λ i. i - gap) s (put_mid a k s y)
rest_pushed a k gap n s y held len fits all =
    ends (rest_moved a k gap 0 (n - 0) (λ i. i - gap) s y held len fits all (λ i h x. omega arith)) (omega arith) (omega arith)
