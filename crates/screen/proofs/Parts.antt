-- A part of a list that was lent as `&mut s[a..e]` and came back with other elements: what that makes of the whole list. Assumes nothing.
use Prim.Native.Nat.{ℕ, ◌+◌, ◌-◌, ◌≤◌, ◌<◌}
use mathlib.Core.Path.{◌≡◌, refl, sym, ap, ◌∙◌}
use mathlib.Core.Logic.{⊎_elim}
use mathlib.Core.List.{List, ◌++◌}
use native.Mathlib.Omega.{arith}
use lib.ListN.{length, get_or, take, drop, length-drop, get_or-append, get_or-eq_default}
use lib.Seq.{get_or-take, get_or-drop, get_or-append-add, length-take-le}
use borrow.Rule.Slice.PartMut.{mid_of, put_mid, same_len_mid}
use Rattle.std.proofs.lemmas.Bool.{cases_lt}
use Rattle.std.specs.List.{CopiedTo, SameBelow, SameFrom}
use Rattle.screen.specs.Rewrite.{Rewritten, Filled, Relocated}
use Rattle.screen.proofs.Rewrites.{ends}

-- a list that came back of the same length, said of all its places
pub all_of : {m y : List ℕ} {k : ℕ} → length m ≡ k → length y ≡ k → Rewritten 0 k (λ i. get_or y i 0) m y
all_of len same =
    record {
      len = omega arith;
      run = λ i h x. cc;
      low = λ i h. absurd (omega arith);
      high = λ i h. get_or-eq_default _ 0 {n = i} (omega arith) ∙ sym (get_or-eq_default _ 0 {n = i} (omega arith));
    }

module _ (a k : ℕ) (s : List ℕ) (fits : a + k ≤ length s) where
  -- a place of the part
  pub in_part : (i : ℕ) → i < k → get_or (mid_of a k s) i 0 ≡ get_or s (a + i) 0
  in_part i h = get_or-take k (drop a s) i 0 h ∙ get_or-drop a s i 0

  pub length_part : length (mid_of a k s) ≡ k
  length_part = length-take-le k (drop a s) (simp length-drop (omega arith))

  front : length (take a s) ≡ a
  front = length-take-le a s (omega arith)

  module _ (y : List ℕ) (len : length y ≡ k) where
    before : (i : ℕ) → i < a → get_or (put_mid a k s y) i 0 ≡ get_or s i 0
    before i h = get_or-append (take a s) _ 0 i (omega (arith, front)) ∙ get_or-take a s i 0 h

    within : (i : ℕ) → i < k → get_or (put_mid a k s y) (a + i) 0 ≡ get_or y i 0
    within i h = ap (λ (n : ℕ). get_or (put_mid a k s y) (n + i) 0) (sym front) ∙ get_or-append-add (take a s) _ i 0 ∙ get_or-append y _ 0 i (omega arith)

    after : (i : ℕ) → get_or (put_mid a k s y) (a + (k + i)) 0 ≡ get_or s (a + (k + i)) 0
    after i =
        ap (λ (n : ℕ). get_or (put_mid a k s y) (n + (k + i)) 0) (sym front) ∙ get_or-append-add (take a s) _ (k + i) 0
        ∙ ap (λ (n : ℕ). get_or (y ++ drop k (drop a s)) (n + i) 0) (sym len) ∙ get_or-append-add y _ i 0
        ∙ get_or-drop k (drop a s) i 0 ∙ get_or-drop a s (k + i) 0

  -- the list once the part is back, with its places from p up to q rewritten: they hold f in the whole
  pub back : (p q : ℕ) (f : ℕ → ℕ) {g : ℕ → ℕ} {y : List ℕ} → p ≤ q → q ≤ k → Rewritten p q g (mid_of a k s) y
      → ((i : ℕ) → p ≤ i → i < q → g i ≡ f (a + i))
      → Rewritten (a + p) (a + q) f s (put_mid a k s y)
  back p q f {g} {y} le small r same =
      record {
        len = same_len_mid a k s y r.len;
        run = λ i h x. let place : a + (i - a) ≡ i = omega arith in
            rw place at (within y len (i - a) (omega arith) ∙ r.run (i - a) (omega arith) (omega arith) ∙ same (i - a) (omega arith) (omega arith));
        low = λ i h. ⊎_elim (before y len i) (λ x. kept i x (omega arith) (r.low (i - a) (omega arith))) (cases_lt i a);
        high = λ i h. ⊎_elim (λ x. kept i (omega arith) x (r.high (i - a) (omega arith))) (λ x. beyond i x) (cases_lt i (a + k));
      }
    where
      len : length y ≡ k
      len = r.len ∙ length_part

      kept : (i : ℕ) → a ≤ i → i < a + k → get_or y (i - a) 0 ≡ get_or (mid_of a k s) (i - a) 0 → get_or (put_mid a k s y) i 0 ≡ get_or s i 0
      kept i h x e = let place : a + (i - a) ≡ i = omega arith in
          rw place at (within y len (i - a) (omega arith) ∙ e ∙ in_part (i - a) (omega arith))

      beyond : (i : ℕ) → a + k ≤ i → get_or (put_mid a k s y) i 0 ≡ get_or s i 0
      beyond i h = let place : a + (k + (i - (a + k))) ≡ i = omega arith in rw place at (after y len (i - (a + k)))

-- the part from a up to e comes back filled
pub filled : (a e byte : ℕ) (s y : List ℕ) {n : ℕ} → a ≤ e → e ≤ length s → length (mid_of a (e - a) s) ≤ n → Filled 0 n byte (mid_of a (e - a) s) y
    → Filled a e byte s (put_mid a (e - a) s y)
filled a e byte s y from to all r =
    let fits : a + (e - a) ≤ length s = omega arith in
    let size = length_part a (e - a) s fits in
    ends
    (back a (e - a) s fits 0 (e - a) (λ i. byte) (omega arith) (omega arith) (all_of size (r.len ∙ size))
    (λ i h x. r.run i h (omega arith)))
    (omega arith) (omega arith)

-- .. or with n of its places, from p on, moved: they hold what those from q on held
moved : (a e p q n : ℕ) (o : ℕ → ℕ) (s y : List ℕ)
    → CopiedTo (mid_of a (e - a) s) y q p n × SameBelow (mid_of a (e - a) s) y p × SameFrom (mid_of a (e - a) s) y (p + n)
    → length y ≡ length (mid_of a (e - a) s)
    → a ≤ e → e ≤ length s → p + n ≤ e - a → q + n ≤ e - a
    → ((i : ℕ) → p ≤ i → i < p + n → o (a + i) ≡ a + (q + (i - p)))
    → Relocated (a + p) (a + (p + n)) o s (put_mid a (e - a) s y)
moved a e p q n o s y held len from to fits_p fits_q origins =
    back a (e - a) s (omega arith) p (p + n) (λ i. get_or s (o i) 0) (omega arith) (omega arith)
    (record { len = len; run = λ i h x. held.0 i 0 h x; low = λ i h. held.1 i 0 h; high = λ i h. held.2 i 0 h })
    (λ i h x. in_part a (e - a) s (omega arith) (q + (i - p)) (omega arith) ∙ ap (λ (j : ℕ). get_or s j 0) (sym (origins i h x)))

-- .. by gap places to its front
pub pulled : (a e gap : ℕ) (s y : List ℕ)
    → CopiedTo (mid_of a (e - a) s) y gap 0 (length (mid_of a (e - a) s) - gap) × SameBelow (mid_of a (e - a) s) y 0 × SameFrom (mid_of a (e - a) s) y (0 + (length (mid_of a (e - a) s) - gap))
    → length y ≡ length (mid_of a (e - a) s)
    → a ≤ e → e ≤ length s → gap ≤ e - a
    → Relocated a (e - gap) (λ i. i + gap) s (put_mid a (e - a) s y)
pulled a e gap s y held len from to small =
    let size = length_part a (e - a) s (omega arith) in
    ends (moved a e 0 gap (length (mid_of a (e - a) s) - gap) (λ i. i + gap) s y held len from to (omega arith) (omega arith) (λ i h x. omega arith)) (omega arith) (omega arith)

-- .. or to its end
pub pushed : (a e gap n : ℕ) (s y : List ℕ)
    → CopiedTo (mid_of a (e - a) s) y 0 gap (n - 0) × SameBelow (mid_of a (e - a) s) y gap × SameFrom (mid_of a (e - a) s) y (gap + (n - 0))
    → length y ≡ length (mid_of a (e - a) s)
    → a ≤ e → e ≤ length s → n + gap ≡ e - a
    → Relocated (a + gap) e (λ i. i - gap) s (put_mid a (e - a) s y)
pushed a e gap n s y held len from to all =
    ends (moved a e gap 0 (n - 0) (λ i. i - gap) s y held len from to (omega arith) (omega arith) (λ i h x. omega arith)) refl (omega arith)
