-- The bits of a number: of a disjunction, of a stretch of ones, and how many are set. Two numbers with the same bits are one. Assumes nothing.
use Prim.Native.Nat.{ℕ, zero, suc, ◌+◌, ◌-◌, ◌/◌, ◌%◌, ◌^◌, ◌≤◌, ◌<◌, max}
use mathlib.Core.Path.{◌≡◌, refl, sym, ap, ◌∙◌}
use mathlib.Core.Bool.{Bool, true, false, cond, ◌&&◌, ◌||◌, true≢false}
use native.Mathlib.Omega.{arith}
use native.Mathlib.Nat.{pow-suc}
use lib.Dec.{leb, ltb, eqb, leb-zero, leb-suc-zero, leb-suc-suc}
use borrow.Author.Tests.{lt-ltb}
use lib.Bits.{bit_or, or_step, or_shr}
use lib.Count.{ones, ones_in, ones_step}
use lib.Pow.{pow_pos, shr-shr}
use Rattle.laws.specs.Bits.{bit, count_below}

-- a half, and a remainder
odd : (n : ℕ) → n % 2 < 2
odd n = omega arith

one_test : (u v : ℕ) → u < 2 → v < 2 → eqb u 1 ≡ eqb v 1 → u ≡ v
one_test zero zero _ _ e = refl
one_test zero (suc zero) _ _ e = absurd (true≢false (sym e))
one_test (suc zero) zero _ _ e = absurd (true≢false e)
one_test (suc zero) (suc zero) _ _ e = refl
one_test zero (suc (suc v)) _ h e = absurd (omega arith)
one_test (suc zero) (suc (suc v)) _ h e = absurd (omega arith)
one_test (suc (suc u)) v h _ e = absurd (omega arith)

one_of_two : (u v : ℕ) → u < 2 → v < 2 → eqb (max u v) 1 ≡ (eqb u 1 || eqb v 1)
one_of_two zero zero _ _ = refl
one_of_two zero (suc zero) _ _ = refl
one_of_two (suc zero) zero _ _ = refl
one_of_two (suc zero) (suc zero) _ _ = refl
one_of_two zero (suc (suc v)) _ h = absurd (omega arith)
one_of_two (suc zero) (suc (suc v)) _ h = absurd (omega arith)
one_of_two (suc (suc u)) v h _ = absurd (omega arith)

one_counts : (u : ℕ) → u < 2 → u ≡ cond (eqb u 1) 1 0
one_counts zero _ = refl
one_counts (suc zero) _ = refl
one_counts (suc (suc u)) h = absurd (omega arith)

-- bit 0 is the remainder, and the next bit is the same of the half
bit_zero : (n : ℕ) → bit n 0 ≡ eqb (n % 2) 1
unfolding bit
bit_zero n = let whole : n / 1 ≡ n = omega arith in ap (λ (x : ℕ). eqb (x % 2) 1) whole

bit_suc : (n r : ℕ) → bit n (suc r) ≡ bit (n / 2) r
unfolding bit
bit_suc n r = let next : suc r ≡ 1 + r = omega arith in ap (λ (k : ℕ). eqb (n / 2 ^ k % 2) 1) next ∙ ap (λ (x : ℕ). eqb (x % 2) 1) (sym (shr-shr n 1 r))

pub bit_none : (r : ℕ) → bit 0 r ≡ false
bit_none zero = bit_zero 0
bit_none (suc r) = bit_suc 0 r ∙ bit_none r

half_below : (k n : ℕ) → n < 2 ^ suc k → n / 2 < 2 ^ k
half_below k n h = let e = pow-suc 2 k in omega arith

-- two numbers with the same bits: of k bits, and any
same_bits_of : (k a b : ℕ) → a < 2 ^ k → b < 2 ^ k → ((r : ℕ) → bit a r ≡ bit b r) → a ≡ b
same_bits_of zero a b ha hb same = omega arith
same_bits_of (suc k) a b ha hb same =
    let halves = same_bits_of k (a / 2) (b / 2) (half_below k a ha) (half_below k b hb) (λ r. sym (bit_suc a r) ∙ same (suc r) ∙ bit_suc b r) in
    let rests = one_test (a % 2) (b % 2) (odd a) (odd b) (sym (bit_zero a) ∙ same 0 ∙ bit_zero b) in
    omega arith

below_power : (n : ℕ) → n < 2 ^ n
below_power zero = omega arith
below_power (suc n) = let h = below_power n in let e = pow-suc 2 n in omega arith

pub same_bits : (a b : ℕ) → ((r : ℕ) → bit a r ≡ bit b r) → a ≡ b
same_bits a b =
    let k : ℕ = a + b in
    let h = below_power k in
    same_bits_of k a b (omega arith) (omega arith)

or_odd : (a b : ℕ) → bit_or a b % 2 ≡ max (a % 2) (b % 2)
or_odd a b = let e = or_step a b in let x = odd a in let y = odd b in omega arith

pub bit_of_or : (a b r : ℕ) → bit (bit_or a b) r ≡ (bit a r || bit b r)
unfolding bit
bit_of_or a b r =
    ap (λ (x : ℕ). eqb (x % 2) 1) (or_shr a b r) ∙ ap (λ (x : ℕ). eqb x 1) (or_odd (a / 2 ^ r) (b / 2 ^ r))
    ∙ one_of_two (a / 2 ^ r % 2) (b / 2 ^ r % 2) (odd (a / 2 ^ r)) (odd (b / 2 ^ r))

-- the ones from bit low on, below bit end: half of them are those that stand a bit lower
lower : ℕ → ℕ
lower zero = zero
lower (suc n) = n

half_stretch : (low end : ℕ) → (2 ^ end - 2 ^ low) / 2 ≡ 2 ^ lower end - 2 ^ lower low
unfolding lower
half_stretch zero zero = refl
half_stretch zero (suc end) = let e = pow-suc 2 end in omega arith
half_stretch (suc low) zero = let e = pow-suc 2 low in let h = pow_pos low in omega arith
half_stretch (suc low) (suc end) = let d = pow-suc 2 low in let e = pow-suc 2 end in omega arith

odd_stretch : (low end : ℕ) → eqb ((2 ^ end - 2 ^ low) % 2) 1 ≡ (leb low 0 && ltb 0 end)
odd_stretch zero zero = refl
odd_stretch zero (suc end) = let e = pow-suc 2 end in let h = pow_pos end in let one : (2 ^ suc end - 1) % 2 ≡ 1 = omega arith in ap (λ (x : ℕ). eqb x 1) one ∙ sym (lt-ltb 0 (suc end) (omega arith))
odd_stretch (suc low) zero = let e = pow-suc 2 low in let h = pow_pos low in let none : (1 - 2 ^ suc low) % 2 ≡ 0 = omega arith in ap (λ (x : ℕ). eqb x 1) none ∙ ap (λ (t : Bool). t && ltb 0 0) (sym (leb-suc-zero low))
odd_stretch (suc low) (suc end) = let d = pow-suc 2 low in let e = pow-suc 2 end in let none : (2 ^ suc end - 2 ^ suc low) % 2 ≡ 0 = omega arith in ap (λ (x : ℕ). eqb x 1) none ∙ ap (λ (t : Bool). t && ltb 0 (suc end)) (sym (leb-suc-zero low))

pub bit_stretch : (low end r : ℕ) → bit (2 ^ end - 2 ^ low) r ≡ (leb low r && ltb r end)
unfolding lower
bit_stretch low end zero = bit_zero (2 ^ end - 2 ^ low) ∙ odd_stretch low end
bit_stretch low end (suc r) = bit_suc (2 ^ end - 2 ^ low) r ∙ ap (λ (x : ℕ). bit x r) (half_stretch low end) ∙ bit_stretch (lower low) (lower end) r
    ∙ (λ i. from_low low i && to_end end i)
  where
    from_low : (low : ℕ) → leb (lower low) r ≡ leb low (suc r)
    from_low zero = leb-zero r ∙ sym (leb-zero (suc r))
    from_low (suc low) = sym (leb-suc-suc low r)

    to_end : (end : ℕ) → ltb r (lower end) ≡ ltb (suc r) end
    to_end zero = leb-suc-zero r ∙ sym (leb-suc-zero (suc r))
    to_end (suc end) = sym (leb-suc-suc (suc r) end)

-- a number of k bits has as many ones as bits that are set
pub ones_count : (k n : ℕ) → n < 2 ^ k → ones n ≡ count_below k (bit n)
unfolding count_below ones ones_in
ones_count zero n small = let none : n ≡ 0 = omega arith in ap ones none
ones_count (suc k) n small =
    ones_step n
    ∙ (λ i. one_counts (n % 2) (odd n) i + ones_count k (n / 2) (half_below k n small) i)
    ∙ sym (λ i. cond (bit_zero n i) 1 0 + count_below k (λ r. bit_suc n r i))

-- at most k numbers below k pass a test
pub count_most : (k : ℕ) (test : ℕ → Bool) → count_below k test ≤ k
unfolding count_below
count_most zero test = omega arith
count_most (suc k) test = let h = count_most k (λ r. test (suc r)) in let one = at_most (test 0) in omega arith
  where
    at_most : (b : Bool) → cond b 1 0 ≤ 1
    at_most true = omega arith
    at_most false = omega arith
