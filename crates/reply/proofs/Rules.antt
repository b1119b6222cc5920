-- A chain of rules, each with its test: the status of the first rule that applies, and each status exactly then. Assumes nothing.
use Prim.Native.Nat.{ℕ, ◌≤◌, ◌<◌}
use native.Mathlib.Omega.{arith}
use mathlib.Core.Path.{◌≡◌, sym, ap, ◌∙◌}
use mathlib.Core.Bool.{Bool, cond, not}
use mathlib.Core.Logic.{◌⊎◌, inl, inr, ⊎_elim}
use mathlib.Core.List.{List, [], ◌∷◌}
use Rattle.std.proofs.lemmas.Bool.{cases_Bool, both_ways}
use Rattle.laws.proofs.Tests.{by_test, Decides}
use Rattle.reply.specs.Answers.{Each, Rising, Answers}

-- the status of the first rule that applies, or that of a call that is done
pub data First {Status : Type 0} (done : Status) (applies : Status → Type 0) (given : Status) : List Status → Type 0 where
  none : given ≡ done → First done applies given []
  here : {x : Status} {xs : List Status} → applies x → given ≡ x → First done applies given (x ∷ xs)
  later : {x : Status} {xs : List Status} → (applies x → ⊥) → First done applies given xs → First done applies given (x ∷ xs)

-- a rule that does not apply may be left out
pub spared : {Status : Type 0} {done : Status} {applies : Status → Type 0} {given x : Status} {xs : List Status} → (applies x → ⊥) → First done applies given (x ∷ xs) → First done applies given xs
spared n (here h e) = absurd (n h)
spared n (later _ f) = f

-- one test more in front: its rule applies where the test is true, or where it is false
module _ {Status : Type 0} {done : Status} {applies : Status → Type 0} {A : Type 0} (f : A → Status) {x : Status} {xs : List Status} {t : Bool} {a b : A} where
  pub refused_if : Decides t (applies x) → f a ≡ x → ((applies x → ⊥) → First done applies (f b) xs) → First done applies (f (cond t a b)) (x ∷ xs)
  refused_if d e rest =
      by_test (λ r. First done applies (f r) (x ∷ xs)) t (λ k. here (d.holds k) e) (λ k. let n : applies x → ⊥ = λ p. both_ways _ k (d.passes p) in later n (rest n))

  pub refused_unless : {P : Type 0} → Decides t P → ((P → ⊥) → applies x) → (P → applies x → ⊥) → f b ≡ x → (P → First done applies (f a) xs) → First done applies (f (cond t a b)) (x ∷ xs)
  refused_unless d to from e rest =
      by_test (λ r. First done applies (f r) (x ∷ xs)) t (λ k. later (from (d.holds k)) (rest (d.holds k))) (λ k. here (to (λ p. both_ways _ k (d.passes p))) e)

  -- .. of a test that is negated
  pub refused_not : {P : Type 0} → Decides t P → ((P → ⊥) → applies x) → (P → applies x → ⊥) → f b ≡ x → (P → First done applies (f a) xs) → First done applies (f (cond (not t) b a)) (x ∷ xs)
  refused_not d to from e rest =
      ⊎_elim (λ k. rw k (later (from (d.holds k)) (rest (d.holds k)))) (λ k. rw k (here (to (λ p. both_ways _ k (d.passes p))) e)) (cases_Bool t)

-- ---- each status exactly then
module _ {Status : Type 0} (done : Status) (number : Status → ℕ) (zero_done : number done ≡ 0) (applies : Status → Type 0) (given : Status) where
  above : (k : ℕ) {xs : List Status} → Rising number k xs → First done applies given xs → (given ≡ done) ⊎ (k < number given)
  above k r (none e) = inl e
  above k r (here h e) = inr (omega (arith, ap number e))
  above k r (later {x} n f) = ⊎_elim inl (λ l. inr (omega arith)) (above (number x) r.1 f)

  -- a smaller number is given
  past : (None : Type 0) (k : ℕ) (xs : List Status) → Rising number k xs → (None → ⊥) → 0 < number given → number given ≤ k → Each done applies None xs given
  past None k [] r n low high = record { only_when = λ e. absurd (omega (arith, ap number e)); whenever = λ p. absurd (n p) }
  past None k (x ∷ xs) r n low high = (
    record { only_when = λ e. absurd (omega (arith, ap number e)); whenever = λ p. absurd (n p.0) },
    past (None × (applies x → ⊥)) (number x) xs r.1 (λ p. n p.0) low (omega arith),
  )

  each_from : (None : Type 0) (k : ℕ) {xs : List Status} → Rising number k xs → None → First done applies given xs → Each done applies None xs given
  each_from None k r p (none e) = record { only_when = λ _. p; whenever = λ _. e }
  each_from None k r p (here {x} {xs} h e) =
      let same = ap number e in
      (record { only_when = λ _. (p, h); whenever = λ _. e }, past _ (number x) xs r.1 (λ q. q.1 h) (omega arith) (omega arith))
  each_from None k r p (later {x} n f) = (
    record {
      only_when = λ e. absurd (⊎_elim (λ d. omega (arith, ap number (sym e ∙ d))) (λ l. omega (arith, ap number e)) (above (number x) r.1 f));
      whenever = λ q. absurd (n q.1);
    },
    each_from (None × (applies x → ⊥)) (number x) r.1 (p, n) f,
  )

pub answers_first : {Status : Type 0} {done : Status} {number : Status → ℕ} {applies : Status → Type 0} {given : Status} {xs : List Status} → number done ≡ 0 → Rising number 0 xs → First done applies given xs → Answers done number applies xs given
answers_first {done = done} {number = number} {applies = applies} {given = given} z h f = record { rising = h; each = each_from done number z applies given (Unit {0}) 0 h tt f }
