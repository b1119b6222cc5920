-- From tests to facts and back, for the proofs of every crate. Assumes nothing.
use Prim.Native.Nat.{ℕ, zero, suc, ◌≤◌, ◌<◌}
use mathlib.Core.Path.{◌≡◌, refl, sym, ◌∙◌}
use mathlib.Core.Bool.{Bool, true, false, cond, not, ◌&&◌, ◌||◌}
use mathlib.Core.Logic.{◌⊎◌, inl, inr, ⊎_elim}
use native.Mathlib.Omega.{arith}
use lib.Dec.{ltb, leb, eqb}
use borrow.Author.Tests.{ltb-true, ltb-false, leb-true, eqb-true, lt-ltb, le-ltb, le-leb, eq-eqb, not-true}
use Rattle.std.proofs.lemmas.Bool.{both_ways, cases_Bool, cond_both, and_parts, and_from}

-- a choice has a property where both its arms have it, each under its test: the library's law, with the property first and the arms left to the goal
pub by_test : {A : Type 0} (P : A → Type 0) (t : Bool) {a b : A} → (t ≡ true → P a) → (t ≡ false → P b) → P (cond t a b)
by_test P t f g = cond_both t _ _ P f g

-- the library's law in two, as rulesets ask for each half
pub and_left : (a b : Bool) → (a && b) ≡ true → a ≡ true
and_left a b e = (and_parts a b e).0

pub and_right : (a b : Bool) → (a && b) ≡ true → b ≡ true
and_right a b e = (and_parts a b e).1

-- a test is true exactly when a fact holds
pub record Decides (t : Bool) (P : Type 0) : Type 0 where
  pub holds : t ≡ true → P
  pub passes : P → t ≡ true

-- what a function shows that answered with the test
pub answered : {t : Bool} {P : Type 0} → Decides t P → (answer : Bool) → answer ≡ t → answer ≡ true → P
answered d answer is e = d.holds (sym is ∙ e)

pub decides_lt : (a b : ℕ) → Decides (ltb a b) (a < b)
decides_lt a b = record { holds = ltb-true a b; passes = lt-ltb a b }

pub decides_le : (a b : ℕ) → Decides (leb a b) (a ≤ b)
decides_le a b = record { holds = leb-true a b; passes = le-leb a b }

pub decides_eq : (a b : ℕ) → Decides (eqb a b) (a ≡ b)
decides_eq a b = record { holds = eqb-true a b; passes = eq-eqb a b }

pub decides_both : {t u : Bool} {P Q : Type 0} → Decides t P → Decides u Q → Decides (t && u) (P × Q)
decides_both {t} {u} d e = record {
  holds = λ k. (d.holds (and_left t u k), e.holds (and_right t u k));
  passes = λ k. and_from t u (d.passes k.0) (e.passes k.1);
}

-- the same fact in other words
pub decides_as : {t : Bool} {P Q : Type 0} → Decides t P → (P → Q) → (Q → P) → Decides t Q
decides_as d f g = record { holds = λ k. f (d.holds k); passes = λ k. d.passes (g k) }

-- a choice between two facts, by whether one holds
pub decides_if : (t : Bool) {u w : Bool} {P Q : Type 0} → Decides u P → Decides w Q → Decides (cond t u w) ((t ≡ true → P) × (t ≡ false → Q))
decides_if true d e = decides_as d (λ p. (λ _. p, λ k. absurd (both_ways _ k refl))) (λ q. q.0 refl)
decides_if false d e = decides_as e (λ p. (λ k. absurd (both_ways _ refl k), λ _. p)) (λ q. q.1 refl)

-- a fact that a test decides holds or does not
pub either : {t : Bool} {P : Type 0} → Decides t P → P ⊎ (P → ⊥)
either {t} d = ⊎_elim (λ e. inl (d.holds e)) (λ e. inr (λ p. both_ways _ e (d.passes p))) (cases_Bool t)

pub fails : {t : Bool} {P : Type 0} → Decides t P → (P → ⊥) → t ≡ false
fails {t} d no_p = ⊎_elim (λ e. absurd (no_p (d.holds e))) (λ e. e) (cases_Bool t)

pub decides_not : {t : Bool} {P : Type 0} → Decides t P → Decides (not t) (P → ⊥)
decides_not {t} d = record { holds = λ e p. both_ways _ (not-true t e) (d.passes p); passes = λ no_p. rw (fails d no_p) }

-- a flag is off
pub decides_off : (t : Bool) → Decides (not t) (t ≡ false)
decides_off t = record { holds = not-true t; passes = λ e. rw e }

pub decides_either : {t u : Bool} {P Q : Type 0} → Decides t P → Decides u Q → Decides (t || u) (P ⊎ Q)
decides_either {t} {u} d e = record {
  holds = λ k. ⊎_elim (λ h. inl (d.holds h)) (λ h. inr (e.holds (rw h at k))) (cases_Bool t);
  passes = λ k. ⊎_elim (λ p. rw (d.passes p)) (λ q. ⊎_elim (λ h. rw h) (λ h. rw h (e.passes q)) (cases_Bool t)) k;
}

-- one fact, or else the other
pub decides_else : {t u : Bool} {P Q : Type 0} → Decides t P → Decides u Q → Decides (t || u) ((P → ⊥) → Q)
decides_else {t} {u} d e = record {
  holds = λ k no_p. e.holds (⊎_elim (λ h. absurd (no_p (d.holds h))) (λ h. rw h at k) (cases_Bool t));
  passes = λ f. ⊎_elim (λ h. rw h) (λ h. rw h (e.passes (f (λ p. both_ways _ h (d.passes p))))) (cases_Bool t);
}

-- a is below b, or else a fact holds
pub decides_unless : (a b : ℕ) {u : Bool} {Q : Type 0} → Decides u Q → Decides (ltb a b || u) (b ≤ a → Q)
decides_unless a b {u} d = record {
  holds = λ k h. d.holds (rw (le-ltb a b h) at k);
  passes = λ q. ⊎_elim (λ e. rw e) (λ e. rw e (d.passes (q (ltb-false a b e)))) (cases_Bool (ltb a b));
}

-- a fact about some one of four numbers
pub decides_any : (t : ℕ → Bool) (P : ℕ → Type 0) → ((i : ℕ) → Decides (t i) (P i)) → Decides ((t 0 || t 1) || (t 2 || t 3)) ((i : ℕ) × (i < 4) × P i)
decides_any t P d =
    decides_as (decides_either (decides_either (d 0) (d 1)) (decides_either (d 2) (d 3)))
    (λ k. ⊎_elim (λ a. ⊎_elim (λ p. (0, omega arith, p)) (λ p. (1, omega arith, p)) a) (λ a. ⊎_elim (λ p. (2, omega arith, p)) (λ p. (3, omega arith, p)) a) k)
    (λ k. which k.0 k.1 k.2)
  where
    which : (i : ℕ) → i < 4 → P i → (P 0 ⊎ P 1) ⊎ (P 2 ⊎ P 3)
    which zero h p = inl (inl p)
    which (suc zero) h p = inl (inr p)
    which (suc (suc zero)) h p = inr (inl p)
    which (suc (suc (suc zero))) h p = inr (inr p)
    which (suc (suc (suc (suc i)))) h p = absurd (omega arith)

-- a fact about each of four numbers
pub decides_four : (t : ℕ → Bool) (P : ℕ → Type 0) → ((i : ℕ) → Decides (t i) (P i)) → Decides ((t 0 && t 1) && (t 2 && t 3)) ((i : ℕ) → i < 4 → P i)
decides_four t P d = decides_as (decides_both (decides_both (d 0) (d 1)) (decides_both (d 2) (d 3))) each (λ k. ((k 0 (omega arith), k 1 (omega arith)), (k 2 (omega arith), k 3 (omega arith))))
  where
    each : (P 0 × P 1) × (P 2 × P 3) → (i : ℕ) → i < 4 → P i
    each k zero h = k.0.0
    each k (suc zero) h = k.0.1
    each k (suc (suc zero)) h = k.1.0
    each k (suc (suc (suc zero))) h = k.1.1
    each k (suc (suc (suc (suc i)))) h = absurd (omega arith)
