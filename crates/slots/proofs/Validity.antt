-- The test for validity is true exactly when paper 01's clauses hold, and a free slot is valid. Assumes nothing.
use Prim.Native.Nat.{ℕ, zero, suc, ◌<◌}
use native.Mathlib.Omega.{arith}
use mathlib.Core.Path.{◌≡◌, refl, sym}
use mathlib.Core.Bool.{Bool, ◌&&◌}
use mathlib.Core.Logic.{inl, inr, ⊎_elim}
use lib.Dec.{eqb}
use borrow.Author.Tests.{eqb-true, eqb-false, eq-eqb, ne_eqb}
use Rattle.std.proofs.lemmas.Bool.{cases_lt}
use Rattle.laws.proofs.Tests.{Decides, decides_eq, decides_both, decides_if, decides_as, decides_four, decides_else, decides_either, decides_not}
use Rattle.rectangle.specs.Rectangles.{Apart}
use Rattle.rectangle.proofs.Overlaps.{Overlap, decides_overlap, overlap_apart, apart_overlap}
use Rattle.port.specs.Valid.{ValidPort, ZeroPort}
use Rattle.port.proofs.Validity.{decides_valid, decides_zero_port, zero_port_is_zero}
use Rattle.slots.specs.declared.Slot.{Slot}
use Rattle.slots.specs.declared.Multiplexer.{Multiplexer}
use Rattle.slots.specs.State.{free_slot, slot_at, pane, Open}
use Rattle.slots.specs.Valid.{valid_slot, compatible, valid_slots, valid_multiplexer, ValidMultiplexer}

-- ---- one slot, and two
abbrev pub SlotFacts : Slot → Type 0
SlotFacts x = (x.client ≡ 0 → ZeroPort x.port) × ((x.client ≡ 0 → ⊥) → ValidPort x.port)

pub decides_slot : (x : Slot) → Decides (valid_slot x) (SlotFacts x)
unfolding valid_slot
decides_slot x =
    decides_as (decides_if (eqb x.client 0) (decides_zero_port x.port) (decides_valid x.port))
    (λ k. (λ e. k.0 (eq-eqb _ _ e), λ n. k.1 (ne_eqb _ _ n)))
    (λ k. (λ e. k.0 (eqb-true _ _ e), λ e. k.1 (eqb-false _ _ e)))

-- a free slot is valid
pub free_valid : SlotFacts free_slot
unfolding free_slot
free_valid = (λ _. zero_port_is_zero, λ n. absurd (n refl))

abbrev PairFacts : Slot → Slot → Type 0
PairFacts x y = (x.client ≡ 0 → ⊥) → (y.client ≡ 0 → ⊥) → (x.client ≡ y.client → ⊥) × (Overlap x.port.home y.port.home → ⊥)

decides_pair : (x y : Slot) → Decides (compatible x y) (PairFacts x y)
unfolding compatible
decides_pair x y =
    decides_as
    (decides_else (decides_either (decides_eq _ _) (decides_eq _ _)) (decides_both (decides_not (decides_eq _ _)) (decides_not (decides_overlap _ _))))
    (λ k a b. k (λ z. ⊎_elim a b z))
    (λ k n. k (λ a. n (inl a)) (λ b. n (inr b)))

-- the six pairs of four
decides_pairs : (t : ℕ → ℕ → Bool) (P : ℕ → ℕ → Type 0) → ((i j : ℕ) → Decides (t i j) (P i j))
    → Decides ((t 0 1 && (t 0 2 && t 0 3)) && ((t 1 2 && t 1 3) && t 2 3)) ((i j : ℕ) → i < j → j < 4 → P i j)
decides_pairs t P d =
    decides_as (decides_both (decides_both (d 0 1) (decides_both (d 0 2) (d 0 3))) (decides_both (decides_both (d 1 2) (d 1 3)) (d 2 3)))
    each
    (λ k. ((k 0 1 (omega arith) (omega arith), (k 0 2 (omega arith) (omega arith), k 0 3 (omega arith) (omega arith))), ((k 1 2 (omega arith) (omega arith), k 1 3 (omega arith) (omega arith)), k 2 3 (omega arith) (omega arith))))
  where
    each : (P 0 1 × (P 0 2 × P 0 3)) × ((P 1 2 × P 1 3) × P 2 3) → (i j : ℕ) → i < j → j < 4 → P i j
    each k zero zero h l = absurd (omega arith)
    each k zero (suc zero) h l = k.0.0
    each k zero (suc (suc zero)) h l = k.0.1.0
    each k zero (suc (suc (suc zero))) h l = k.0.1.1
    each k (suc zero) zero h l = absurd (omega arith)
    each k (suc zero) (suc zero) h l = absurd (omega arith)
    each k (suc zero) (suc (suc zero)) h l = k.1.0.0
    each k (suc zero) (suc (suc (suc zero))) h l = k.1.0.1
    each k (suc (suc i)) zero h l = absurd (omega arith)
    each k (suc (suc i)) (suc zero) h l = absurd (omega arith)
    each k (suc (suc i)) (suc (suc zero)) h l = absurd (omega arith)
    each k (suc (suc zero)) (suc (suc (suc zero))) h l = k.1.1
    each k (suc (suc (suc i))) (suc (suc (suc zero))) h l = absurd (omega arith)
    each k i (suc (suc (suc (suc j)))) h l = absurd (omega arith)

-- ---- the multiplexer
Pairs : Multiplexer → Type 0
Pairs m = (i j : ℕ) → i < j → j < 4 → PairFacts (slot_at m i) (slot_at m j)

module _ (m : Multiplexer) where
  different : Pairs m → (i j : ℕ) → Open m i → Open m j → (slot_at m i).client ≡ (slot_at m j).client → i ≡ j
  unfolding Pairs
  different k i j o u e =
      ⊎_elim (λ h. absurd ((k i j h u.0 o.1 u.1).0 e))
      (λ h. ⊎_elim (λ l. absurd ((k j i l o.0 u.1 o.1).0 (sym e))) (λ l. omega arith) (cases_lt j i))
      (cases_lt i j)

  apart : Pairs m → (i j : ℕ) → Open m i → Open m j → (i ≡ j → ⊥) → Apart (pane m i) (pane m j)
  unfolding Pairs
  apart k i j o u n =
      ⊎_elim (λ h. overlap_apart (k i j h u.0 o.1 u.1).1)
      (λ h c a b. overlap_apart (k j i (omega arith) o.0 u.1 o.1).1 c b a)
      (cases_lt i j)

  pairs : ValidMultiplexer m → Pairs m
  unfolding Pairs
  pairs v i j h l a b =
      let o : Open m i = (omega arith, a) in
      let u : Open m j = (l, b) in
      (λ e. let s = v.clients i j o u e in omega arith, apart_overlap (v.ports i o).home (v.ports j u).home (v.panes i j o u (λ s. omega arith)))

pub decides_multiplexer : (m : Multiplexer) → Decides (valid_multiplexer m) (ValidMultiplexer m)
unfolding valid_slots valid_multiplexer Pairs
decides_multiplexer m =
    decides_as
    (decides_both (decides_eq _ _)
    (decides_both (decides_four (λ i. valid_slot (slot_at m i)) (λ i. SlotFacts (slot_at m i)) (λ i. decides_slot (slot_at m i)))
    (decides_pairs (λ i j. compatible (slot_at m i) (slot_at m j)) (λ i j. PairFacts (slot_at m i) (slot_at m j)) (λ i j. decides_pair (slot_at m i) (slot_at m j)))))
    (λ k. record {
      four = k.0;
      ports = λ i o. (k.1.0 i o.0).1 o.1;
      clients = different m k.1.1;
      panes = apart m k.1.1;
      free = λ i z. (k.1.0 i z.0).0 z.1;
    })
    (λ v. (v.four, (λ i h. (λ e. v.free i (h, e), λ n. v.ports i (h, n)), pairs m v)))
