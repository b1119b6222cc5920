-- When a claim of a slot is refused, and when not. Assumes nothing.
use Prim.Native.Nat.{ℕ, ◌<◌}
use mathlib.Core.Path.{◌≡◌}
use mathlib.Core.Bool.{not}
use lib.Dec.{leb, eqb}
use borrow.Author.Tests.{not-false, eqb-false, ne_eqb, leb-false, lt-leb}
use Rattle.std.proofs.lemmas.Bool.{both_ways}
use Rattle.laws.proofs.Tests.{Decides, decides_eq, decides_both, decides_as, fails, decides_not, decides_any}
use Rattle.rectangle.specs.declared.Rect.{Rect}
use Rattle.rectangle.specs.Cells.{Inside}
use Rattle.rectangle.specs.Rectangles.{legal, Legal}
use Rattle.rectangle.proofs.Rectangles.{decides_legal}
use Rattle.rectangle.proofs.Overlaps.{Overlap, decides_overlap, cell_overlap, overlap_cell}
use Rattle.std.specs.Prelude.{Ok}
use Rattle.calls.specs.Verdict.{first_of}
use Rattle.calls.proofs.Verdicts.{accepted_by, both_accepted}
use Rattle.slots.specs.declared.Multiplexer.{Multiplexer}
use Rattle.slots.specs.State.{slot_at, pane, Open, slot_of, has_client, Closed}
use Rattle.slots.specs.Valid.{valid_multiplexer, ValidMultiplexer}
use Rattle.slots.specs.Panes.{shares_pane, pane_shared}
use Rattle.slots.proofs.Validity.{decides_multiplexer}
use Rattle.slots.proofs.Slots.{decides_client}
use Rattle.multiplexer.specs.Located.{multiplexer_verdict, claim_verdict, free_slot_for, claim_slot}
use Rattle.multiplexer.proofs.Chains.{not_refused}

-- ---- a pane that shares a cell with an open one
pub decides_pane_shared : (m : Multiplexer) → ValidMultiplexer m → (r : Rect) → Legal r
    → Decides (pane_shared m r) ((i : ℕ) × Open m i × ((k : ℕ) × Inside (pane m i) k × Inside r k))
unfolding pane_shared
decides_pane_shared m v r l =
    decides_as
    (decides_any (λ i. shares_pane r (slot_at m i)) (λ i. ((slot_at m i).client ≡ 0 → ⊥) × Overlap (pane m i) r) (λ i. decides_both (decides_not (decides_eq _ 0)) (decides_overlap (pane m i) r)))
    (λ k. let o : Open m k.0 = (k.1, k.2.0) in (k.0, o, overlap_cell (pane m k.0) r (v.ports k.0 o).home l k.2.1))
    (λ k. (k.0, k.1.0, (k.1.1, cell_overlap k.2.1 k.2.2)))

-- ---- when a claim is not refused
-- none of the refusals 2 to 7 applies
pub record Claims (m : Multiplexer) (n : ℕ) (r : Rect) : Type 0 where
  pub valid : ValidMultiplexer m
  pub not_zero : n ≡ 0 → ⊥
  pub legal : Legal r
  pub new : Closed m n
  pub apart : (i : ℕ) → Open m i → (k : ℕ) → Inside (pane m i) k → Inside r k → ⊥
  pub room : slot_of m 0 < 4

module _ (m : Multiplexer) (n : ℕ) (r : Rect) where
  -- none applies, and the place is that of the lowest free slot
  pub claims : (i : ℕ) → claim_slot m n r ≡ Ok i → Claims m n r × (i ≡ slot_of m 0)
  unfolding multiplexer_verdict claim_verdict free_slot_for
  claims i e =
      let a = both_accepted (multiplexer_verdict m) _ e in
      let b = both_accepted (claim_verdict n r) _ a.1 in
      let zero = not_refused (eqb n 0) _ _ b.0 in
      let illegal = not_refused (not (legal r)) _ _ zero.1 in
      let taken = not_refused (has_client m n) _ _ b.1 in
      let shared = not_refused (pane_shared m r) _ _ taken.1 in
      let full = not_refused (leb 4 (slot_of m 0)) _ _ shared.1 in
      let v = (decides_multiplexer m).holds (accepted_by (valid_multiplexer m) _ a.0) in
      let l = (decides_legal r).holds (not-false _ illegal.0) in (
        record {
          valid = v;
          not_zero = eqb-false _ _ zero.0;
          legal = l;
          new = λ j o k. both_ways _ taken.0 ((decides_client m n).passes (j, o, k));
          apart = λ j o k x y. both_ways _ shared.0 ((decides_pane_shared m v r l).passes (j, o, (k, x, y)));
          room = leb-false _ _ full.0;
        },
        (let at = full.1 in cc),
      )

  pub claims_lowest : Claims m n r → claim_slot m n r ≡ Ok (slot_of m 0)
  unfolding first_of multiplexer_verdict claim_verdict free_slot_for
  claims_lowest o =
      simp (
        (decides_multiplexer m).passes o.valid,
        ne_eqb _ _ o.not_zero,
        (decides_legal r).passes o.legal,
        fails (decides_client m n) (λ k. o.new k.0 k.1 k.2),
        fails (decides_pane_shared m o.valid r o.legal) (λ k. o.apart k.0 k.1 k.2.0 k.2.1 k.2.2),
        lt-leb _ _ o.room,
      )
