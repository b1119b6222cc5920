-- When a call for an open client is refused, and when not. Assumes nothing.
use Prim.Native.Nat.{ℕ, ◌<◌}
use mathlib.Core.Path.{◌≡◌, sym, ◌∙◌}
use mathlib.Core.Bool.{not}
use lib.Dec.{ltb, eqb}
use borrow.Author.Tests.{not-true, not-false, eqb-false, ltb-true}
use Rattle.laws.proofs.Tests.{and_left, and_right, fails}
use Rattle.port.specs.Valid.{ValidPort}
use Rattle.reply.specs.declared.Status.TheVariants.{Invalid, NotOpen}
use Rattle.std.specs.Prelude.{Ok, Err, IfOk}
use Rattle.calls.specs.Verdict.{Judged, first_of}
use Rattle.calls.proofs.Verdicts.{accepted_by, both_accepted}
use Rattle.slots.specs.declared.Multiplexer.{Multiplexer}
use Rattle.slots.specs.declared.place.Place.{Place}
use Rattle.slots.specs.State.{slot_at, Open, Closed, slot_of, has_client}
use Rattle.slots.specs.Valid.{valid_multiplexer, ValidMultiplexer}
use Rattle.slots.proofs.Validity.{decides_multiplexer}
use Rattle.slots.proofs.Slots.{decides_client, slot_client, slot_open}
use Rattle.multiplexer.specs.Located.{multiplexer_verdict, open_slot, client_slot, indexed}
use Rattle.multiplexer.proofs.Chains.{not_refused}

-- a slot that was found is open, with a valid port
pub record Found (m : Multiplexer) (i : ℕ) : Type 0 where
  pub below : i < 4
  pub port : ValidPort (slot_at m i).port

module _ (m : Multiplexer) (n : ℕ) where
  open_found : ValidMultiplexer m → (i : ℕ) → open_slot m n ≡ Ok i → Found m i
  unfolding open_slot has_client
  open_found v i e =
      let b = not_refused (not (has_client m n)) _ _ e in
      let has = not-false (has_client m n) b.0 in
      let place : slot_of m n ≡ i = (let at = b.1 in cc) in
      let below = ltb-true (slot_of m n) 4 (and_right (not (eqb n 0)) (ltb (slot_of m n) 4) has) in
      let named = eqb-false n 0 (not-true (eqb n 0) (and_left (not (eqb n 0)) (ltb (slot_of m n) 4) has)) in
      rw (← place) (record { below = below; port = v.ports (slot_of m n) (below, λ z. named (sym (slot_client m n below) ∙ z)) })

  -- .. as code finds it
  pub open_valid : ValidMultiplexer m → (r : Judged Place) → indexed r ≡ open_slot m n → IfOk r (λ place. ValidPort (slot_at m place.index).port)
  open_valid v (Ok place) e = (open_found v place.index (sym e)).port
  open_valid v (Err status) e = tt

  pub found : (i : ℕ) → client_slot m n ≡ Ok i → Found m i
  unfolding multiplexer_verdict
  found i e =
      let a = both_accepted (multiplexer_verdict m) _ e in
      open_found ((decides_multiplexer m).holds (accepted_by (valid_multiplexer m) _ a.0)) i a.1

  pub invalid_refused : (ValidMultiplexer m → ⊥) → client_slot m n ≡ Err Invalid
  unfolding first_of multiplexer_verdict open_slot
  invalid_refused w = simp (fails (decides_multiplexer m) w)

  module _ (v : ValidMultiplexer m) where
    -- a client with an open slot, and one with none
    pub goes_to_slot : (i : ℕ) → Open m i → (slot_at m i).client ≡ n → client_slot m n ≡ Ok i
    unfolding first_of multiplexer_verdict open_slot
    goes_to_slot i o e = simp ((decides_multiplexer m).passes v, (decides_client m n).passes (i, o, e), slot_open m v i n o e)

    pub goes_nowhere : Closed m n → client_slot m n ≡ Err NotOpen
    unfolding first_of multiplexer_verdict open_slot
    goes_nowhere h = simp ((decides_multiplexer m).passes v, fails (decides_client m n) (λ k. h k.0 k.1 k.2))
