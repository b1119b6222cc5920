-- The fresh multiplexer is valid; what a closing leaves; and every closing leaves a valid multiplexer valid. Assumes nothing.
use Prim.Native.Nat.{ℕ}
use mathlib.Core.Path.{◌≡◌, refl}
use mathlib.Core.Bool.{true}
use mathlib.Core.Logic.{⊎_elim}
use mathlib.Core.List.{[]}
use Rattle.reply.specs.declared.Status.TheVariants.{Done, NotOpen}
use Rattle.reply.specs.Reply.{refusal}
use Rattle.slots.specs.declared.Multiplexer.{Multiplexer}
use Rattle.slots.specs.State.{free_slot, fresh_multiplexer, slot_at, Open, Closed}
use Rattle.slots.specs.Valid.{compatible, valid_slots, valid_multiplexer, ValidMultiplexer}
use Rattle.slots.proofs.Validity.{decides_slot, free_valid, decides_multiplexer}
use Rattle.slots.proofs.Slots.{client?, slot_set, slot_kept, set_valid}
use Rattle.multiplexer.specs.Calls.{MultiplexerReply, closed_at, close_call}
use Rattle.multiplexer.proofs.Clients.{goes_to_slot, goes_nowhere}
use Rattle.multiplexer.proofs.Replying.{at_slot, at_refusal}

pub record Closing (m : Multiplexer) (i : ℕ) (reply : MultiplexerReply) : Type 0 where
  pub status : reply.status ≡ Done
  pub valid : ValidMultiplexer reply.state
  -- 'sets every field of the seat to 0 or false'
  pub slot : slot_at reply.state i ≡ free_slot
  pub others : (j : ℕ) → (j ≡ i → ⊥) → slot_at reply.state j ≡ slot_at m j

pub closed_leaves : (m : Multiplexer) (n : ℕ) → ValidMultiplexer m → (i : ℕ) → Open m i → (slot_at m i).client ≡ n → Closing m i (close_call m n)
closed_leaves m n v i o e =
    rw (at_slot 0 m [] [] (closed_at m) _ i (goes_to_slot m n v i o e))
    (record {
      status = refl;
      valid = set_valid m v i o.0 free_slot free_valid (λ j k u z. absurd (z (unfold free_slot in refl)));
      slot = slot_set m v i o.0 free_slot;
      others = slot_kept m v i o.0 free_slot;
    })

pub close_refused : (m : Multiplexer) (n : ℕ) → ValidMultiplexer m → Closed m n → close_call m n ≡ refusal NotOpen m [] []
close_refused m n v h = at_refusal 0 m [] [] (closed_at m) _ NotOpen (goes_nowhere m n v h)

pub close_valid : (m : Multiplexer) (n : ℕ) → ValidMultiplexer m → ValidMultiplexer (close_call m n).state
close_valid m n v =
    ⊎_elim (λ k. (closed_leaves m n v k.0 k.1 k.2).valid) (λ h. rw (close_refused m n v h) v) (client? m n)

-- a fresh multiplexer is valid: each of its slots is, and no two of them are open
free_compatible : compatible free_slot free_slot ≡ true
unfolding compatible free_slot
free_compatible = refl

pub fresh_multiplexer_lem : ValidMultiplexer fresh_multiplexer
unfolding valid_multiplexer valid_slots
fresh_multiplexer_lem = (decides_multiplexer fresh_multiplexer).holds (simp ((decides_slot free_slot).passes free_valid, free_compatible))
