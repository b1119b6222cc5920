-- What a taking by client leaves, refused or not. Assumes nothing.
use Prim.Native.Nat.{ℕ}
use mathlib.Core.Path.{◌≡◌, refl}
use mathlib.Core.Logic.{⊎_elim}
use mathlib.Core.List.{[]}
use Rattle.marks.specs.Marks.{no_marks}
use Rattle.marks.proofs.Marking.{none_within}
use Rattle.port.proofs.Validity.{marks_valid}
use Rattle.reply.specs.declared.Status.TheVariants.{Done, NotOpen}
use Rattle.reply.specs.Reply.{refusal_with}
use Rattle.reply.specs.Laws.{ChangesNothing}
use Rattle.calls.specs.Taking.{none_taken, marks_taken}
use Rattle.slots.specs.declared.Multiplexer.{Multiplexer}
use Rattle.slots.specs.State.{slot_at, pane, Open, Closed}
use Rattle.slots.specs.Valid.{ValidMultiplexer}
use Rattle.slots.proofs.Slots.{client?}
use Rattle.multiplexer.specs.Located.{client_slot}
use Rattle.multiplexer.specs.Calls.{relayed, take_call}
use Rattle.multiplexer.proofs.Clients.{goes_to_slot, goes_nowhere}
use Rattle.multiplexer.proofs.Replying.{at_slot, at_refusal, by_slot}
use Rattle.client_calls.proofs.Serving.{port_valid}

-- the marks of an open client's port, which then has none; nothing else changes
pub taken_leaves : (m : Multiplexer) (n : ℕ) → ValidMultiplexer m → (i : ℕ) → Open m i → (slot_at m i).client ≡ n → take_call m n ≡ relayed m i (marks_taken (slot_at m i).port [] [])
taken_leaves m n v i o e = at_slot none_taken m [] [] _ _ i (goes_to_slot m n v i o e)

pub taken_nowhere : (m : Multiplexer) (n : ℕ) → ValidMultiplexer m → Closed m n → take_call m n ≡ refusal_with none_taken NotOpen m [] []
taken_nowhere m n v h = at_refusal none_taken m [] [] _ _ NotOpen (goes_nowhere m n v h)

-- 'refusals, with no marks and 0'
pub take_refuses : (m : Multiplexer) (n : ℕ) → ChangesNothing Done none_taken m [] [] (take_call m n)
unfolding marks_taken
take_refuses m n = by_slot none_taken m [] [] _ (ChangesNothing Done none_taken m [] []) (client_slot m n) (λ status _ e. refl) (λ i _ e. absurd (e refl))

pub take_valid : (m : Multiplexer) (n : ℕ) → ValidMultiplexer m → ValidMultiplexer (take_call m n).state
unfolding marks_taken
take_valid m n v =
    ⊎_elim
    (λ k. let i = k.0 in
    let o = k.1 in
    rw (taken_leaves m n v i o k.2) (port_valid m v i o _ refl (marks_valid (slot_at m i).port (v.ports i o) no_marks (none_within (pane m i)))))
    (λ h. rw (taken_nowhere m n v h) v)
    (client? m n)
