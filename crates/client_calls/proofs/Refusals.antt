-- A call by client that is refused changes nothing and counts 0; and every one leaves a valid multiplexer valid. Assumes nothing.
use Prim.Native.Nat.{ℕ}
use mathlib.Core.Path.{◌≡◌, refl, ap, ◌∙◌}
use mathlib.Core.Bool.{true}
use mathlib.Core.Logic.{⊎_elim}
use mathlib.Core.List.{List, []}
use lib.ListN.{length}
use lib.Seq.{set-get_or}
use Rattle.laws.proofs.Tests.{either}
use Rattle.screen.proofs.Sizes.{decides_screen}
use Rattle.port.specs.declared.Port.{Port}
use Rattle.reply.specs.declared.Status.TheVariants.{Done, ScreenLength}
use Rattle.reply.specs.Reply.{refusal_with}
use Rattle.reply.specs.Laws.{ChangesNothing}
use Rattle.calls.specs.Taking.{none_taken}
use Rattle.calls.proofs.Refusals.{Unchanged, written_refuses, returned_refuses, restored_refuses, taken_refuses}
use Rattle.slots.specs.declared.Slot.{Slot}
use Rattle.slots.specs.declared.Multiplexer.{Multiplexer}
use Rattle.slots.specs.State.{no_slot, slot_at, with_port}
use Rattle.slots.specs.Valid.{ValidMultiplexer}
use Rattle.multiplexer.specs.Located.{client_slot}
use Rattle.multiplexer.specs.Calls.{relayed, close_call, closed_at}
use Rattle.multiplexer.proofs.Replying.{located_off, at_refusal, by_slot}
use Rattle.client_calls.specs.Serve.{CallReply, counted, Kind, Call, call_by, lent_block, takes_screen, call_on_port, serve}
use Rattle.client_calls.specs.Serve.Kind.{Write, Return, Restore, Take}
use Rattle.client_calls.proofs.Serving.{serves_calls, frame}
use Rattle.client_calls.proofs.Taken.{take_valid}

-- a slot's own port put back
pub port_again : (m : Multiplexer) (i : ℕ) → with_port m i (slot_at m i).port ≡ m
port_again m i = ap (λ (xs : List Slot). record { slots = xs }) (set-get_or m.slots i no_slot)

-- a call of any kind that is refused changes nothing, counts 0 and hands no marks out
abbrev pub LeavesAll : {State : Type 0} → State → List ℕ → List ℕ → CallReply State → Type 0
LeavesAll state s block reply = ChangesNothing Done none_taken state s block reply

-- a call on a port, by kind
port_refuses : (kind : Kind) (p : Port) (s : List ℕ) → LeavesAll p s (lent_block kind) (call_on_port kind p s)
port_refuses (Write bytes) p s e = ap counted (written_refuses p s bytes e)
port_refuses (Return block) p s e = ap counted (returned_refuses p s block e)
port_refuses (Restore block) p s e = ap counted (restored_refuses p s block e)
port_refuses Take p s e = taken_refuses p s [] e

relay_refuses : (m : Multiplexer) (s block : List ℕ) (i : ℕ) (r : CallReply Port) → LeavesAll (slot_at m i).port s block r → LeavesAll m s block (relayed m i r)
relay_refuses m s block i r h e = ap (relayed m i) (h e) ∙ ap (λ (x : Multiplexer). refusal_with none_taken r.status x s block) (port_again m i)

-- 'a refused call changes no cell, no seat and no lent block'
pub serve_refuses : (m : Multiplexer) (s : List ℕ) (c : Call) → LeavesAll m s (lent_block c.kind) (serve m s c)
unfolding serve
serve_refuses m s c =
    let block = lent_block c.kind in
    by_slot none_taken m s block _ (LeavesAll m s block) _ (λ status _ e. refl) (λ i _. relay_refuses m s block i _ (port_refuses c.kind (slot_at m i).port s))

pub close_refuses : (m : Multiplexer) (n : ℕ) → Unchanged m [] [] (close_call m n)
close_refuses m n = by_slot 0 m [] [] (closed_at m) (Unchanged m [] []) (client_slot m n) (λ status _ e. refl) (λ i _ e. absurd (e refl))

-- a call that takes a screen is refused with 1 where the lent bytes are none
refused_length : (m : Multiplexer) (s : List ℕ) (c : Call) → takes_screen c.kind ≡ true → (length s ≡ 1920 → ⊥) → serve m s c ≡ refusal_with none_taken ScreenLength m s (lent_block c.kind)
unfolding serve
refused_length m s c takes no_screen = rw takes (at_refusal none_taken m s (lent_block c.kind) _ _ ScreenLength (located_off s (client_slot m c.client) no_screen))

-- every call, refused or not, leaves a valid multiplexer
pub serve_valid : (m : Multiplexer) (s : List ℕ) (c : Call) → ValidMultiplexer m → ValidMultiplexer (serve m s c).state
serve_valid m s c v = ⊎_elim (λ l. (frame m s c v l).valid) (λ no_screen. unlent c.kind no_screen) (either (decides_screen (length s)))
  where
    unlent : (kind : Kind) → (length s ≡ 1920 → ⊥) → ValidMultiplexer (serve m s (call_by c.client kind)).state
    unlent (Write bytes) no_screen = rw (refused_length m s (call_by c.client (Write bytes)) refl no_screen) v
    unlent (Return block) no_screen = rw (refused_length m s (call_by c.client (Return block)) refl no_screen) v
    unlent (Restore block) no_screen = rw (refused_length m s (call_by c.client (Restore block)) refl no_screen) v
    unlent Take no_screen = rw (serves_calls.take m s c.client) (take_valid m c.client v)
