-- One call on a valid multiplexer: which slot it goes to, and its frame: valid, lengths, every slot but the addressed one, every cell outside the addressed pane. Assumes nothing.
use Prim.Native.Nat.{ℕ}
use mathlib.Core.Path.{◌≡◌, refl, sym, ap, ◌∙◌}
use mathlib.Core.Logic.{⊎_elim}
use mathlib.Core.List.{List, []}
use lib.ListN.{length, get_or}
use Rattle.laws.proofs.Tests.{by_test}
use Rattle.rectangle.specs.Cells.{Inside}
use Rattle.port.specs.declared.Port.{Port}
use Rattle.port.specs.Valid.{ValidPort}
use Rattle.reply.specs.declared.Status.TheVariants.{NotOpen}
use Rattle.reply.specs.Reply.{refusal_with}
use Rattle.calls.specs.Taking.{none_taken, marks_taken}
use Rattle.slots.specs.declared.Slot.{Slot}
use Rattle.slots.specs.declared.Multiplexer.{Multiplexer}
use Rattle.slots.specs.State.{slot_at, pane, Open, with_port, Closed}
use Rattle.slots.specs.Valid.{ValidMultiplexer}
use Rattle.slots.proofs.Slots.{client?, slot_kept, at_place, set_valid}
use Rattle.multiplexer.specs.Located.{client_slot, located_on}
use Rattle.multiplexer.specs.Calls.{on_slot, relayed}
use Rattle.multiplexer.proofs.Clients.{goes_to_slot, goes_nowhere}
use Rattle.multiplexer.proofs.Replying.{located_on_lem, at_slot, at_refusal, map_slot}
use Rattle.client_calls.specs.Serve.{CallReply, counted, Call, lent_block, takes_screen, call_on_port, serve, with_screen, ServesCalls}
use Rattle.client_calls.proofs.Consoles.{keeps_call}

-- the calls are those that the multiplexer's contracts cite
pub serves_calls : ServesCalls serve
unfolding serve marks_taken
serves_calls = record {
  write = λ m s n bytes. map_slot 0 none_taken m s bytes s bytes _ counted (λ status. refl) (located_on (length s) (client_slot m n));
  return = λ m s n block. map_slot 0 none_taken m s block s block _ counted (λ status. refl) (located_on (length s) (client_slot m n));
  restore = λ m s n block. map_slot 0 none_taken m s block s block _ counted (λ status. refl) (located_on (length s) (client_slot m n));
  take = λ m s n. map_slot none_taken none_taken m [] [] s [] _ (with_screen s) (λ status. refl) (client_slot m n);
}

-- the same clients and panes
pub record SameLabels (a b : Multiplexer) : Type 0 where
  pub client : (i : ℕ) → (slot_at a i).client ≡ (slot_at b i).client
  pub home : (i : ℕ) → pane a i ≡ pane b i

-- another port of the same home in an open slot
module _ (m : Multiplexer) (v : ValidMultiplexer m) (i : ℕ) (o : Open m i) (p : Port) (h : p.home ≡ pane m i) where
  pub port_valid : ValidPort p → ValidMultiplexer (with_port m i p)
  port_valid k =
      set_valid m v i o.0 _ (λ e. absurd (o.1 e), λ _. k)
      (λ j n u _. (λ e. n (v.clients j i u o e), λ c f g. v.panes j i u o n c f (rw h at g)))

  port_labels : SameLabels (with_port m i p) m
  port_labels =
      let at = at_place m v i o.0 (record { client = (slot_at m i).client; port = p }) in
      record {
        client = λ j. ⊎_elim (λ k. ap (λ (y : Slot). y.client) k.1 ∙ ap (λ (y : ℕ). (slot_at m y).client) (sym k.0)) (λ k. ap (λ (y : Slot). y.client) k.1) (at j);
        home = λ j. ⊎_elim (λ k. ap (λ (y : Slot). y.port.home) k.1 ∙ h ∙ ap (pane m) (sym k.0)) (λ k. ap (λ (y : Slot). y.port.home) k.1) (at j);
      }

-- what any call of client n keeps
pub record Frame (m : Multiplexer) (s : List ℕ) (n : ℕ) (r : CallReply Multiplexer) : Type 0 where
  pub valid : ValidMultiplexer r.state
  pub len : length r.screen ≡ 1920
  pub labels : SameLabels r.state m
  pub slots : (i : ℕ) → (Open m i → (slot_at m i).client ≡ n → ⊥) → slot_at r.state i ≡ slot_at m i
  pub cells : (k : ℕ) → ((i : ℕ) → Open m i → (slot_at m i).client ≡ n → Inside (pane m i) k → ⊥) → get_or r.screen k 0 ≡ get_or s k 0

module _ (m : Multiplexer) (s : List ℕ) (c : Call) where
  -- what the call leaves at slot i
  abbrev served_at : ℕ → CallReply Multiplexer
  served_at i = relayed m i (call_on_port c.kind (slot_at m i).port s)

  -- with 1,920 cells no call is refused with 1, whether it takes a screen or not
  pub on_cells : length s ≡ 1920 → serve m s c ≡ on_slot none_taken (client_slot m c.client) m s (lent_block c.kind) served_at
  unfolding serve
  on_cells l = rw (located_on_lem s (client_slot m c.client) l) (by_test (λ x. on_slot none_taken x m s (lent_block c.kind) served_at ≡ on_slot none_taken (client_slot m c.client) m s (lent_block c.kind) served_at) (takes_screen c.kind) (λ _. refl) (λ _. refl))

module _ (m : Multiplexer) (s : List ℕ) (c : Call) (v : ValidMultiplexer m) (l : length s ≡ 1920) where
  -- a client with no open slot
  pub turned_away : Closed m c.client → serve m s c ≡ refusal_with none_taken NotOpen m s (lent_block c.kind)
  turned_away h = on_cells m s c l ∙ at_refusal none_taken m s (lent_block c.kind) (served_at m s c) _ NotOpen (goes_nowhere m c.client v h)

  -- a client with an open slot
  pub goes_to : (i : ℕ) → Open m i → (slot_at m i).client ≡ c.client → serve m s c ≡ relayed m i (call_on_port c.kind (slot_at m i).port s)
  goes_to i o e = on_cells m s c l ∙ at_slot none_taken m s (lent_block c.kind) (served_at m s c) _ i (goes_to_slot m c.client v i o e)

  pub frame : Frame m s c.client (serve m s c)
  frame =
      ⊎_elim
      (λ f. let i = f.0 in
      let o = f.1 in
      let k = keeps_call (slot_at m i).port (v.ports i o) c.kind s l in
      rw (goes_to i o f.2)
      (record {
        valid = port_valid m v i o _ k.home k.valid;
        len = k.len;
        labels = port_labels m v i o _ k.home;
        slots = λ j n. slot_kept m v i o.0 _ j (λ e. n (rw e o) (rw e f.2));
        cells = λ j n. k.outside j (n i o f.2);
      }))
      (λ h. rw (turned_away h) (record { valid = v; len = l; labels = record { client = λ i. refl; home = λ i. refl }; slots = λ i n. refl; cells = λ k n. refl }))
      (client? m c.client)
