-- A client's call, and its next one, are the calls on the port of its slot. Assumes nothing.
use Prim.Native.Nat.{ℕ}
use mathlib.Core.Path.{◌≡◌, sym, ap, ◌∙◌}
use mathlib.Core.List.{List}
use lib.Seq.{set-set}
use Rattle.port.specs.declared.Port.{Port}
use Rattle.calls.specs.Calls.{written, block_returned, block_restored}
use Rattle.slots.specs.declared.Multiplexer.{Multiplexer}
use Rattle.slots.specs.State.{slot_at, with_port}
use Rattle.slots.proofs.Slots.{slot_set}
use Rattle.multiplexer.specs.Calls.{MultiplexerReply, relayed, write_call, return_call, restore_call}
use Rattle.client_calls.specs.Serve.{CallReply, Kind, call_by, call_on_port, serve}
use Rattle.client_calls.specs.Serve.Kind.{Write, Return, Restore}
use Rattle.client_calls.specs.Laws.{GoesTo}
use Rattle.client_calls.proofs.Serving.{serves_calls, goes_to, frame}

module _ {m : Multiplexer} {s : List ℕ} {n i : ℕ} (g : GoesTo m s n i) where
  pub one_call : (kind : Kind) → serve m s (call_by n kind) ≡ relayed m i (call_on_port kind (slot_at m i).port s)
  one_call kind = goes_to m s (call_by n kind) g.valid g.len i g.is_open g.client

  -- a second port in the slot
  relayed_again : (q : Port) (f : Port → CallReply Port) → relayed (with_port m i q) i (f (slot_at (with_port m i q) i).port) ≡ relayed m i (f q)
  relayed_again q f = rw (slot_set m g.valid i g.is_open.0 (record { client = (slot_at m i).client; port = q }), set-set)

  still_goes : (kind : Kind) → GoesTo (serve m s (call_by n kind)).state (serve m s (call_by n kind)).screen n i
  still_goes kind =
      let f = frame m s (call_by n kind) g.valid g.len in
      let same = f.labels.client i in
      record { valid = f.valid; len = f.len; is_open = (g.is_open.0, λ e. g.is_open.1 (sym same ∙ e)); client = same ∙ g.client }

pub next_call : {m : Multiplexer} {s : List ℕ} {n i : ℕ} (g : GoesTo m s n i) (first second : Kind)
    → serve (serve m s (call_by n first)).state (serve m s (call_by n first)).screen (call_by n second)
    ≡ relayed m i (call_on_port second (call_on_port first (slot_at m i).port s).state (call_on_port first (slot_at m i).port s).screen)
next_call {m} {s} {n} {i} g first second =
    let x : CallReply Port = call_on_port first (slot_at m i).port s in
    one_call (still_goes g first) second
    ∙ ap (λ (r : CallReply Multiplexer). relayed r.state i (call_on_port second (slot_at r.state i).port r.screen)) (one_call g first)
    ∙ relayed_again g x.state (λ (q : Port). call_on_port second q x.screen)

-- ---- of the calls that count, the count alone
abbrev count_of : CallReply Multiplexer → MultiplexerReply
count_of r = record { status = r.status; state = r.state; result = r.result.count; screen = r.screen; block = r.block }

module _ {m : Multiplexer} {s : List ℕ} {n i : ℕ} (g : GoesTo m s n i) where
  pub writes : (bytes : List ℕ) → write_call m s n bytes ≡ relayed m i (written (slot_at m i).port s bytes)
  writes bytes = sym (ap count_of (serves_calls.write m s n bytes)) ∙ ap count_of (one_call g (Write bytes))

  pub returns : (block : List ℕ) → return_call m s n block ≡ relayed m i (block_returned (slot_at m i).port s block)
  returns block = sym (ap count_of (serves_calls.return m s n block)) ∙ ap count_of (one_call g (Return block))

  pub restores : (block : List ℕ) → restore_call m s n block ≡ relayed m i (block_restored (slot_at m i).port s block)
  restores block = sym (ap count_of (serves_calls.restore m s n block)) ∙ ap count_of (one_call g (Restore block))

  -- a write after a write
  pub writes_next : (a b : List ℕ)
      → write_call (write_call m s n a).state (write_call m s n a).screen n b ≡ relayed m i (written (written (slot_at m i).port s a).state (written (slot_at m i).port s a).screen b)
  writes_next a b =
      sym (ap count_of (serves_calls.write (write_call m s n a).state (write_call m s n a).screen n b))
      ∙ sym (ap (λ (r : CallReply Multiplexer). count_of (serve r.state r.screen (call_by n (Write b)))) (serves_calls.write m s n a))
      ∙ ap count_of (next_call g (Write a) (Write b))
