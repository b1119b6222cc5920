-- Paper 01, 'What comes back': the calls by client. 'Open: 1 to 7. Close: 2, 8. Write: 1, 2, 8. Return: 1, 2, 8, 9. Restore: 1, 2, 8, 10.' Request 02, of a taking: '2, 8'. Assumes nothing.
use Rattle.std.specs.Prelude.{ℕ, List, [], length, Ok, Err}
use Rattle.rectangle.specs.declared.Rect.{Rect}
use Rattle.rectangle.specs.declared.Motion.TheVariants.{Clear}
use Rattle.rectangle.specs.Edit.{edited}
use Rattle.port.specs.declared.Port.{Port}
use Rattle.reply.specs.declared.Status.{Status}
use Rattle.reply.specs.declared.Status.TheVariants.{Done}
use Rattle.reply.specs.Reply.{Reply, refusal_with}
use Rattle.calls.specs.Calls.{PortCall, written, block_returned, block_restored}
use Rattle.calls.specs.Taking.{Taken, none_taken, marks_taken}
use Rattle.slots.specs.declared.Multiplexer.{Multiplexer}
use Rattle.slots.specs.State.{free_slot, slot_at, with_slot, with_port, fresh_slot}
use Rattle.multiplexer.specs.Located.{Located, client_slot, claim_slot, located_on}

-- what a call by client leaves whose result is a count
abbrev pub MultiplexerReply : Type 0
MultiplexerReply = Reply Status Multiplexer ℕ

-- the refusal, or the reply at the slot; where it is refused, the result says nothing
unfoldable pub on_slot : {Result : Type 0} → Result → Located → Multiplexer → List ℕ → List ℕ → (ℕ → Reply Status Multiplexer Result) → Reply Status Multiplexer Result
on_slot nothing (Err status) m s block reply = refusal_with nothing status m s block
on_slot nothing (Ok i) m s block reply = reply i

-- what a call on the port of slot i leaves
abbrev pub relayed : {Result : Type 0} → Multiplexer → ℕ → Reply Status Port Result → Reply Status Multiplexer Result
relayed m i r = record { status = r.status; state = with_port m i r.state; result = r.result; screen = r.screen; block = r.block }

-- a call on a client's port, wherever it is found to go: 2, 8, and else what it does there, with its 9 and 10
abbrev pub on_client : PortCall → Located → Multiplexer → List ℕ → List ℕ → MultiplexerReply
on_client call located m s block = on_slot 0 located m s block (λ i. relayed m i (call (slot_at m i).port s block))

-- the three of them take a screen: 1 before the rest
abbrev pub write_call : Multiplexer → List ℕ → ℕ → List ℕ → MultiplexerReply
write_call m s n bytes = on_client written (located_on (length s) (client_slot m n)) m s bytes

abbrev pub return_call : Multiplexer → List ℕ → ℕ → List ℕ → MultiplexerReply
return_call m s n block = on_client block_returned (located_on (length s) (client_slot m n)) m s block

abbrev pub restore_call : Multiplexer → List ℕ → ℕ → List ℕ → MultiplexerReply
restore_call m s n block = on_client block_restored (located_on (length s) (client_slot m n)) m s block

-- a taking takes no screen; 'refusals, with no marks and 0'
abbrev pub take_call : Multiplexer → ℕ → Reply Status Multiplexer Taken
take_call m n = on_slot none_taken (client_slot m n) m [] [] (λ i. relayed m i (marks_taken (slot_at m i).port [] []))

-- what an opening leaves at its slot: it 'takes the lowest free seat, starts a fresh port and blanks the pane', and its lines are marked. A blank is $A0. No block is lent.
abbrev pub opened_at : Multiplexer → List ℕ → ℕ → Rect → ℕ → MultiplexerReply
opened_at m s n pane i = record { status = Done; state = with_slot m i (fresh_slot n pane); result = 0; screen = edited pane Clear 0xa0 s; block = [] }

abbrev pub open_call : Multiplexer → List ℕ → ℕ → Rect → MultiplexerReply
open_call m s n pane = on_slot 0 (located_on (length s) (claim_slot m n pane)) m s [] (opened_at m s n pane)

-- what a closing leaves: it 'sets every field of the seat to 0 or false .. and changes no cell'. No screen is lent, and no block.
abbrev pub closed_at : Multiplexer → ℕ → MultiplexerReply
closed_at m i = record { status = Done; state = with_slot m i free_slot; result = 0; screen = []; block = [] }

abbrev pub close_call : Multiplexer → ℕ → MultiplexerReply
close_call m n = on_slot 0 (client_slot m n) m [] [] (closed_at m)
