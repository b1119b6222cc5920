-- One call by client, whatever its kind, and the calls that the multiplexer's contracts cite. Assumes nothing.
use Rattle.std.specs.Prelude.{ℕ, ◌≡◌, Bool, true, false, cond, List, [], length}
use Rattle.marks.specs.Marks.{no_marks}
use Rattle.port.specs.declared.Port.{Port}
use Rattle.reply.specs.declared.Status.{Status}
use Rattle.reply.specs.Reply.{Reply}
use Rattle.calls.specs.Calls.{written, block_returned, block_restored}
use Rattle.calls.specs.Taking.{Taken, taken_of, none_taken, marks_taken}
use Rattle.slots.specs.declared.Multiplexer.{Multiplexer}
use Rattle.slots.specs.State.{slot_at}
use Rattle.multiplexer.specs.Located.{client_slot, located_on}
use Rattle.multiplexer.specs.Calls.{on_slot, relayed, write_call, return_call, restore_call, take_call}

-- what a call of any kind leaves: besides a count, a taking hands marks out
abbrev pub CallReply : Type 0 → Type 0
CallReply State = Reply Status State Taken

-- .. a call whose result is a count alone: it hands no marks out
abbrev pub counted : {State : Type 0} → Reply Status State ℕ → CallReply State
counted r = record { status = r.status; state = r.state; result = taken_of no_marks r.result; screen = r.screen; block = r.block }

-- paper 01, 'Demand 3: the lone bench': a call's 'kind and arguments without the wall and screen'. 'A block is lent to one call only.' Request 02: 'taking them joins demand 3'.
pub data Kind : Type 0 where
  Write Return Restore : List ℕ → Kind
  Take : Kind

-- the bytes that are lent to the call besides the screen
abbrev pub lent_block : Kind → List ℕ
lent_block (Write bytes) = bytes
lent_block (Return block) = block
lent_block (Restore block) = block
lent_block Take = []

-- whether the call takes a screen
abbrev pub takes_screen : Kind → Bool
takes_screen (Write bytes) = true
takes_screen (Return block) = true
takes_screen (Restore block) = true
takes_screen Take = false

-- what the call does to a valid port and 1,920 cells
abbrev pub call_on_port : Kind → Port → List ℕ → CallReply Port
call_on_port (Write bytes) p s = counted (written p s bytes)
call_on_port (Return block) p s = counted (block_returned p s block)
call_on_port (Restore block) p s = counted (block_restored p s block)
call_on_port Take p s = marks_taken p s []

-- a call by client
pub record Call : Type 0 where
  pub client : ℕ
  pub kind : Kind

abbrev pub call_by : ℕ → Kind → Call
call_by n kind = record { client = n; kind = kind }

-- what serves one call: `serve`, or another that is held to the same laws
abbrev pub Server : Type 0
Server = Multiplexer → List ℕ → Call → CallReply Multiplexer

-- 2, then 8, and else the call on the port of the client's slot; 1 before them where the call takes a screen
unfoldable pub serve : Server
serve m s c =
    let located = client_slot m c.client in
    on_slot none_taken (cond (takes_screen c.kind) (located_on (length s) located) located) m s (lent_block c.kind) (λ i. relayed m i (call_on_port c.kind (slot_at m i).port s))

-- a call that no screen is lent to leaves the screen as it was
abbrev pub with_screen : {State Result : Type 0} → List ℕ → Reply Status State Result → Reply Status State Result
with_screen s r = record { status = r.status; state = r.state; result = r.result; screen = s; block = r.block }

-- the calls that the multiplexer's contracts cite
pub record ServesCalls (f : Server) : Type 0 where
  pub write : (m : Multiplexer) (s : List ℕ) (n : ℕ) (bytes : List ℕ) → f m s (call_by n (Write bytes)) ≡ counted (write_call m s n bytes)
  pub return : (m : Multiplexer) (s : List ℕ) (n : ℕ) (block : List ℕ) → f m s (call_by n (Return block)) ≡ counted (return_call m s n block)
  pub restore : (m : Multiplexer) (s : List ℕ) (n : ℕ) (block : List ℕ) → f m s (call_by n (Restore block)) ≡ counted (restore_call m s n block)
  pub take : (m : Multiplexer) (s : List ℕ) (n : ℕ) → f m s (call_by n Take) ≡ with_screen s (take_call m n)
