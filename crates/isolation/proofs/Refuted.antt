-- Servers that demand 3 excludes, and one that does not make the calls of the contracts. Assumes nothing.
use Prim.Native.Nat.{ℕ}
use native.Mathlib.Omega.{arith}
use mathlib.Core.Path.{◌≡◌, refl, sym, ap, ◌∙◌}
use mathlib.Core.Bool.{cond}
use mathlib.Core.List.{List, [], ◌∷◌}
use lib.Dec.{ltb, eqb}
use lib.ListN.{length, get_or, set, length-set}
use Rattle.std.proofs.lemmas.Bool.{both_ways}
use Rattle.rectangle.specs.Edit.{draw}
use Rattle.screen.specs.Size.{blank_screen}
use Rattle.screen.proofs.Sizes.{blank_size}
use Rattle.block.specs.Block.{block_length, block_fits, row_start, row_cells, rows_from, block_of}
use Rattle.marks.specs.Marks.{marked}
use Rattle.port.specs.Valid.{parameters}
use Rattle.port.specs.Step.{control, obey, step}
use Rattle.port.specs.Stream.{stream}
use Rattle.reply.specs.declared.Status.TheVariants.{Done, NotOpen}
use Rattle.reply.specs.Numbers.{status_number}
use Rattle.reply.specs.Reply.{refusal_with}
use Rattle.calls.specs.Calls.{written, block_returned, block_restored}
use Rattle.calls.specs.Taking.{none_taken, marks_taken}
use Rattle.slots.specs.declared.Slot.{Slot}
use Rattle.slots.specs.declared.Multiplexer.{Multiplexer}
use Rattle.slots.specs.State.{free_slot, slot_at, slot_of}
use Rattle.slots.proofs.Validity.{decides_multiplexer}
use Rattle.multiplexer.specs.Calls.{relayed}
use Rattle.client_calls.specs.Serve.{CallReply, Kind, Call, call_by, lent_block, takes_screen, call_on_port, Server, serve, ServesCalls}
use Rattle.isolation.specs.Isolation.{Answer, serve_all, standalone, calls_of, answers_to, Isolation}
use Rattle.client_calls.specs.Serve.Kind.{Write, Return, Restore, Take}
use Rattle.client_calls.proofs.Serving.{serves_calls, goes_to}
use Rattle.isolation.proofs.Instance.{pair, pair_valid, left_open, right_open, none_0}

-- the call, on slot i whatever its client
abbrev on_place : ℕ → Server
on_place i m s c = relayed m i (call_on_port c.kind (slot_at m i).port s)

-- a write of $0F, inverse text, and one of nothing
inverts : ℕ → List Call
inverts n = call_by n (Write (0x0f ∷ [])) ∷ []

empties : ℕ → List Call
empties n = call_by n (Write []) ∷ []

-- one that serves the first slot whatever the number: client 200 turns client 7's text inverse
not_first_slot : Isolation (on_place 0) → ⊥
unfolding pair inverts serve_all calls_of standalone written stream step parameters control obey
not_first_slot d = both_ways _ (ap (λ (x : Slot). x.port.view.inverse) ((d.isolated pair blank_screen (inverts 200) pair_valid blank_size).ports 0 left_open)) refl

-- one that does nothing, and says that it is done
does_nothing : Server
does_nothing m s c = refusal_with none_taken Done m s (lent_block c.kind)

not_nothing : Isolation does_nothing → ⊥
unfolding does_nothing pair inverts serve_all calls_of standalone written stream step parameters control obey
not_nothing d = both_ways _ refl (ap (λ (x : Slot). x.port.view.inverse) ((d.isolated pair blank_screen (inverts 7) pair_valid blank_size).ports 0 left_open))

-- the number of the first answer
first_number : List Answer → ℕ
first_number [] = 0
first_number (a ∷ xs) = a.number

-- one that always answers 8
always8 : Server
always8 m s c = refusal_with none_taken NotOpen m s (lent_block c.kind)

not_always_8 : Isolation always8 → ⊥
unfolding always8 first_number pair empties serve_all calls_of standalone answers_to written
not_always_8 d =
    let e : ◌≡◌ {A = ℕ} 8 0 = ap first_number ((d.isolated pair blank_screen (empties 7) pair_valid blank_size).answers 0 left_open) in
    omega arith

-- one that finds client 0 in a free slot
finds_zero : Server
finds_zero m s c = cond (ltb (slot_of m c.client) 4) (on_place (slot_of m c.client) m s c) (refusal_with none_taken NotOpen m s (lent_block c.kind))

not_finds_zero : Isolation finds_zero → ⊥
unfolding finds_zero first_number pair free_slot slot_of empties serve_all calls_of answers_to written
not_finds_zero d =
    let e : ◌≡◌ {A = ℕ} 0 8 = ap first_number ((d.isolated pair blank_screen (empties 0) pair_valid blank_size).answers_8 0 (none_0 pair)) in
    omega arith

-- one that serves as it should, and changes the first cell of the screen when client 200 calls
writes_outside : Server
writes_outside m s c =
    let r : CallReply Multiplexer = serve m s c in
    cond (eqb c.client 200) (record { status = r.status; state = r.state; result = r.result; screen = set r.screen 0 0; block = r.block }) r

not_writes_outside : Isolation writes_outside → ⊥
unfolding writes_outside blank_screen pair empties serve_all calls_of standalone written stream draw
not_writes_outside d =
    let cell = (d.isolated pair blank_screen (empties 200) pair_valid blank_size).cells 0 left_open 0 (omega arith) in
    let served = goes_to pair blank_screen (call_by 200 (Write [])) ((decides_multiplexer pair).holds pair_valid) blank_size 1 right_open refl in
    let e : ◌≡◌ {A = ℕ} 0 0xa0 = rw served at cell in
    omega arith

-- one that serves as it should, but for a block return, which shows the second slot's cells
shows_other : Server
shows_other m s c =
    let r : CallReply Multiplexer = serve m s c in
    record { status = r.status; state = r.state; result = r.result; screen = r.screen; block = (on_place 1 m s c).block }

lettered_screen : List ℕ
lettered_screen = set blank_screen 0 0x81

-- the first cell of the first answer's block
first_cell : List Answer → ℕ
first_cell [] = 0
first_cell (a ∷ xs) = get_or a.block 2 0

not_shows_other : Isolation shows_other → ⊥
unfolding shows_other lettered_screen first_cell blank_screen pair serve_all calls_of standalone answers_to block_returned block_length block_of rows_from row_cells row_start
not_shows_other d =
    let len : length lettered_screen ≡ 1920 = length-set blank_screen 0 0x81 ∙ blank_size in
    let e : ◌≡◌ {A = ℕ} 0xa0 0x81 = ap first_cell ((d.isolated pair lettered_screen (call_by 7 (Return (0 ∷ 0 ∷ 0 ∷ 0 ∷ 0 ∷ 0 ∷ [])) ∷ []) pair_valid len).answers 0 left_open) in
    omega arith

-- one that serves as it should, but for a taking, which hands the marks out and leaves them
keeps_marks : Server
keeps_marks m s c =
    let r : CallReply Multiplexer = serve m s c in
    cond (takes_screen c.kind) r (record { status = r.status; state = m; result = r.result; screen = r.screen; block = r.block })

not_keeps_marks : Isolation keeps_marks → ⊥
unfolding keeps_marks pair serve_all calls_of standalone marks_taken marked
not_keeps_marks d =
    let e : ◌≡◌ {A = ℕ} 3 0 = ap (λ (x : Slot). x.port.marks) ((d.isolated pair blank_screen (call_by 7 Take ∷ []) pair_valid blank_size).ports 0 left_open) in
    omega arith

-- and one that its calls exclude: a block return restores, and a block restore returns
swapped : Kind → Kind
swapped (Write bytes) = Write bytes
swapped (Return block) = Restore block
swapped (Restore block) = Return block
swapped Take = Take

swaps_blocks : Server
swaps_blocks m s c = serve m s (call_by c.client (swapped c.kind))

not_swaps_blocks : ServesCalls swaps_blocks → ⊥
unfolding swaps_blocks swapped pair block_returned block_restored block_length block_fits
not_swaps_blocks d =
    let valid = (decides_multiplexer pair).holds pair_valid in
    let returned = goes_to pair blank_screen (call_by 7 (Return [])) valid blank_size 0 left_open refl in
    let restored = goes_to pair blank_screen (call_by 7 (Restore [])) valid blank_size 0 left_open refl in
    let same = serves_calls.return pair blank_screen 7 [] in
    let e : ◌≡◌ {A = ℕ} 10 9 = ap (λ (r : CallReply Multiplexer). status_number r.status) (sym restored ∙ d.return pair blank_screen 7 [] ∙ sym same ∙ returned) in
    omega arith
