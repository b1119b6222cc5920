-- A client's block, handed out and put straight back, changes nothing but the marks. Assumes nothing.
use Prim.Native.Nat.{ℕ, ◌≤◌}
use mathlib.Core.Path.{◌≡◌, ap, ◌∙◌}
use mathlib.Core.List.{List}
use lib.ListN.{length, take}
use Rattle.block.specs.Block.{block_length}
use Rattle.port.specs.declared.Port.{Port}
use Rattle.port.specs.Valid.{ValidPort}
use Rattle.reply.specs.declared.Status.TheVariants.{Done}
use Rattle.reply.specs.Laws.{RoundTrip}
use Rattle.calls.specs.Calls.{PortReply, viewport_marked}
use Rattle.calls.proofs.Blocks.{handed_out, handed_out_lem, put_back, put_back_lem}
use Rattle.slots.specs.declared.Multiplexer.{Multiplexer}
use Rattle.slots.specs.State.{slot_at, with_port}
use Rattle.multiplexer.specs.Calls.{MultiplexerReply, relayed, return_call, restore_call}
use Rattle.client_calls.specs.Laws.{viewport, GoesTo}
use Rattle.client_calls.proofs.Refusals.{port_again}
use Rattle.client_calls.proofs.Relaying.{returns, restores}

-- the restore starts from the multiplexer, the screen and the front of the block that the return left
abbrev pub restore_after : ℕ → MultiplexerReply → MultiplexerReply
restore_after n r = restore_call r.state r.screen n (take r.result r.block)

-- a reply that leaves slot i's port, said of the multiplexer as it was
abbrev still_at : Multiplexer → PortReply → MultiplexerReply
still_at m r = record { status = r.status; state = m; result = r.result; screen = r.screen; block = r.block }

pub round_trip : (m : Multiplexer) (s : List ℕ) (n i : ℕ) (block : List ℕ) → GoesTo m s n i → block_length (viewport m i) ≤ length block
    → RoundTrip Done (with_port m i (viewport_marked (slot_at m i).port)) s (return_call m s n block) (restore_after n (return_call m s n block))
round_trip m s n i block g room =
    let p : Port = (slot_at m i).port in
    let v : ValidPort p = g.valid.ports i g.is_open in
    let out : PortReply = handed_out p s block v g.len room in
    let back : PortReply = put_back p s block v g.len room in
    let returned : return_call m s n block ≡ still_at m out = returns g block ∙ ap (relayed m i) (handed_out_lem p s block v g.len room) ∙ rw (port_again m i) in
    let again : restore_after n (return_call m s n block) ≡ relayed m i back =
    ap (restore_after n) returned ∙ restores g (take out.result out.block) ∙ ap (relayed m i) (put_back_lem p s block v g.len room) in
    record {
      returned_done = ap (λ (r : MultiplexerReply). r.status) returned;
      restored_done = ap (λ (r : MultiplexerReply). r.status) again;
      state = ap (λ (r : MultiplexerReply). r.state) again;
      screen = ap (λ (r : MultiplexerReply). r.screen) again;
    }
