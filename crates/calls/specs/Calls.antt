-- Paper 01, 'What comes back' and 'Blocks, rows, one byte': write, block return and block restore, on a valid port and a screen of 1,920 bytes; what a restore marks is request 02's. Assumes nothing.
use Rattle.std.specs.Prelude.{ℕ, cond, List, ◌++◌, ltb, length, drop}
use Rattle.rectangle.specs.Edit.{draw}
use Rattle.block.specs.Block.{block_length, block_of, block_fits, restored}
use Rattle.marks.specs.Marks.{marked_in}
use Rattle.port.specs.declared.Port.{Port}
use Rattle.port.specs.State.{with_marks}
use Rattle.port.specs.Step.{Outcome}
use Rattle.port.specs.Stream.{stream}
use Rattle.reply.specs.declared.Status.{Status}
use Rattle.reply.specs.declared.Status.TheVariants.{Done, BlockTooShort, BlockMismatch}
use Rattle.reply.specs.Reply.{Reply, refusal}

-- what a call on a port leaves; its result is a count
abbrev pub PortReply : Type 0
PortReply = Reply Status Port ℕ

-- a call on a port: the port, the screen and the lent block
abbrev pub PortCall : Type 0
PortCall = Port → List ℕ → List ℕ → PortReply

-- write: 'write's count is the number of bells that it rang'
unfoldable pub written : PortCall
written p s bytes =
    let m : Outcome = stream p bytes in
    record { status = Done; state = m.port; result = m.bells; screen = draw m.edits s; block = bytes }

-- block return: 9 if 'lent block shorter than 2 + width x height'; 'block return's count is 2 + width x height'; 'bytes of the lent block beyond it stay'
unfoldable pub block_returned : PortCall
block_returned p s block =
    let size : ℕ = block_length p.view.viewport in
    cond (ltb (length block) size) (refusal BlockTooShort p s block)
    (record { status = Done; state = p; result = size; screen = s; block = block_of p.view.viewport s ++ drop size block })

-- request 02: 'a block restore marks the viewport's' lines; nothing else of the port changes
abbrev pub viewport_marked : Port → Port
viewport_marked p = with_marks p (marked_in p.marks p.view.viewport)

-- block restore: 10 by its rule; 'restore writes the cells and moves no cursor'
unfoldable pub block_restored : PortCall
block_restored p s block =
    cond (block_fits p.view.viewport block)
    (record { status = Done; state = viewport_marked p; result = 0; screen = restored p.view.viewport block s; block = block })
    (refusal BlockMismatch p s block)
