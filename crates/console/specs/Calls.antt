-- Paper 01, 'What comes back' and 'Blocks, rows, one byte', and request 02: the plain calls, with their refusals. Assumes nothing.
use Rattle.std.specs.Prelude.{ℕ, cond, ◌&&◌, [], ltb, length, Err}
use Rattle.laws.specs.Parts.{Stretch, no_stretch}
use Rattle.rectangle.specs.Rectangles.{whole_screen, height_of}
use Rattle.screen.specs.Size.{is_screen}
use Rattle.block.specs.Block.{row_stretch}
use Rattle.port.specs.declared.Port.{Port}
use Rattle.port.specs.State.{fresh_port}
use Rattle.port.specs.Valid.{valid_port}
use Rattle.reply.specs.declared.Status.{Status}
use Rattle.reply.specs.declared.Status.TheVariants.{Invalid}
use Rattle.reply.specs.Reply.{Reply}
use Rattle.calls.specs.Verdict.{Verdict, accepted, screen_verdict, first_of, on_verdict}
use Rattle.calls.specs.Calls.{PortCall, written, block_returned, block_restored}
use Rattle.calls.specs.Taking.{Taken, none_taken, marks_taken}

-- 'a plain console starts with home (0,0,79,23)'
abbrev pub fresh_console : Port
fresh_console = fresh_port whole_screen

-- 2 if 'the port .. handed in is not sound'
unfoldable pub port_verdict : Port → Verdict
port_verdict p = cond (valid_port p) accepted (Err Invalid)

-- 1 before it, of a call that takes a screen
unfoldable pub plain_verdict : Port → ℕ → Verdict
plain_verdict p size = first_of (screen_verdict size) (port_verdict p)

-- a plain call: 1, then 2, and else what it does
abbrev pub plain_call : PortCall → PortCall
plain_call call p s block = on_verdict 0 (plain_verdict p (length s)) p s block (call p s block)

-- the three calls that take a screen. 'An empty write is judged by the same refusals and otherwise changes nothing'; the one-byte call 'means the same, number and count included, as a plain write of that byte by value': `write_call` at that one byte
abbrev pub write_call : PortCall
write_call = plain_call written

abbrev pub return_call : PortCall
return_call = plain_call block_returned

abbrev pub restore_call : PortCall
restore_call = plain_call block_restored

-- request 02: a taking needs no screen; 'refusals, with no marks and 0: 2'
abbrev pub take_call : Port → Reply Status Port Taken
take_call p = on_verdict none_taken (port_verdict p) p [] [] (marks_taken p [] [])

-- row view: 'that stretch of the lent screen itself .. an empty stretch if the row, screen length or port is bad'
unfoldable pub row_call : Port → ℕ → ℕ → Stretch
row_call p size row = cond ((is_screen size && valid_port p) && ltb row (height_of p.view.viewport)) (row_stretch p.view.viewport row) no_stretch
