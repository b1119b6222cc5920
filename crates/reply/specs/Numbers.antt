-- Paper 01, 'What comes back': the table's 'no.'. Assumes nothing.
use Rattle.std.specs.Prelude.{ℕ}
use Rattle.reply.specs.declared.Status.{Status}
use Rattle.reply.specs.declared.Status.TheVariants.{Done, ScreenLength, Invalid, ClientZero, PaneIllegal, ClientTaken, PaneShared, Full, NotOpen, BlockTooShort, BlockMismatch}

abbrev pub status_number : Status → ℕ
-- 'done'
status_number Done = 0
-- 'the lent screen is not exactly 1,920 bytes'
status_number ScreenLength = 1
-- 'the port or wall handed in is not sound'
status_number Invalid = 2
-- 'opening with bench number 0'
status_number ClientZero = 3
-- 'opening with a pane that is not legal'
status_number PaneIllegal = 4
-- 'opening with a number that is open already'
status_number ClientTaken = 5
-- 'opening with a pane that shares a cell with an open pane'
status_number PaneShared = 6
-- 'opening while four seats are open'
status_number Full = 7
-- 'no open seat has this number (0 never has)'
status_number NotOpen = 8
-- 'block return: lent block shorter than 2 + width x height'
status_number BlockTooShort = 9
-- 'block restore: length is not exactly 2 + width x height, or the first two bytes are not the viewport's width and height'
status_number BlockMismatch = 10
