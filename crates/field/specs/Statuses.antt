-- Paper 02, request 01: the refusals' numbers. Assumes nothing.
use Rattle.std.specs.Prelude.{ℕ}
use Rattle.field.specs.declared.Status.{Status}
use Rattle.field.specs.declared.Status.TheVariants.{Done, SizeOutOfRange, BufferTooShort, DefaultTooLong, StateOutOfRange}

abbrev pub status_number : Status → ℕ
-- paper 01: 'done'
status_number Done = 0
-- 'width or maximum out of range'
status_number SizeOutOfRange = 11
-- 'buffer shorter than the maximum'
status_number BufferTooShort = 12
-- 'default longer than the maximum'
status_number DefaultTooLong = 13
-- 'a length past the maximum or a cursor past the length or width'
status_number StateOutOfRange = 19
