-- The invariant of `field::type_keys`: what was read so far and what the rest leaves are what all keys leave. Assumes nothing.
use Rattle.field.proofs.Reading.{Reading}
use Rattle.field.proofs.type_keys.Given as goal

abbrev pub invariant-loop-key : goal.invariant-loop-key
invariant-loop-key l = Reading l.field.width l.field.maximum l.field.default.now l.initial.buffer l.fn.state l.keys l.buffer l.answer l.key-index
