-- `field::type_keys` meets its contract, by the steps of its invariant. Assumes nothing.
use native.Mathlib.Omega.{arith}
use Prim.Native.Nat.{◌+◌}
use mathlib.Core.Path.{◌≡◌, sym, ◌∙◌}
use Rattle.std.specs.Prelude.{Some, None}
use Rattle.field.proofs.Endings.{ended, not_ended}
use Rattle.field.proofs.Reading.{reading_starts, reading_again, reading_ends, reading_done}
use Rattle.field.proofs.type_keys.Goals.{in-Some, in-None}
use Rattle.field.proofs.type_keys.Goals as goal

pub loop-key-init : goal.loop-key-init
loop-key-init c = search reading_starts

pub loop-key-preserved : goal.loop-key-preserved
loop-key-preserved c =
    let none : c.ending_of-answer.result ≡ None = not_ended (sym c.is_some.ensures ∙ c.if-is_some.false) in
    elim c.match-press.branch [
      | in-Some w ↦
          let same : c.loop-key.answer.beeps + 0 ≡ c.loop-key.answer.beeps = omega arith in
          reading_again _ _ _ _ _ _ _ _ _ c.loop-key.invariant c.loop-key-test.true (Some w.in-Some.next) c.press.new.buffer _ (sym c.ending_of-answer.ensures ∙ none) w.in-Some.ensures (w.answer-is ∙ rw (none, same))
      | in-None w ↦ reading_again _ _ _ _ _ _ _ _ _ c.loop-key.invariant c.loop-key-test.true None c.press.new.buffer _ (sym c.ending_of-answer.ensures ∙ none) w.in-None.ensures (w.answer-is ∙ rw none)
    ]

pub returns-then-is_some : goal.returns-then-is_some
returns-then-is_some c =
    reading_ends _ _ _ _ _ _ _ _ _ c.loop-key.invariant c.loop-key-test.true c.ending_of-answer.result c.ending_of-answer.ensures (ended (sym c.is_some.ensures ∙ c.if-is_some.true))

pub returns : goal.returns
returns c = search reading_done
