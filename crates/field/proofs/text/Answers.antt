-- `field::text` meets its contract: the verdict, and where it accepts, the part that the ending chooses. Assumes nothing.
use native.Mathlib.Omega.{arith}
use lib.Seq.{length-take-le}
use mathlib.Core.Path.{◌≡◌, refl, sym, ◌∙◌}
use Rattle.field.specs.declared.Ending.TheVariants.{Return, Escape}
use Rattle.std.proofs.Common.{rules}
use Rattle.std.specs.Prelude.{Some}
use Rattle.field.proofs.Replying.{front_part, text_refused, text_ready, text_none, text_typed, text_default}
use Rattle.field.proofs.text.Goals as goal

pub returns-then-is_err : goal.returns-then-is_err
returns-then-is_err c = text_refused _ _ _ _ _ _ _ _ c.keys_verdict.ensures.verdict (sym c.is_err.ensures.value ∙ c.if-is_err.true) (front_part _ _ 0 refl refl)

pub slice_bounds-result-end-in-Some-Return : goal.slice_bounds-result-end-in-Some-Return
slice_bounds-result-end-in-Some-Return c =
    let ready = text_ready _ _ c.args.settings.now.default c.args.buffer c.args.buffer _ c.args.ending _ c.keys_verdict.ensures.verdict (sym c.is_err.ensures.value ∙ c.if-is_err.false) in
    sym (length-take-le _ c.args.buffer.now (omega (arith, ready.within, ready.room)))

pub returns-in-None : goal.returns-in-None
returns-in-None c = text_none _ _ _ _ _ _ _ _ c.keys_verdict.ensures.verdict (sym c.is_err.ensures.value ∙ c.if-is_err.false) c.in-None.is (front_part _ _ 0 refl refl)

pub returns-in-Some-Return : goal.returns-in-Some-Return
returns-in-Some-Return c =
    let end : c.args.ending ≡ Some Return = search rules in
    text_typed _ _ _ _ _ _ _ _ c.keys_verdict.ensures.verdict (sym c.is_err.ensures.value ∙ c.if-is_err.false) end (front_part _ _ c.args.state.length refl refl)

pub returns-in-Some-Escape : goal.returns-in-Some-Escape
returns-in-Some-Escape c =
    let end : c.args.ending ≡ Some Escape = search rules in
    text_default _ _ _ _ _ _ _ _ c.keys_verdict.ensures.verdict (sym c.is_err.ensures.value ∙ c.if-is_err.false) end refl
