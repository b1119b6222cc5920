-- `boundary::fields::combthrift_field_text` meets its contract: the text's bytes, or nothing. Assumes nothing.
use mathlib.Core.Path.{refl, sym, ap, ◌∙◌}
use mathlib.Core.List.{List, ◌++◌}
use Prim.Native.Nat.{ℕ}
use lib.ListN.{length, drop}
use lib.Seq.{take-length}
use Rattle.boundary.specs.Fields.{state_at}
use Rattle.boundary.proofs.FieldRuns.{text_short, text_runs}
use Rattle.boundary.proofs.fields.combthrift_field_text.Goals as goal

pub returns-then-answer-chosen : goal.returns-then-answer-chosen
returns-then-answer-chosen c = search text_short

pub returns : goal.returns
returns c =
    let text = c.text-chosen.result in
    let copied = ap (λ (xs : List ℕ). xs ++ drop (length text.now) c.args.answer.now) (c.copy_from_slice.ensures.after ∙ sym (take-length text.now)) in
    text_runs c.args.width c.args.maximum (state_at c.args.length c.args.cursor) c.args.ending c.ending_of.result c.args.default c.args.buffer text c.args.answer.now c.ending_of.ensures c.text-chosen.ensures
    _ _
    c.if-answer-chosen.false
    refl
    copied
