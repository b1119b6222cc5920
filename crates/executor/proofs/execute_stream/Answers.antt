-- `executor::execute_stream` meets its contract: the loop keeps that what is left of the stream, done from here, is what was asked; bells so far are at most the bytes so far. Assumes nothing.
use Prim.Native.Nat.{◌+◌, ◌≤◌, ◌<◌}
use mathlib.Core.Bool.{cond, ◌&&◌}
use lib.Dec.{eqb}
use mathlib.Core.Path.{◌≡◌, sym}
use native.Mathlib.Omega.{arith}
use borrow.Author.Rules.{rules}
use Rattle.control.specs.Active.{with_active}
use Rattle.executor.proofs.Executing.{streaming_starts, streaming_ends, after_printing, after_saving, after_control, first_prints, rest_shorter, none_left, is_saved, saved_home, is_controlled, rung_as_code, rung_as_parameter, at_most_one, joined_again, placed_view, is_ready}
use Rattle.executor.proofs.execute_stream.Goals as goal
use Rattle.executor.proofs.execute_stream.Goals.{then-active-eq0+else-b-ge32+else-touches_saved, else-active-eq0}

pub loop-b-init : goal.loop-b-init
loop-b-init c = search (streaming_starts, rules)

pub print_codes-printed-requires : goal.print_codes-printed-requires
print_codes-printed-requires c = let at = c.loop-b in
    let first = first_prints c.in-Some.field-0-0.now c.in-Some.after.now c.in-Some.ensures.cases.0 c.if-b-ge32.true in
    (placed_view (with_active at.port at.active) at.invariant.0.valid, first.0, first.1)

pub loop-b-smaller-then-b-ge32 : goal.loop-b-smaller-then-b-ge32
loop-b-smaller-then-b-ge32 c = let done = c.print_codes-printed.ensures in rest_shorter _ c.loop-b.rest.now done.0 done.1

pub loop-b-preserved-then-b-ge32 : goal.loop-b-preserved-then-b-ge32
loop-b-preserved-then-b-ge32 c = let at = c.loop-b in
    let done = c.print_codes-printed.ensures in
    (after_printing at.port at.active at.invariant.0 _ _ _ _ done.2 done.1 c.if-active-eq0.true c.with_drawn-active.ensures, at.invariant.1)

pub loop-b-preserved-then-touches_saved : goal.loop-b-preserved-then-touches_saved
loop-b-preserved-then-touches_saved c = let at = c.loop-b in
    let b = c.in-Some.field-0-0.now in
    let saved = is_saved b _ c.touches_saved.ensures c.if-touches_saved.true in
    let joined = c.with_active-joined.ensures in
    let obeyed = c.obey_on_saved-port.ensures in
    (after_saving at.port at.active at.invariant.0 b _ _ (sym c.in-Some.ensures.cases.0) joined obeyed c.active_of-active-then-touches_saved.ensures c.if-active-eq0.true saved, saved_home at.port at.active _ b joined obeyed saved at.invariant.1)

pub obey_on_saved-port-requires : goal.obey_on_saved-port-requires
obey_on_saved-port-requires c = is_saved c.in-Some.field-0-0.now _ c.touches_saved.ensures c.if-touches_saved.true

pub overflow_add-bells : goal.overflow_add-bells
overflow_add-bells c = let few = c.loop-b.invariant.0.few in
    let long = c.in-Some.ensures.cases.1 in
    let one : c.bells_of-bells.result ≤ 1 = search (at_most_one, rules) in
    let fits = c.well_formed.1.1 in
    omega arith

pub step-active-requires : goal.step-active-requires
step-active-requires c = let at = c.loop-b in
    let b = c.in-Some.field-0-0.now in
    let code : at.active.waiting ≡ 0 → (b < 32) × (b ≡ 1 → ⊥) × (b ≡ 4 → ⊥) = elim c.if-active-eq0.branch [
      | then-active-eq0+else-b-ge32+else-touches_saved w ↦ λ _. is_controlled b _ w.if-b-ge32.false w.touches_saved.ensures w.if-touches_saved.false
      | else-active-eq0 w ↦ λ none. absurd (w.if-active-eq0.false none)
    ] in
    is_ready at.port at.active b at.invariant.0.valid code

pub loop-b-preserved : goal.loop-b-preserved
loop-b-preserved c = let at = c.loop-b in
    let b = c.in-Some.field-0-0.now in
    let obeyed = c.step-active.ensures at.port at.invariant.1 in
    let sum : c.if-active-eq0.bells ≡ at.bells + cond (eqb at.active.waiting 0 && eqb b 7) 1 0 = elim c.if-active-eq0.branch [
      | then-active-eq0+else-b-ge32+else-touches_saved w ↦ rung_as_code at.active.waiting b at.bells _ _ w.if-active-eq0.true w.bells_of-bells.ensures w.bells-is
      | else-active-eq0 w ↦ rung_as_parameter at.active.waiting b at.bells _ w.if-active-eq0.false w.bells-is
    ] in
    (after_control at.port at.active at.invariant.0 b _ _ _ (sym c.in-Some.ensures.cases.0) obeyed (search (sum, rules)), at.invariant.1)

pub returns : goal.returns
returns c = let at = c.loop-b in
    joined_again (streaming_ends at.invariant.0 (none_left at.rest.now (let none = c.in_default.ensures.cases in omega arith))) c.with_active.ensures
