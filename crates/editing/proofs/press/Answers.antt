-- `editing::press` meets its contract: an arm for each key, where the choice computes. Assumes nothing.
use borrow.Author.Rules.{rules}
use Prim.Native.Nat.{◌<◌}
use mathlib.Core.Logic.{inl, inr}
use native.Mathlib.Omega.{arith}
use Rattle.editing.specs.Keys.{press}
use Rattle.editing.proofs.Pressing.{in_buffer, at_key, printing_key, delete_key, IsOther, other_key}
use Rattle.editing.proofs.press.Goals as goal

pub returns-in-32-to-126 : goal.returns-in-32-to-126
returns-in-32-to-126 c = printing_key _ _ c.args.key (omega arith) (omega arith) c.insert.ensures

pub returns-in-8 : goal.returns-in-8
unfolding press
returns-in-8 c = search (at_key, c.move_left.ensures, in_buffer)

pub returns-in-21 : goal.returns-in-21
unfolding press
returns-in-21 c = search (at_key, c.move_right.ensures, in_buffer)

pub returns-in-4 : goal.returns-in-4
returns-in-4 c = search delete_key

pub returns-in-6 : goal.returns-in-6
unfolding press
returns-in-6 c = search at_key

pub returns-in-24 : goal.returns-in-24
unfolding press
returns-in-24 c = search (at_key, c.delete_all.ensures, in_buffer)

pub returns-in-25 : goal.returns-in-25
unfolding press
returns-in-25 c = search (at_key, c.delete_to_end.ensures, in_buffer)

pub returns-in-26 : goal.returns-in-26
unfolding press
returns-in-26 c = search (at_key, c.restore_default.ensures c.args.state)

-- below the printing keys, and above them
pub returns-in_default : goal.returns-in_default
returns-in_default c =
    let low : c.args.key < 0x20 = omega arith in
    let other : IsOther c.args.key = record { unprinted = inl low; left = omega arith; right = omega arith; deletes = search rules; under = omega arith; all = omega arith; to_end = omega arith; restores = omega arith } in
    search (other_key, in_buffer)

pub returns-in_default-2 : goal.returns-in_default-2
returns-in_default-2 c =
    let high : 0x7e < c.args.key = omega arith in
    let other : IsOther c.args.key = record { unprinted = inr high; left = omega arith; right = omega arith; deletes = search rules; under = omega arith; all = omega arith; to_end = omega arith; restores = omega arith } in
    search (other_key, in_buffer)
