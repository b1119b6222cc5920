-- `editing::keys::insert` meets its contract: a printing key is beeped or put in. Assumes nothing.
use Prim.Native.Nat.{◌+◌, ◌<◌}
use mathlib.Core.Path.{◌≡◌}
use native.Mathlib.Omega.{arith}
use Rattle.editing.proofs.Pressing.{insert_full, insert_at_width, insert_done, in_buffer}
use Rattle.editing.proofs.keys.insert.Goals.{then-length-field-via-then-length-field, then-length-field-via-else-length-field+then-cursor-field}
use Rattle.editing.proofs.keys.insert.Goals as goal

pub returns-then-length-field : goal.returns-then-length-field
returns-then-length-field c =
    elim c.then-length-field.branch [
      | then-length-field-via-then-length-field w ↦ let full : c.args.field.now.maximum < c.args.state.length + 1 = omega arith in search (insert_full, in_buffer)
      | then-length-field-via-else-length-field+then-cursor-field w ↦ search (insert_at_width, w, in_buffer)
    ]

pub returns : goal.returns
returns c = let below : c.args.state.length ≡ c.args.field.now.maximum → ⊥ = λ e. omega arith in search (insert_done, in_buffer, below)
