-- Each way through a call on an input field. Assumes nothing.
use Prim.Native.Nat.{ℕ, ◌≤◌, ◌<◌}
use mathlib.Core.Path.{◌≡◌, refl, sym}
use mathlib.Core.List.{List, ◌++◌}
use borrow.Author.Tests.{lt-ltb, le-ltb}
use lib.ListN.{length, take, drop}
use denote.Ref.{Bor}
use Rattle.editing.specs.declared.State.{State}
use Rattle.editing.proofs.Texts.{copied_laid}
use Rattle.field.specs.declared.Ending.{Ending}
use Rattle.std.specs.Prelude.{Option, None}
use Rattle.field.specs.declared.StartAnswer.{StartAnswer}
use Rattle.field.specs.declared.KeysAnswer.{KeysAnswer}
use Rattle.field.specs.Endings.{ending_of}
use Rattle.field.specs.Calls.{Replies, start_call, keys_call, Part, of_buffer, of_default, text_call, IsText, text_bytes}
use Rattle.boundary.specs.Run.{Runs}
use Rattle.boundary.specs.Fields.{numbers_of, start_run, keys_run, text_run}

module _ (width maximum : ℕ) (default b answer : List ℕ) where
  pub start_short : length answer < 6 → Runs (start_run width maximum default b answer) 0 b answer
  unfolding start_run
  start_short h = rw (lt-ltb (length answer) 6 h) (record { size_is = refl; lent_is = refl; answer_is = refl })

  pub start_runs : (r : StartAnswer) (b' after : List ℕ) → 6 ≤ length answer → Replies (start_call width maximum default b) r b' → after ≡ numbers_of r.status r.state 0 0 None ++ drop 6 answer
      → Runs (start_run width maximum default b answer) 6 b' after
  unfolding start_run
  start_runs r b' after room replies laid =
      rw (le-ltb (length answer) 6 room, sym replies.answer_is) (record { size_is = refl; lent_is = replies.bytes; answer_is = laid })

  module _ (state : State) (keys : List ℕ) where
    pub keys_short : length answer < 6 → Runs (keys_run width maximum default b state keys answer) 0 b answer
    unfolding keys_run
    keys_short h = rw (lt-ltb (length answer) 6 h) (record { size_is = refl; lent_is = refl; answer_is = refl })

    pub keys_runs : (r : KeysAnswer) (b' after : List ℕ) → 6 ≤ length answer → Replies (keys_call width maximum default b state keys) r b'
        → after ≡ numbers_of r.status r.state r.read r.beeps r.ending ++ drop 6 answer
        → Runs (keys_run width maximum default b state keys answer) 6 b' after
    unfolding keys_run
    keys_runs r b' after room replies laid =
        rw (le-ltb (length answer) 6 room, sym replies.answer_is) (record { size_is = refl; lent_is = replies.bytes; answer_is = laid })

-- the bytes of a part that was handed back
text_bytes_lem : (part : Part) (default buffer r : Bor (List ℕ)) → IsText part default buffer r → r.now ≡ text_bytes part default.now buffer.now
text_bytes_lem (of_buffer x) default buffer r is = is.bytes
text_bytes_lem (of_default x) default buffer r is = is.bytes

module _ (width maximum : ℕ) (state : State) (key : ℕ) (ending : Option Ending) (default buffer r : Bor (List ℕ)) (answer : List ℕ) (is_ending : ending ≡ ending_of key)
    (is : IsText (text_call width maximum (length default.now) (length buffer.now) state ending) default buffer r) where
  bytes : text_bytes (text_call width maximum (length default.now) (length buffer.now) state (ending_of key)) default.now buffer.now ≡ r.now
  bytes = rw (← is_ending) (sym (text_bytes_lem (text_call width maximum (length default.now) (length buffer.now) state ending) default buffer r is))

  pub text_short : length answer < length r.now → Runs (text_run width maximum default.now buffer.now state key answer) 0 buffer.now answer
  unfolding text_run
  text_short h = rw (bytes, lt-ltb (length answer) (length r.now) h) (record { size_is = refl; lent_is = refl; answer_is = refl })

  pub text_runs : (n : ℕ) (after : List ℕ) → length r.now ≤ length answer → n ≡ length r.now → after ≡ take (length r.now) r.now ++ drop (length r.now) answer
      → Runs (text_run width maximum default.now buffer.now state key answer) n buffer.now after
  unfolding text_run
  text_runs n after h size copied =
      rw (bytes, le-ltb (length answer) (length r.now) h) (record { size_is = size; lent_is = refl; answer_is = copied_laid r.now answer after copied })
