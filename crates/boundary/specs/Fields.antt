-- What a call on an input field answers, in numbers. Assumes nothing.
use Rattle.std.specs.Prelude.{ℕ, cond, List, [], ◌∷◌, ◌++◌, ltb, length, drop, Option, None}
use Rattle.editing.specs.declared.State.{State}
use Rattle.editing.specs.Buffer.{laid}
use Rattle.field.specs.declared.Status.{Status}
use Rattle.field.specs.declared.Ending.{Ending}
use Rattle.field.specs.Statuses.{status_number}
use Rattle.field.specs.Endings.{ending_of, ending_key}
use Rattle.field.specs.Calls.{start_call, keys_call, text_call, text_bytes}
use Rattle.boundary.specs.Run.{Run, not_run}

abbrev pub state_at : ℕ → ℕ → State
state_at length cursor = record { length = length; cursor = cursor }

-- the number of the status, length and cursor, keys read, beeps, and the ending's key, 0 for none
abbrev pub numbers_of : Status → State → ℕ → ℕ → Option Ending → List ℕ
numbers_of status state read beeps ending = status_number status ∷ state.length ∷ state.cursor ∷ read ∷ beeps ∷ ending_key ending ∷ []

-- they lie in front of the answer, if it has room for six
abbrev pub numbers_in : List ℕ → List ℕ → List ℕ → List ℕ → Run
numbers_in b answer b' numbers = cond (ltb (length answer) 6) (not_run b answer) (record { size = 6; lent = b'; answer = numbers ++ drop 6 answer })

-- a start: no key is read yet
unfoldable pub start_run : ℕ → ℕ → List ℕ → List ℕ → List ℕ → Run
start_run width maximum default b answer =
    numbers_in b answer (start_call width maximum default b).buffer
    (numbers_of (start_call width maximum default b).answer.status (start_call width maximum default b).answer.state 0 0 None)

-- keys
unfoldable pub keys_run : ℕ → ℕ → List ℕ → List ℕ → State → List ℕ → List ℕ → Run
keys_run width maximum default b state keys answer =
    numbers_in b answer (keys_call width maximum default b state keys).buffer
    (numbers_of (keys_call width maximum default b state keys).answer.status (keys_call width maximum default b state keys).answer.state (keys_call width maximum default b state keys).answer.read
    (keys_call width maximum default b state keys).answer.beeps
    (keys_call width maximum default b state keys).answer.ending)

-- a text is copied to the front of the answer, if it has room for it
abbrev pub copied_to : List ℕ → List ℕ → List ℕ → Run
copied_to text b answer = cond (ltb (length answer) (length text)) (not_run b answer) (record { size = length text; lent = b; answer = laid text answer })

unfoldable pub text_run : ℕ → ℕ → List ℕ → List ℕ → State → ℕ → List ℕ → Run
text_run width maximum default b state ending answer = copied_to (text_bytes (text_call width maximum (length default) (length b) state (ending_of ending)) default b) b answer
