-- What a run of a stream on a fresh plain console answers. Assumes nothing.
use Rattle.std.specs.Prelude.{ℕ, cond, List, [], ◌∷◌, ◌++◌, eqb, ltb, length, drop}
use Rattle.console.specs.Calls.{fresh_console, write_call}
use Rattle.session.specs.declared.Session.{Session}
use Rattle.session.specs.Session.{fresh_session, after_write}
use Rattle.session.specs.Answer.{end_of}
use Rattle.boundary.specs.Run.{Run, not_run}

-- the end of a session lies in front of the answer, if it has room for its twelve bytes
unfoldable pub ends_in : List ℕ → List ℕ → Session → List ℕ → Run
ends_in s answer end t = cond (ltb (length answer) 12) (not_run s answer) (record { size = 12; lent = t; answer = end_of end ++ drop 12 answer })

-- one write of all the bytes, whatever the size of the pieces; none has size 0
unfoldable pub stream_run : List ℕ → ℕ → List ℕ → List ℕ → Run
stream_run bytes size s answer = cond (eqb size 0) (not_run s answer) (ends_in s answer (after_write fresh_session s bytes) (write_call fresh_console s bytes).screen)

-- the same by the one-byte call, but that no bytes are no call
unfoldable pub bytewise_run : List ℕ → List ℕ → List ℕ → Run
bytewise_run [] s answer = ends_in s answer fresh_session s
bytewise_run (b ∷ bs) s answer = ends_in s answer (after_write fresh_session s (b ∷ bs)) (write_call fresh_console s (b ∷ bs)).screen
