-- A plain console kept for a session, and what it is to feed it bytes. Assumes nothing.
use Rattle.std.specs.Prelude.{◌≡◌, ℕ, ◌+◌, ◌%◌, ◌^◌, List, [], ◌∷◌}
use Rattle.port.specs.declared.Port.{Port}
use Rattle.reply.specs.declared.Status.{Status}
use Rattle.reply.specs.declared.Status.TheVariants.{Done}
use Rattle.calls.specs.Calls.{PortReply}
use Rattle.console.specs.Calls.{fresh_console, write_call}
use Rattle.session.specs.declared.Session.{Session}

abbrev pub fresh_session : Session
fresh_session = record { port = fresh_console; bells = 0; status = Done }

-- the session after a call that handed back these: bells are added up in 64 bits
abbrev pub after : Session → Status → Port → ℕ → Session
after at status port count = record { port = port; bells = (at.bells + count) % 2 ^ 64; status = status }

-- .. after a plain write on the cells s
abbrev pub after_write : Session → List ℕ → List ℕ → Session
after_write at s bytes =
    let w : PortReply = write_call at.port s bytes in
    after at w.status w.state w.result

-- bytes were fed in one plain write: the session became next, and the cells s became t
pub record Fed (at : Session) (s bytes : List ℕ) (next : Session) (t : List ℕ) : Type 0 where
  pub session : next ≡ after_write at s bytes
  pub cells : t ≡ (write_call at.port s bytes).screen

-- the same, but that no bytes are no call, and nothing happens
abbrev pub FedIfAny : Session → List ℕ → List ℕ → Session → List ℕ → Type 0
FedIfAny at s [] next t = (next ≡ at) × (t ≡ s)
FedIfAny at s (b ∷ bs) next t = Fed at s (b ∷ bs) next t
