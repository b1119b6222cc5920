-- Paper 01, 'How tight the promises are': the wrong consoles that it names, each as a kind of write. Each says as little of the write as makes it wrong. Assumes nothing.
use Rattle.std.specs.Prelude.{ℕ, ◌<◌, ◌≡◌, List, [], ◌∷◌}
use Rattle.screen.specs.Size.{blank_screen}
use Rattle.port.specs.declared.Port.{Port}
use Rattle.port.specs.Commands.{command_codes, occurrences, wait_of}
use Rattle.reply.specs.declared.Status.TheVariants.{Done}
use Rattle.reply.specs.Reply.{Replies}
use Rattle.calls.specs.Calls.{PortReply, PortCall}
use Rattle.console.specs.Calls.{fresh_console, write_call}

-- what `console::write` promises, of any write: for every port, screen and stream
abbrev pub Meets : PortCall → Type 0
Meets f = (p : Port) (s bytes : List ℕ) → Replies (write_call p s bytes) (f p s bytes).status (f p s bytes).state (f p s bytes).result (f p s bytes).screen (f p s bytes).block

-- what it makes of a stream on a fresh console, whose screen is blank
abbrev pub on_fresh : PortCall → List ℕ → PortReply
on_fresh f bytes = f fresh_console blank_screen bytes

-- 'a console that refuses everything': every stream on a fresh console
abbrev pub RefusesEverything : PortCall → Type 0
RefusesEverything f = (bytes : List ℕ) → (on_fresh f bytes).status ≡ Done → ⊥

-- 'one that answers a blank screen always': after every stream on a fresh console
abbrev pub AnswersBlank : PortCall → Type 0
AnswersBlank f = (bytes : List ℕ) → (on_fresh f bytes).screen ≡ blank_screen

-- 'or changes nothing': after every stream a fresh console's port is as it was
abbrev pub DoesNothing : PortCall → Type 0
DoesNothing f = (bytes : List ℕ) → (on_fresh f bytes).state ≡ fresh_console

-- 'one that obeys the first byte and ignores the others': a fresh console's screen is as after the first byte, whatever that one does
abbrev pub ObeysTheFirst : PortCall → Type 0
ObeysTheFirst f = (b : ℕ) (bs : List ℕ) → (on_fresh f (b ∷ bs)).screen ≡ (on_fresh f (b ∷ [])).screen

-- 'one that invents bells (the count is the number of $07 taken as commands)': it counts more, if only for one port, screen and stream
pub record InventsBells (f : PortCall) : Type 0 where
  pub port : Port
  pub cells : List ℕ
  pub bytes : List ℕ
  pub more : occurrences 7 (command_codes (wait_of port) bytes) < (f port cells bytes).result
