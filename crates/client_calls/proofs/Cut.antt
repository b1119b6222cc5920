-- A client's write of a and then of b is its write of a and b together, refused or not; and what a write counts. Assumes nothing.
use Prim.Native.Nat.{ℕ}
use mathlib.Core.Path.{◌≡◌, refl, ap, ◌∙◌}
use mathlib.Core.Logic.{◌⊎◌, inl, inr, ⊎_elim}
use mathlib.Core.List.{List, ◌++◌}
use lib.ListN.{length}
use Rattle.laws.proofs.Tests.{either}
use Rattle.screen.proofs.Sizes.{decides_screen}
use Rattle.port.specs.Commands.{command_codes, occurrences, wait_of}
use Rattle.reply.specs.declared.Status.{Status}
use Rattle.reply.specs.declared.Status.TheVariants.{ScreenLength, Invalid, NotOpen}
use Rattle.reply.specs.Reply.{refusal}
use Rattle.reply.specs.Laws.{SameCut}
use Rattle.calls.specs.Calls.{PortReply}
use Rattle.calls.proofs.Cut.{written_cut, written_bells}
use Rattle.slots.specs.declared.Multiplexer.{Multiplexer}
use Rattle.slots.specs.State.{slot_at, with_port}
use Rattle.slots.specs.Valid.{ValidMultiplexer}
use Rattle.slots.proofs.Validity.{decides_multiplexer}
use Rattle.slots.proofs.Slots.{client?}
use Rattle.multiplexer.specs.Located.{client_slot}
use Rattle.multiplexer.specs.Calls.{MultiplexerReply, relayed, write_call}
use Rattle.multiplexer.proofs.Clients.{goes_nowhere, invalid_refused}
use Rattle.multiplexer.proofs.Replying.{located_on_lem, located_off, at_refusal}
use Rattle.client_calls.specs.Laws.{GoesTo}
use Rattle.client_calls.proofs.Relaying.{writes, writes_next}

-- a write is refused whatever its bytes, or goes to an open slot
abbrev Refused : Multiplexer → List ℕ → ℕ → Type 0
Refused m s n = (status : Status) × ((bytes : List ℕ) → write_call m s n bytes ≡ refusal status m s bytes)

refused_or_goes : (m : Multiplexer) (s : List ℕ) (n : ℕ) → Refused m s n ⊎ ((i : ℕ) × GoesTo m s n i)
refused_or_goes m s n =
    ⊎_elim
    (λ l. ⊎_elim
    (λ (v : ValidMultiplexer m). ⊎_elim
    (λ k. inr (k.0, record { valid = v; len = l; is_open = k.1; client = k.2 }))
    (λ h. inl (NotOpen, λ bytes. at_refusal 0 m s bytes _ _ NotOpen (located_on_lem s (client_slot m n) l ∙ goes_nowhere m n v h)))
    (client? m n))
    (λ w. inl (Invalid, λ bytes. at_refusal 0 m s bytes _ _ Invalid (located_on_lem s (client_slot m n) l ∙ invalid_refused m n w)))
    (either (decides_multiplexer m)))
    (λ l. inl (ScreenLength, λ bytes. at_refusal 0 m s bytes _ _ ScreenLength (located_off s (client_slot m n) l)))
    (either (decides_screen (length s)))

relayed_cut : (m : Multiplexer) (i : ℕ) {x y z : PortReply} → SameCut x y z → SameCut (relayed m i x) (relayed m i y) (relayed m i z)
relayed_cut m i k = record {
  first_status = k.first_status;
  second_status = k.second_status;
  state = ap (with_port m i) k.state;
  screen = k.screen;
  count = k.count;
}

-- no premise: refused or not
pub write_cut : (m : Multiplexer) (s : List ℕ) (n : ℕ) (a b : List ℕ)
    → SameCut (write_call m s n a) (write_call (write_call m s n a).state (write_call m s n a).screen n b) (write_call m s n (a ++ b))
write_cut m s n a b =
    ⊎_elim
    (λ (k : Refused m s n). simp k.1 (record { first_status = refl; second_status = refl; state = refl; screen = refl; count = refl }))
    (λ (k : (i : ℕ) × GoesTo m s n i).
    rw (writes_next k.1 a b, writes k.1 a, writes k.1 (a ++ b))
    (relayed_cut m k.0 (written_cut (slot_at m k.0).port s a b)))
    (refused_or_goes m s n)

-- 'the number of $07 taken as commands', of any write that is not refused
pub write_bells : (m : Multiplexer) (s : List ℕ) (n i : ℕ) (bytes : List ℕ) → GoesTo m s n i → (write_call m s n bytes).result ≡ occurrences 7 (command_codes (wait_of (slot_at m i).port) bytes)
write_bells m s n i bytes g = ap (λ (r : MultiplexerReply). r.result) (writes g bytes) ∙ written_bells (slot_at m i).port s bytes
