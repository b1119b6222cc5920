-- What a call by client leaves, by where it goes. Assumes nothing.
use Prim.Native.Nat.{ℕ}
use mathlib.Core.Path.{◌≡◌, refl}
use mathlib.Core.Logic.{⊎_elim}
use mathlib.Core.List.{List}
use lib.ListN.{length}
use Rattle.laws.proofs.Tests.{either}
use Rattle.screen.proofs.Sizes.{decides_screen}
use Rattle.reply.specs.declared.Status.{Status}
use Rattle.reply.specs.declared.Status.TheVariants.{ScreenLength}
use Rattle.reply.specs.Reply.{Reply, refusal_with}
use Rattle.std.specs.Prelude.{Ok, Err}
use Rattle.calls.specs.Verdict.{screen_verdict, first_of}
use Rattle.calls.proofs.Verdicts.{on_screen, off_screen, screen_accepted, both_accepted}
use Rattle.slots.specs.declared.Multiplexer.{Multiplexer}
use Rattle.multiplexer.specs.Located.{Located, located_on}
use Rattle.multiplexer.specs.Calls.{on_slot}

-- ---- where a call goes
-- with 1,920 cells where it goes without a screen, and otherwise nowhere
pub located_on_lem : (s : List ℕ) (located : Located) → length s ≡ 1920 → located_on (length s) located ≡ located
unfolding first_of
located_on_lem s located len = rw (on_screen (length s) len)

pub located_off : (s : List ℕ) (located : Located) → (length s ≡ 1920 → ⊥) → located_on (length s) located ≡ Err ScreenLength
unfolding first_of
located_off s located no_screen = rw (off_screen (length s) no_screen)

pub located_at : (s : List ℕ) (located : Located) (i : ℕ) → located_on (length s) located ≡ Ok i → (length s ≡ 1920) × (located ≡ Ok i)
located_at s located i e = let k = both_accepted (screen_verdict (length s)) located e in (screen_accepted (length s) k.0, k.1)

-- ---- the reply, by where the call goes; where it is refused, the result says nothing
module _ {Result : Type 0} (nothing : Result) (m : Multiplexer) (s block : List ℕ) (reply : ℕ → Reply Status Multiplexer Result) where
  pub at_slot : (located : Located) (i : ℕ) → located ≡ Ok i → on_slot nothing located m s block reply ≡ reply i
  unfolding on_slot
  at_slot located i e = rw e

  pub at_refusal : (located : Located) (status : Status) → located ≡ Err status → on_slot nothing located m s block reply ≡ refusal_with nothing status m s block
  unfolding on_slot
  at_refusal located status e = rw e

  -- the status, by where it goes
  abbrev pub slot_status : Located → Status
  slot_status located = (on_slot nothing located m s block reply).status

  -- a property of the refusals, and of the reply at each slot, is one of the call
  pub by_slot : (P : Reply Status Multiplexer Result → Type 0) (located : Located)
      → ((status : Status) → located ≡ Err status → P (refusal_with nothing status m s block))
      → ((i : ℕ) → located ≡ Ok i → P (reply i))
      → P (on_slot nothing located m s block reply)
  unfolding on_slot
  by_slot P (Err status) refuses at = refuses status refl
  by_slot P (Ok i) refuses at = at i refl

  -- a property of the status: where there are not 1,920 cells it is 1
  pub by_screen : (P : Status → Type 0) (located : Located) → ((length s ≡ 1920 → ⊥) → P ScreenLength) → (length s ≡ 1920 → P (slot_status located)) → P (slot_status (located_on (length s) located))
  unfolding on_slot
  by_screen P located off on =
      ⊎_elim (λ len. rw (located_on_lem s located len) (on len)) (λ no_screen. rw (located_off s located no_screen) (off no_screen)) (either (decides_screen (length s)))

-- a reply in another form, wherever the call goes
pub map_slot : {A B : Type 0} (none_a : A) (none_b : B) (m : Multiplexer) (s block t after : List ℕ) (reply : ℕ → Reply Status Multiplexer A) (f : Reply Status Multiplexer A → Reply Status Multiplexer B)
    → ((status : Status) → refusal_with none_b status m t after ≡ f (refusal_with none_a status m s block)) → (located : Located)
    → on_slot none_b located m t after (λ i. f (reply i)) ≡ f (on_slot none_a located m s block reply)
unfolding on_slot
map_slot none_a none_b m s block t after reply f same (Err status) = same status
map_slot none_a none_b m s block t after reply f same (Ok i) = refl
