-- When a call is refused before it starts, and when it is made. Assumes nothing.
use Prim.Native.Nat.{ℕ}
use mathlib.Core.Path.{◌≡◌, refl}
use mathlib.Core.Bool.{Bool, true, false, cond}
use mathlib.Core.List.{List}
use Rattle.std.specs.Prelude.{Ok, Err}
use Rattle.laws.proofs.Tests.{fails}
use Rattle.screen.specs.Size.{is_screen}
use Rattle.screen.proofs.Sizes.{decides_screen}
use Rattle.reply.specs.declared.Status.{Status}
use Rattle.reply.specs.declared.Status.TheVariants.{ScreenLength}
use Rattle.reply.specs.Reply.{Reply, refusal_with}
use Rattle.calls.specs.Verdict.{Judged, Verdict, accepted, screen_verdict, first_of, on_verdict}

-- refusal 1 is given exactly where there are not 1,920 bytes
pub on_screen : (size : ℕ) → size ≡ 1920 → screen_verdict size ≡ accepted
unfolding screen_verdict
on_screen size len = rw ((decides_screen size).passes len)

pub off_screen : (size : ℕ) → (size ≡ 1920 → ⊥) → screen_verdict size ≡ Err ScreenLength
unfolding screen_verdict
off_screen size no_screen = rw (fails (decides_screen size) no_screen)

-- a test that refuses where it fails: what its verdict shows
pub accepted_by : (t : Bool) (status : Status) → cond t accepted (Err status) ≡ accepted → t ≡ true
accepted_by true status e = refl
accepted_by false status e = absurd (cc)

pub screen_accepted : (size : ℕ) → screen_verdict size ≡ accepted → size ≡ 1920
unfolding screen_verdict
screen_accepted size e = (decides_screen size).holds (accepted_by (is_screen size) ScreenLength e)

-- the first of two accepts where both do
pub both_accepted : {A : Type 0} (a : Verdict) (b : Judged A) {x : A} → first_of a b ≡ Ok x → (a ≡ accepted) × (b ≡ Ok x)
unfolding first_of
both_accepted (Err status) b e = absurd (cc)
both_accepted (Ok _) b e = (refl, e)

module _ {State Result : Type 0} (nothing : Result) (state : State) (s block : List ℕ) (reply : Reply Status State Result) where
  pub on_accepted : {j : Verdict} → j ≡ accepted → on_verdict nothing j state s block reply ≡ reply
  unfolding on_verdict
  on_accepted e = rw e

  pub on_refused : {j : Verdict} (status : Status) → j ≡ Err status → on_verdict nothing j state s block reply ≡ refusal_with nothing status state s block
  unfolding on_verdict
  on_refused status e = rw e

  -- a property of the refusals and of the reply is one of the call
  pub by_verdict : (P : Reply Status State Result → Type 0) (j : Verdict) → ((status : Status) → j ≡ Err status → P (refusal_with nothing status state s block)) → (j ≡ accepted → P reply) → P (on_verdict nothing j state s block reply)
  unfolding on_verdict
  by_verdict P (Err status) refuses makes = refuses status refl
  by_verdict P (Ok _) refuses makes = makes refl
