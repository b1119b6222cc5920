-- When each status is given, and what a refused call changes. Assumes nothing.
use Prim.Native.Nat.{ℕ, ◌<◌}
use native.Mathlib.Omega.{arith}
use mathlib.Core.Path.{◌≡◌, refl, sym, ap, ◌∙◌}
use mathlib.Core.Bool.{◌||◌}
use mathlib.Core.Logic.{◌⊎◌, inl, inr, ⊎_elim}
use mathlib.Core.List.{List, [], ◌∷◌}
use borrow.Author.Tests.{le-ltb}
use lib.Dec.{ltb}
use lib.ListN.{length}
use Rattle.laws.proofs.Tests.{by_test, decides_lt, fails}
use Rattle.reply.proofs.Rules.{First, refused_if, answers_first}
use Rattle.reply.proofs.Rules.First.{none}
use Rattle.editing.specs.declared.State.{State}
use Rattle.editing.specs.Buffer.{Within, settings, content_of}
use Rattle.field.specs.declared.Status.{Status}
use Rattle.field.specs.declared.Status.TheVariants.{Done, SizeOutOfRange, BufferTooShort, DefaultTooLong, StateOutOfRange}
use Rattle.std.specs.Prelude.{Option}
use Rattle.field.specs.declared.Ending.{Ending}
use Rattle.std.specs.Prelude.{Ok, Err}
use Rattle.field.specs.Statuses.{status_number}
use Rattle.field.specs.Verdict.{Verdict, out_of_range, start_verdict, state_verdict, first_of, keys_verdict, on_verdict}
use Rattle.field.specs.Rules.{Applies, Sized}
use Rattle.field.specs.declared.StartAnswer.{StartAnswer}
use Rattle.field.specs.declared.KeysAnswer.{KeysAnswer}
use Rattle.field.specs.Typing.{type_keys}
use Rattle.field.specs.Calls.{Reply, Part, no_text, start_refused, started, start_call, keys_refused, keys_typed, keys_call, text_by, text_call}
use Rattle.field.proofs.Verdicts.{decides_sizes, decides_limits, by_verdict}
use Rattle.field_laws.specs.Laws.{Statuses, Accepts, ChangesNothing}

-- a verdict refuses or accepts
pub judged : (v : Verdict) → ((status : Status) × (v ≡ Err status)) ⊎ (v ≡ Ok tt)
judged (Err status) = inl (status, refl)
judged (Ok done) = inr refl

-- the status that a verdict comes to
abbrev verdict_status : Verdict → Status
verdict_status (Err status) = status
verdict_status (Ok done) = Done

module _ (width maximum default buffer : ℕ) (state : State) where
  start_first : First Done (Applies width maximum default buffer state) (verdict_status (start_verdict width maximum default buffer)) (SizeOutOfRange ∷ BufferTooShort ∷ DefaultTooLong ∷ [])
  unfolding start_verdict
  start_first =
      refused_if verdict_status (decides_sizes width maximum) refl λ _.
      refused_if verdict_status (decides_lt buffer maximum) refl λ _.
      refused_if verdict_status (decides_lt maximum default) refl λ _.
      none refl

  keys_first : First Done (Applies width maximum default buffer state) (verdict_status (keys_verdict width maximum default buffer state)) (SizeOutOfRange ∷ BufferTooShort ∷ DefaultTooLong ∷ StateOutOfRange ∷ [])
  unfolding keys_verdict start_verdict state_verdict first_of
  keys_first =
      let given : Verdict → Status = λ v. verdict_status (first_of v (state_verdict width maximum state)) in
      refused_if given (decides_sizes width maximum) refl λ _.
      refused_if given (decides_lt buffer maximum) refl λ _.
      refused_if given (decides_lt maximum default) refl λ _.
      refused_if verdict_status (decides_limits width maximum state) refl λ _.
      none refl

  -- where no rule applies
  start_accepts : Sized width maximum default buffer → start_verdict width maximum default buffer ≡ Ok tt
  unfolding start_verdict
  start_accepts s =
      let sizes = fails (decides_sizes width maximum) (λ out. ⊎_elim (λ w. ⊎_elim (λ h. omega (arith, s)) (λ h. omega (arith, s)) w) (λ m. ⊎_elim (λ h. omega (arith, s)) (λ h. omega (arith, s)) m) out) in
      rw (sizes, le-ltb buffer maximum s.room, le-ltb maximum default s.default_fits)

  pub keys_accepts : Sized width maximum default buffer → Within width maximum state → keys_verdict width maximum default buffer state ≡ Ok tt
  unfolding keys_verdict state_verdict first_of
  keys_accepts s w =
      let limits = fails (decides_limits width maximum state) (λ past. ⊎_elim (λ h. omega (arith, w)) (λ p. ⊎_elim (λ h. omega (arith, w)) (λ h. omega (arith, w)) p) past) in
      rw (start_accepts s, limits)

-- a refusal has a status of its own
abbrev NotDone : Verdict → Type 0
NotDone v = v ≡ Err Done → ⊥

refuses : (status : Status) → 0 < status_number status → NotDone (Err status)
refuses status some e = omega (arith, ap (λ (v : Verdict). status_number (verdict_status v)) e)

makes : NotDone (Ok tt)
makes e = cc

refuses_first : (a b : Verdict) → NotDone a → NotDone b → NotDone (first_of a b)
unfolding first_of
refuses_first (Err status) b p q = p
refuses_first (Ok done) b p q = q

module _ (width maximum default buffer : ℕ) where
  pub start_not_done : NotDone (start_verdict width maximum default buffer)
  unfolding start_verdict
  start_not_done =
      by_test NotDone (out_of_range width || out_of_range maximum) (λ _. refuses SizeOutOfRange (omega arith)) λ _.
      by_test NotDone (ltb buffer maximum) (λ _. refuses BufferTooShort (omega arith)) λ _.
      by_test NotDone (ltb maximum default) (λ _. refuses DefaultTooLong (omega arith)) λ _.
      makes

  state_not_done : (state : State) → NotDone (state_verdict width maximum state)
  unfolding state_verdict
  state_not_done state = by_test NotDone (ltb maximum state.length || (ltb state.length state.cursor || ltb width state.cursor)) (λ _. refuses StateOutOfRange (omega arith)) (λ _. makes)

  pub keys_not_done : (state : State) → NotDone (keys_verdict width maximum default buffer state)
  unfolding keys_verdict
  keys_not_done state = refuses_first _ _ start_not_done (state_not_done state)

-- ---- each call: a property of its refusals and of what it makes is one of the call
module _ (width maximum : ℕ) (default buffer : List ℕ) where
  pub by_start : (P : Reply StartAnswer → Type 0) → ((status : Status) → start_verdict width maximum (length default) (length buffer) ≡ Err status → P (start_refused status buffer))
      → (start_verdict width maximum (length default) (length buffer) ≡ Ok tt → P (started width default buffer))
      → P (start_call width maximum default buffer)
  unfolding start_call
  by_start P = by_verdict P (λ status. start_refused status buffer) (started width default buffer) (start_verdict width maximum (length default) (length buffer))

  module _ (state : State) where
    pub by_keys : (keys : List ℕ) (P : Reply KeysAnswer → Type 0) → ((status : Status) → keys_verdict width maximum (length default) (length buffer) state ≡ Err status → P (keys_refused status state buffer))
        → (keys_verdict width maximum (length default) (length buffer) state ≡ Ok tt → P (keys_typed (type_keys (settings width maximum default) (content_of state buffer) buffer keys)))
        → P (keys_call width maximum default buffer state keys)
    unfolding keys_call
    by_keys keys P =
        by_verdict P (λ status. keys_refused status state buffer) (keys_typed (type_keys (settings width maximum default) (content_of state buffer) buffer keys)) (keys_verdict width maximum (length default) (length buffer) state)

    pub by_text : (ending : Option Ending) (P : Part → Type 0) → ((status : Status) → keys_verdict width maximum (length default) (length buffer) state ≡ Err status → P no_text)
        → (keys_verdict width maximum (length default) (length buffer) state ≡ Ok tt → P (text_by (length default) state ending))
        → P (text_call width maximum (length default) (length buffer) state ending)
    unfolding text_call
    by_text ending P = by_verdict P (λ status. no_text) (text_by (length default) state ending) (keys_verdict width maximum (length default) (length buffer) state)

    pub text_accepted : (ending : Option Ending) → keys_verdict width maximum (length default) (length buffer) state ≡ Ok tt
        → text_call width maximum (length default) (length buffer) state ending ≡ text_by (length default) state ending
    unfolding text_call on_verdict
    text_accepted ending e = rw e

    pub keys_refusal : (keys : List ℕ) (status : Status) → keys_verdict width maximum (length default) (length buffer) state ≡ Err status → keys_call width maximum default buffer state keys ≡ keys_refused status state buffer
    unfolding keys_call on_verdict
    keys_refusal keys status e = rw e

    pub keys_reply : (keys : List ℕ) → keys_verdict width maximum (length default) (length buffer) state ≡ Ok tt
        → keys_call width maximum default buffer state keys ≡ keys_typed (type_keys (settings width maximum default) (content_of state buffer) buffer keys)
    unfolding keys_call on_verdict
    keys_reply keys e = rw e

module _ (width maximum : ℕ) (default buffer : List ℕ) (state : State) (keys : List ℕ) where
  start_status : (start_call width maximum default buffer).answer.status ≡ verdict_status (start_verdict width maximum (length default) (length buffer))
  start_status = by_start width maximum default buffer (λ r. r.answer.status ≡ verdict_status (start_verdict width maximum (length default) (length buffer))) (λ status e. rw e) (λ e. rw e)

  keys_status : (keys_call width maximum default buffer state keys).answer.status ≡ verdict_status (keys_verdict width maximum (length default) (length buffer) state)
  keys_status = by_keys width maximum default buffer state keys (λ r. r.answer.status ≡ verdict_status (keys_verdict width maximum (length default) (length buffer) state)) (λ status e. rw e) (λ e. rw e)

  pub keys_was_accepted : (keys_call width maximum default buffer state keys).answer.status ≡ Done → keys_verdict width maximum (length default) (length buffer) state ≡ Ok tt
  keys_was_accepted done =
      ⊎_elim (λ r. absurd (keys_not_done width maximum (length default) (length buffer) state (r.1 ∙ ap Err (ap verdict_status (sym r.1) ∙ sym keys_status ∙ done)))) (λ e. e)
      (judged (keys_verdict width maximum (length default) (length buffer) state))

  pub statuses : Statuses width maximum default buffer state keys
  statuses = record {
    starting = answers_first refl (omega arith) (rw start_status (start_first width maximum (length default) (length buffer) state));
    typing = answers_first refl (omega arith) (rw keys_status (keys_first width maximum (length default) (length buffer) state));
  }

  pub accepts : (ending : Option Ending) → Accepts width maximum default buffer state keys ending
  accepts ending = record {
    start_done = λ s. start_status ∙ ap verdict_status (start_accepts width maximum (length default) (length buffer) state s);
    keys_done = λ s w. keys_status ∙ ap verdict_status (keys_accepts width maximum (length default) (length buffer) state s w);
    text_given = λ s w. text_accepted width maximum default buffer state ending (keys_accepts width maximum (length default) (length buffer) state s w);
  }

  pub changes_nothing : (ending : Option Ending) → ChangesNothing buffer state (start_call width maximum default buffer) (keys_call width maximum default buffer state keys) (text_call width maximum (length default) (length buffer) state ending)
  changes_nothing ending = record {
    refused_start = by_start width maximum default buffer (λ r. (r.answer.status ≡ Done → ⊥) → r ≡ start_refused r.answer.status buffer) (λ status e no. refl) (λ e no. absurd (no refl));
    refused_keys = by_keys width maximum default buffer state keys (λ r. (r.answer.status ≡ Done → ⊥) → r ≡ keys_refused r.answer.status state buffer) (λ status e no. refl) (λ e no. absurd (no refl));
    text_refused = λ no.
        by_text width maximum default buffer state ending (λ x. x ≡ no_text) (λ status e. refl) (λ e. absurd (no (keys_status ∙ ap verdict_status e)));
  }
