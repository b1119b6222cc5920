-- Each way through a call. Assumes nothing.
use Prim.Native.Nat.{ℕ}
use mathlib.Core.Path.{◌≡◌, refl, sym, ap, ◌∙◌}
use mathlib.Core.List.{List}
use native.Mathlib.Omega.{arith}
use lib.ListN.{length, take}
use mathlib.Core.Bool.{true, false}
use Rattle.std.specs.Result.{is_err}
use Rattle.field.proofs.Verdicts.{keys_accepted}
use lib.Seq.{take-length}
use denote.Ref.{Bor}
use Rattle.laws.specs.Parts.{stretch, no_stretch, IsPart}
use Rattle.editing.specs.declared.State.{State}
use Rattle.editing.specs.Keys.{Settings, start_content}
use Rattle.editing.specs.Buffer.{laid, state_of, settings, settings_of, content_of, Ready}
use Rattle.field.specs.declared.Status.{Status}
use Rattle.field.specs.declared.Status.TheVariants.{Done}
use Rattle.field.specs.declared.Ending.{Ending}
use Rattle.field.specs.declared.Ending.TheVariants.{Return, Escape}
use Rattle.std.specs.Prelude.{Option, Some, None, Result, Ok, Err}
use Rattle.editing.specs.declared.field.Field.{Field}
use Rattle.field.specs.declared.KeysAnswer.{KeysAnswer}
use Rattle.field.specs.Verdict.{verdict_of, start_verdict, keys_verdict, on_verdict}
use Rattle.field.specs.Typing.{type_keys}
use Rattle.field.specs.Calls.{Replies, start_call, keys_refused, keys_typed, keys_call, text_call, IsText}

module _ (width maximum : ℕ) (default b : List ℕ) (v : Result Field Status) where
  pub refused_start : (status : Status) (s : State) → verdict_of v ≡ start_verdict width maximum (length default) (length b) → v ≡ Err status → (s.length ≡ 0) × (s.cursor ≡ 0)
      → Replies (start_call width maximum default b) (record { status = status; state = s }) b
  unfolding start_call on_verdict
  refused_start status s is e none = rw (sym is ∙ ap verdict_of e) (record { answer_is = rw (none.0, none.1); bytes = refl })

  module _ (field : Field) (e : v ≡ Ok field) (same : settings_of field ≡ settings width maximum default) where
    pub start_made : (s : State) (b' : List ℕ) → verdict_of v ≡ start_verdict width maximum (length default) (length b) → s ≡ state_of (start_content field.width field.default.now) → b' ≡ laid field.default.now b
        → Replies (start_call width maximum default b) (record { status = Done; state = s }) b'
    unfolding start_call on_verdict
    start_made s b' is state bytes =
        let wide : field.width ≡ width = ap (λ (x : Settings). x.width) same in
        let lent : field.default.now ≡ default = ap (λ (x : Settings). x.default) same in
        rw (sym is ∙ ap verdict_of e) (record { answer_is = rw (state, wide, lent); bytes = bytes ∙ rw lent })

    pub keys_made : (state : State) (keys : List ℕ) (r : KeysAnswer) (b' : List ℕ) → verdict_of v ≡ keys_verdict width maximum (length default) (length b) state
        → Replies (keys_typed (type_keys (settings_of field) (content_of state b) b keys)) r b'
        → Replies (keys_call width maximum default b state keys) r b'
    unfolding keys_call on_verdict
    keys_made state keys r b' is made = rw (sym is ∙ ap verdict_of e, ← same) made

  pub refused_keys : (state : State) (keys : List ℕ) (r : KeysAnswer) (status : Status) → verdict_of v ≡ keys_verdict width maximum (length default) (length b) state → v ≡ Err status
      → r ≡ (keys_refused status state b).answer
      → Replies (keys_call width maximum default b state keys) r b
  unfolding keys_call on_verdict
  refused_keys state keys r status is e made = rw (sym is ∙ ap verdict_of e) (record { answer_is = made; bytes = refl })

-- a lent text is the whole of itself
whole_part : (x : Bor (List ℕ)) → IsPart x x (stretch 0 (length x.now))
whole_part x = record { allocation = refl; place = omega arith; bytes = sym (take-length x.now) }

-- .. and its front a part of it
pub front_part : (x r : Bor (List ℕ)) (n : ℕ) → r.ref_ptr ≡ x.ref_ptr → r.now ≡ take n x.now → IsPart x r (stretch 0 n)
front_part x r n at bytes = record { allocation = ap (λ p. p.0) at; place = ap (λ p. p.1) at ∙ omega arith; bytes = bytes }

-- what a test of a verdict tells
verdict_err : (v : Result Field Status) → is_err v ≡ true → (status : Status) × (verdict_of v ≡ Err status)
verdict_err (Err status) is = (status, refl)
verdict_err (Ok field) is = cc

verdict_ok : (v : Result Field Status) → is_err v ≡ false → verdict_of v ≡ Ok tt
verdict_ok (Err status) is = cc
verdict_ok (Ok field) is = refl

module _ (width maximum : ℕ) (default buffer r : Bor (List ℕ)) (state : State) (ending : Option Ending) (v : Result Field Status) (is : verdict_of v ≡ keys_verdict width maximum (length default.now) (length buffer.now) state) where
  abbrev Given : Type 0
  Given = IsText (text_call width maximum (length default.now) (length buffer.now) state ending) default buffer r

  pub text_refused : is_err v ≡ true → IsPart buffer r no_stretch → Given
  unfolding text_call on_verdict
  text_refused e part = rw (sym is ∙ (verdict_err v e).1) part

  module _ (e : is_err v ≡ false) where
    pub text_ready : Ready width maximum (length default.now) (length buffer.now) state
    text_ready = keys_accepted width maximum (length default.now) (length buffer.now) state (sym is ∙ verdict_ok v e)

    pub text_none : ending ≡ None → IsPart buffer r no_stretch → Given
    unfolding text_call on_verdict
    text_none end part = rw (sym is ∙ verdict_ok v e, end) part

    pub text_typed : ending ≡ Some Return → IsPart buffer r (stretch 0 state.length) → Given
    unfolding text_call on_verdict
    text_typed end part = rw (sym is ∙ verdict_ok v e, end) part

    pub text_default : ending ≡ Some Escape → r ≡ default → Given
    unfolding text_call on_verdict
    text_default end itself = rw (sym is ∙ verdict_ok v e, end, itself) (whole_part default)
