-- What a call keeps within limits, and that a beeped key changes nothing. Assumes nothing.
use Prim.Native.Nat.{ℕ, ◌≤◌}
use native.Mathlib.Omega.{arith}
use mathlib.Core.Path.{◌≡◌, refl, ap, ◌∙◌}
use mathlib.Core.Logic.{⊎_elim}
use mathlib.Core.List.{List, [], ◌∷◌}
use lib.ListN.{length}
use lib.Seq.{length-take-le}
use Rattle.editing.specs.declared.State.{State}
use Rattle.editing.specs.Keys.{Content, Settings, Effect}
use Rattle.editing.specs.Buffer.{laid, settings, content_of, state_of, Ready}
use Rattle.editing.proofs.Texts.{laid_front, length_laid, behind_laid, state_content}
use Rattle.editing.proofs.Keeps.{keeps_start, beeped_or_not}
use Rattle.std.specs.Prelude.{Err}
use Rattle.field.specs.declared.Ending.{Ending}
use Rattle.std.specs.Prelude.{Option, Some, None}
use Rattle.field.specs.declared.Ending.TheVariants.{Return, Escape}
use Rattle.field.specs.Endings.{ending_of}
use Rattle.field.specs.Typing.{Typed, type_keys}
use Rattle.field.specs.Calls.{start_call, keys_call, text_by, text_bytes}
use Rattle.field.proofs.Verdicts.{start_accepted, keys_accepted}
use Rattle.field.proofs.Endings.{ended?}
use Rattle.field.proofs.Reading.{goes_on, ends}
use Rattle.field_laws.specs.Laws.{StartLimits, KeysLimits, BeepChangesNothing, TextLimit}
use Rattle.field_laws.proofs.Answers.{start_not_done, keys_not_done, by_start, by_keys, by_text}
use Rattle.field_laws.proofs.Ran.{ran}

pub start_limits : (width maximum : ℕ) (default b : List ℕ) → StartLimits width maximum b (start_call width maximum default b)
start_limits width maximum default b =
    by_start width maximum default b (StartLimits width maximum b)
    (λ status e. record { within = λ done. absurd (start_not_done width maximum (length default) (length b) (e ∙ ap Err done)); behind = refl; len = refl })
    (λ e.
    let s = start_accepted width maximum (length default) (length b) e in
    record { within = λ _. keeps_start width maximum default s.default_fits; behind = behind_laid default b maximum s.default_fits; len = length_laid default b (omega (arith, s.default_fits, s.room)) })

pub keys_limits : (width maximum : ℕ) (default b : List ℕ) (state : State) (keys : List ℕ) → KeysLimits width maximum b keys (keys_call width maximum default b state keys)
keys_limits width maximum default b state keys =
    by_keys width maximum default b state keys (KeysLimits width maximum b keys)
    (λ status e. record {
      within = λ done. absurd (keys_not_done width maximum (length default) (length b) state (e ∙ ap Err done));
      behind = refl;
      len = refl;
      read_lent = omega arith;
      read_all = λ done. absurd (keys_not_done width maximum (length default) (length b) state (e ∙ ap Err done));
      read_ending = λ some. absurd (some refl);
      beeps_read = omega arith;
    })
    (λ e.
    let r = ran width maximum default b state keys (keys_accepted width maximum (length default) (length b) state e) in
    record {
      within = λ _. r.ready.within;
      behind = r.behind;
      len = r.len;
      read_lent = r.read_lent;
      read_all = λ _. r.read_all;
      read_ending = r.read_ending;
      beeps_read = r.beeps_read;
    })

-- a single key that beeps
beeped_key : (f : Settings) (c : Content) (b : List ℕ) (key : ℕ) → (type_keys f c b (key ∷ [])).beeps ≡ 1 → laid c.text b ≡ b → ((type_keys f c b (key ∷ [])).content ≡ c) × ((type_keys f c b (key ∷ [])).buffer ≡ b)
unfolding type_keys
beeped_key f c b key one there =
    ⊎_elim
    (λ none.
    let is = goes_on f c b key [] none in
    let beeps = ap (λ (x : Typed). x.beeps) is in
    ⊎_elim
    (λ dropped.
    (ap (λ (x : Typed). x.content) is ∙ ap (λ (e : Effect). e.content) dropped, ap (λ (x : Typed). x.buffer) is ∙ ap (λ (e : Effect). laid e.content.text b) dropped ∙ there))
    (λ no. absurd (omega arith))
    (beeped_or_not f c key))
    (λ some. let z = ap (λ (x : Typed). x.beeps) (ends f c b key [] (ending_of key) refl some) in absurd (omega arith))
    (ended? (ending_of key))

pub beep_changes_nothing : (width maximum : ℕ) (default b : List ℕ) (state : State) (key : ℕ) → BeepChangesNothing b state (keys_call width maximum default b state (key ∷ []))
beep_changes_nothing width maximum default b state key =
    by_keys width maximum default b state (key ∷ []) (BeepChangesNothing b state)
    (λ status e one. (refl, refl))
    (λ e one.
    let ready = keys_accepted width maximum (length default) (length b) state e in
    let inside : state.length ≤ length b = omega (arith, ready.within, ready.room) in
    let k = beeped_key (settings width maximum default) (content_of state b) b key one (laid_front state.length b inside) in
    (ap state_of k.0 ∙ state_content state b inside, k.1))

pub text_limit : (width maximum : ℕ) (default b : List ℕ) (state : State) (ending : Option Ending) → TextLimit width maximum default b state ending
text_limit width maximum default b state ending =
    by_text width maximum default b state ending (λ x. length (text_bytes x default b) ≤ maximum)
    (λ status e. omega arith)
    (λ e. given ending (keys_accepted width maximum (length default) (length b) state e))
  where
    given : (ending : Option Ending) → Ready width maximum (length default) (length b) state → length (text_bytes (text_by (length default) state ending) default b) ≤ maximum
    given None h = omega arith
    given (Some Return) h = let len = length-take-le state.length b (omega (arith, h.within, h.room)) in omega (arith, h.within)
    given (Some Escape) h = omega (arith, length-take-le (length default) default (omega arith), h.default_fits)
