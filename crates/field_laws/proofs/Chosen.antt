-- What the user has chosen. Assumes nothing.
use Prim.Native.Nat.{ℕ}
use native.Mathlib.Omega.{arith}
use mathlib.Core.Path.{◌≡◌, refl, sym, ap, ◌∙◌}
use mathlib.Core.List.{List, [], ◌∷◌}
use lib.ListN.{length}
use Rattle.editing.specs.declared.State.{State}
use Rattle.editing.specs.Keys.{start_content, restore_default, press}
use Rattle.editing.specs.Buffer.{laid, settings, content_of, state_of}
use Rattle.editing.proofs.Texts.{take_laid, length_laid}
use Rattle.editing.proofs.Keeps.{keeps_start}
use Rattle.field.specs.declared.Status.TheVariants.{Done}
use Rattle.std.specs.Prelude.{Some}
use Rattle.field.specs.declared.Ending.TheVariants.{Return}
use Rattle.field.specs.declared.KeysAnswer.{KeysAnswer}
use Rattle.std.specs.Prelude.{Err}
use Rattle.field.specs.Endings.{ending_of}
use Rattle.field.specs.Typing.{type_keys}
use Rattle.field.specs.Calls.{Reply, keys_call, text_by}
use Rattle.field.proofs.Verdicts.{start_accepted, keys_sized, keys_accepted}
use Rattle.field_laws.specs.Laws.{text_after, EscapeGivesDefault, ReturnsDefault, StartReturnsDefault, RestoreReturnsDefault}
use Rattle.field_laws.proofs.Answers.{accepts, keys_not_done, start_not_done, keys_was_accepted, by_start, by_keys, keys_reply}
use Rattle.field_laws.proofs.Ran.{ran}
use Rattle.field_laws.proofs.Cut.{keys_cut}

-- keys that were accepted leave a field that is accepted again
text_after_lem : (width maximum : ℕ) (default b : List ℕ) (state : State) (keys : List ℕ) → (keys_call width maximum default b state keys).answer.status ≡ Done
    → text_after width maximum default (keys_call width maximum default b state keys)
    ≡ text_by (length default) (keys_call width maximum default b state keys).answer.state (keys_call width maximum default b state keys).answer.ending
text_after_lem width maximum default b state keys =
    by_keys width maximum default b state keys (λ r. r.answer.status ≡ Done → text_after width maximum default r ≡ text_by (length default) r.answer.state r.answer.ending)
    (λ status e done. absurd (keys_not_done width maximum (length default) (length b) state (e ∙ ap Err done)))
    (λ e _.
    let sizes = keys_sized width maximum (length default) (length b) state e in
    let r = ran width maximum default b state keys (keys_accepted width maximum (length default) (length b) state e) in
    let x = type_keys (settings width maximum default) (content_of state b) b keys in
    (accepts width maximum default x.buffer (state_of x.content) [] x.ending).text_given (rw r.len sizes) r.ready.within)

pub escape_gives_default : (width maximum : ℕ) (default b : List ℕ) (state : State) (keys : List ℕ) → EscapeGivesDefault width maximum default (keys_call width maximum default b state keys)
escape_gives_default width maximum default b state keys done end = text_after_lem width maximum default b state keys done ∙ rw end

-- after Return it is the typed text, and so the default where that is in front of the buffer
returned : (width maximum : ℕ) (default b : List ℕ) (state : State) (keys b' : List ℕ) → (keys_call width maximum default b state keys).answer.status ≡ Done
    → (type_keys (settings width maximum default) (content_of state b) b keys).content.text ≡ default
    → (type_keys (settings width maximum default) (content_of state b) b keys).buffer ≡ laid default b'
    → (type_keys (settings width maximum default) (content_of state b) b keys).ending ≡ Some Return
    → ReturnsDefault width maximum default (keys_call width maximum default b state keys)
returned width maximum default b state keys b' done text bytes end =
    let is = keys_reply width maximum default b state keys (keys_was_accepted width maximum default b state keys done) in
    let ending = ap (λ (r : Reply KeysAnswer). r.answer.ending) is ∙ end in
    record { done = done; ending = ending; text = rw (text_after_lem width maximum default b state keys done, ending, is, text, bytes) (take_laid default b') }

pub start_returns_default : (width maximum : ℕ) (default b : List ℕ) → StartReturnsDefault width maximum default b
unfolding type_keys ending_of
start_returns_default width maximum default b =
    by_start width maximum default b
    (λ r. r.answer.status ≡ Done → ReturnsDefault width maximum default (keys_call width maximum default r.buffer r.answer.state (0x0d ∷ [])))
    (λ status e done. absurd (start_not_done width maximum (length default) (length b) (e ∙ ap Err done)))
    (λ e _.
    let s = start_accepted width maximum (length default) (length b) e in
    let len = length_laid default b (omega (arith, s.default_fits, s.room)) in
    let state = state_of (start_content width default) in
    returned width maximum default (laid default b) state (0x0d ∷ []) b
    ((accepts width maximum default (laid default b) state (0x0d ∷ []) (Some Return)).keys_done (rw len s) (keeps_start width maximum default s.default_fits))
    (take_laid default b)
    refl
    refl)

-- with no keys before
restored : (width maximum : ℕ) (default b : List ℕ) (state : State) → (keys_call width maximum default b state (0x1a ∷ 0x0d ∷ [])).answer.status ≡ Done
    → ReturnsDefault width maximum default (keys_call width maximum default b state (0x1a ∷ 0x0d ∷ []))
unfolding type_keys ending_of press restore_default
restored width maximum default b state done = returned width maximum default b state (0x1a ∷ 0x0d ∷ []) b done refl refl refl

pub restore_returns_default : (width maximum : ℕ) (default b : List ℕ) (state : State) (keys : List ℕ) → RestoreReturnsDefault width maximum default b state keys
restore_returns_default width maximum default b state keys done none =
    let cut = (keys_cut width maximum default b state keys (0x1a ∷ 0x0d ∷ [])).goes_on none in
    let first = keys_call width maximum default b state keys in
    let second = restored width maximum default first.buffer first.answer.state (cut.second_status ∙ sym cut.first_status ∙ done) in
    record {
      done = sym cut.first_status ∙ done;
      ending = sym cut.ending ∙ second.ending;
      text = rw (sym cut.state, sym cut.ending, sym cut.buffer) second.text;
    }
