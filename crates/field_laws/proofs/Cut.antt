-- Keys cut in two. Assumes nothing.
use Prim.Native.Nat.{ℕ}
use mathlib.Core.Path.{◌≡◌, refl, sym, ap, ◌∙◌}
use mathlib.Core.Logic.{⊎_elim}
use mathlib.Core.List.{List, [], ◌∷◌, ◌++◌}
use lib.ListN.{length}
use Rattle.editing.specs.declared.State.{State}
use Rattle.editing.specs.Keys.{Content, Settings, press}
use Rattle.editing.specs.Buffer.{laid, settings, content_of, state_of}
use Rattle.field.specs.declared.Status.{Status}
use Rattle.std.specs.Prelude.{None}
use Rattle.field.specs.declared.KeysAnswer.{KeysAnswer}
use Rattle.std.specs.Prelude.{Ok, Err}
use Rattle.field.specs.Verdict.{keys_verdict}
use Rattle.field.specs.Rules.{Sized}
use Rattle.field.specs.Endings.{ending_of}
use Rattle.field.specs.Typing.{Typed, after, type_keys}
use Rattle.field.specs.Calls.{Reply, keys_refused, keys_typed, keys_call}
use Rattle.field.proofs.Verdicts.{keys_sized, keys_accepted}
use Rattle.field.proofs.Endings.{ended?}
use Rattle.field.proofs.Reading.{after_nothing, after_after, goes_on, ends}
use Rattle.field_laws.specs.Laws.{Cut}
use Rattle.field_laws.proofs.Answers.{judged, keys_refusal, keys_reply, keys_accepts}
use Rattle.field_laws.proofs.Ran.{Ran, ran}

-- what keys ys leave after others that left x
abbrev then : Settings → Typed → List ℕ → Typed
then f x ys = after x.read x.beeps (type_keys f x.content x.buffer ys)

-- keys that end nothing, and then others
typed_on : (f : Settings) (c : Content) (b xs ys : List ℕ) → (type_keys f c b xs).ending ≡ None → type_keys f c b (xs ++ ys) ≡ then f (type_keys f c b xs) ys
unfolding type_keys
typed_on f c b [] ys e = sym (after_nothing (type_keys f c b ys))
typed_on f c b (key ∷ xs) ys e =
    let c' = (press f c key).content in
    let b' = laid (press f c key).content.text b in
    ⊎_elim
    (λ none.
    let first = goes_on f c b key xs none in
    goes_on f c b key (xs ++ ys) none
    ∙ ap (after 1 (press f c key).beeps) (typed_on f c' b' xs ys (ap (λ (x : Typed). x.ending) (sym first) ∙ e))
    ∙ after_after 1 (press f c key).beeps _ _ (type_keys f (type_keys f c' b' xs).content (type_keys f c' b' xs).buffer ys)
    ∙ ap (λ (x : Typed). then f x ys) (sym first))
    (λ some. absurd (some (ap (λ (x : Typed). x.ending) (sym (ends f c b key xs (ending_of key) refl some)) ∙ e)))
    (ended? (ending_of key))

-- keys that end the field, whatever comes behind them
typed_end : (f : Settings) (c : Content) (b xs ys : List ℕ) → ((type_keys f c b xs).ending ≡ None → ⊥) → type_keys f c b (xs ++ ys) ≡ type_keys f c b xs
unfolding type_keys
typed_end f c b [] ys some = absurd (some refl)
typed_end f c b (key ∷ xs) ys some =
    ⊎_elim
    (λ none.
    let first = goes_on f c b key xs none in
    goes_on f c b key (xs ++ ys) none
    ∙ ap (after 1 (press f c key).beeps) (typed_end f (press f c key).content (laid (press f c key).content.text b) xs ys (λ e. some (ap (λ (x : Typed). x.ending) first ∙ e)))
    ∙ sym first)
    (λ end. ends f c b key (xs ++ ys) (ending_of key) refl end ∙ sym (ends f c b key xs (ending_of key) refl end))
    (ended? (ending_of key))

-- ---- the calls
module _ (width maximum : ℕ) (default b : List ℕ) (state : State) (xs ys : List ℕ) where
  abbrev f : Settings
  f = settings width maximum default

  -- what the first keys leave
  abbrev x : Typed
  x = type_keys f (content_of state b) b xs

  cut_refused : (status : Status) → keys_verdict width maximum (length default) (length b) state ≡ Err status → Cut (keys_call width maximum default) b state xs ys
  cut_refused status e =
      let same : (keys : List ℕ) → keys_call width maximum default b state keys ≡ keys_refused status state b = λ keys. keys_refusal width maximum default b state keys status e in
      record {
        goes_on = λ _. rw (same xs, same (xs ++ ys), same ys) (record { first_status = refl; second_status = refl; state = refl; buffer = refl; ending = refl; read = refl; beeps = refl });
        ended = λ some. absurd (some (ap (λ (r : Reply KeysAnswer). r.answer.ending) (same xs)));
      }

  module _ (e : keys_verdict width maximum (length default) (length b) state ≡ Ok tt) where
    sizes : Sized width maximum (length default) (length b)
    sizes = keys_sized width maximum (length default) (length b) state e

    left : Ran width maximum default b xs x
    left = ran width maximum default b state xs (keys_accepted width maximum (length default) (length b) state e)

    -- the second call is accepted too, and goes on from what the first left
    second : keys_call width maximum default x.buffer (state_of x.content) ys ≡ keys_typed (type_keys f x.content x.buffer ys)
    second =
        keys_reply width maximum default x.buffer (state_of x.content) ys (keys_accepts width maximum (length default) (length x.buffer) (state_of x.content) (rw left.len sizes) left.ready.within)
        ∙ ap (λ (c : Content). keys_typed (type_keys f c x.buffer ys)) left.front

    cut_accepted : Cut (keys_call width maximum default) b state xs ys
    cut_accepted =
        let first = keys_reply width maximum default b state xs e in
        let whole = keys_reply width maximum default b state (xs ++ ys) e in
        record {
          goes_on = λ none.
              rw (first, second, whole, typed_on f (content_of state b) b xs ys (ap (λ (r : Reply KeysAnswer). r.answer.ending) (sym first) ∙ none))
              (record { first_status = refl; second_status = refl; state = refl; buffer = refl; ending = refl; read = refl; beeps = refl });
          ended = λ some.
              whole ∙ ap keys_typed (typed_end f (content_of state b) b xs ys (λ none. some (ap (λ (r : Reply KeysAnswer). r.answer.ending) first ∙ none))) ∙ sym first;
        }

pub keys_cut : (width maximum : ℕ) (default b : List ℕ) (state : State) (xs ys : List ℕ) → Cut (keys_call width maximum default) b state xs ys
keys_cut width maximum default b state xs ys = ⊎_elim (λ r. cut_refused width maximum default b state xs ys r.0 r.1) (cut_accepted width maximum default b state xs ys) (judged (keys_verdict width maximum (length default) (length b) state))
