-- What keys that are read one after another keep, however many they are. Assumes nothing.
use Prim.Native.Nat.{ℕ, suc, ◌+◌, ◌-◌, ◌≤◌}
use mathlib.Core.Path.{◌≡◌, refl, sym, ap, ◌∙◌, subst}
use mathlib.Core.Logic.{⊎_elim}
use mathlib.Core.List.{List, [], ◌∷◌}
use native.Mathlib.Omega.{arith}
use lib.ListN.{length, get_or, drop}
use Rattle.editing.specs.declared.State.{State}
use Rattle.editing.specs.Keys.{Content, Settings, press}
use Rattle.editing.specs.Buffer.{laid, settings, content_of, state_of, Ready}
use Rattle.editing.proofs.Texts.{state_content, content_laid}
use Rattle.editing.proofs.Keeps.{InRoom, KeptByKeys, beeps_once, length_kept, behind_kept, ready_kept, in_room_kept}
use Rattle.std.specs.Prelude.{None}
use Rattle.field.specs.Endings.{ending_of}
use Rattle.field.specs.Typing.{Typed, after, type_keys}
use Rattle.field.proofs.Endings.{ended?}
use Rattle.field.proofs.Reading.{goes_on, ends}

-- what keys leave: the field is ready for more, as R says it, and its text lies in front of the buffer
pub record RanAs (R : ℕ → State → Type 0) (maximum : ℕ) (b keys : List ℕ) (x : Typed) : Type 0 where
  pub ready : R (length x.buffer) (state_of x.content)
  pub front : content_of (state_of x.content) x.buffer ≡ x.content
  pub len : length x.buffer ≡ length b
  pub behind : drop maximum x.buffer ≡ drop maximum b
  pub read_lent : x.read ≤ length keys
  pub read_all : x.ending ≡ None → x.read ≡ length keys
  pub read_ending : (x.ending ≡ None → ⊥) → (1 ≤ x.read) × (ending_of (get_or keys (x.read - 1) 0) ≡ x.ending)
  pub beeps_read : x.beeps ≤ x.read

-- .. as an accepted field is
abbrev pub Ran : ℕ → ℕ → List ℕ → List ℕ → List ℕ → Typed → Type 0
Ran width maximum default = RanAs (Ready width maximum (length default)) maximum

module _ {R : ℕ → State → Type 0} (width maximum : ℕ) (default : List ℕ) (kept : KeptByKeys width maximum default R) where
  abbrev f : Settings
  f = settings width maximum default

  -- one key more in front
  ran_after : (c : Content) (b : List ℕ) (key : ℕ) (keys : List ℕ) (x : Typed) → R (length b) (state_of c) → RanAs R maximum (laid (press f c key).content.text b) keys x
      → RanAs R maximum b (key ∷ keys) (after 1 (press f c key).beeps x)
  ran_after c b key keys x h r = record {
    ready = r.ready;
    front = r.front;
    len = r.len ∙ length_kept width maximum default b c key (kept.fits h) (kept.in_room h);
    behind = r.behind ∙ behind_kept width maximum default b c key (kept.fits h) (kept.in_room h);
    read_lent = omega (arith, r.read_lent);
    read_all = λ e. omega (arith, r.read_all e);
    read_ending = λ some.
        let k = r.read_ending some in
        let place : 1 + x.read - 1 ≡ suc (x.read - 1) = omega (arith, k.0) in
        (omega arith, rw place k.1);
    beeps_read = omega (arith, r.beeps_read, beeps_once f c key);
  }

  ran_from : (c : Content) (b keys : List ℕ) → R (length b) (state_of c) → content_of (state_of c) b ≡ c → RanAs R maximum b keys (type_keys f c b keys)
  unfolding type_keys
  ran_from c b [] h front =
      record { ready = h; front = front; len = refl; behind = refl; read_lent = omega arith; read_all = λ e. refl; read_ending = λ no. absurd (no refl); beeps_read = omega arith }
  ran_from c b (key ∷ keys) h front =
      ⊎_elim
      (λ e. rw (goes_on f c b key keys e)
      (ran_after c b key keys _ h
      (ran_from (press f c key).content (laid (press f c key).content.text b) keys (kept.again b c key h) (content_laid (press f c key).content b))))
      (λ some. subst (RanAs R maximum b (key ∷ keys)) (sym (ends f c b key keys (ending_of key) refl some))
      (record { ready = h; front = front; len = refl; behind = refl; read_lent = omega arith; read_all = λ e. absurd (some e); read_ending = λ _. (omega arith, refl); beeps_read = omega arith }))
      (ended? (ending_of key))

  -- any keys leave it so
  pub ran_as : (b : List ℕ) (state : State) (keys : List ℕ) → R (length b) state → RanAs R maximum b keys (type_keys f (content_of state b) b keys)
  ran_as b state keys h =
      let here = kept.in_room h in
      let is = state_content state b (omega (arith, here.within, here.room)) in
      ran_from (content_of state b) b keys (rw is h) (ap (λ (s : State). content_of s b) is)

module _ (width maximum : ℕ) (default : List ℕ) where
  -- what is left by a call that is accepted
  pub ran : (b : List ℕ) (state : State) (keys : List ℕ) → Ready width maximum (length default) (length b) state → Ran width maximum default b keys (type_keys (settings width maximum default) (content_of state b) b keys)
  ran = ran_as width maximum default (ready_kept width maximum default)

  -- .. and with any maximum that the default fits, in a buffer with that much room
  pub ran_in_room : length default ≤ maximum → (b : List ℕ) (state : State) (keys : List ℕ) → InRoom width maximum (length b) state
      → RanAs (InRoom width maximum) maximum b keys (type_keys (settings width maximum default) (content_of state b) b keys)
  ran_in_room fits = ran_as width maximum default (in_room_kept width maximum default fits)
