-- Keys read one after another, and the loop that reads them. Assumes nothing.
use Prim.Native.Nat.{ℕ, ◌+◌, ◌≤◌, ◌<◌}
use mathlib.Core.Path.{◌≡◌, refl, sym, ap, ◌∙◌, subst}
use mathlib.Core.List.{List, [], ◌∷◌}
use native.Mathlib.Nat.{add_assoc}
use native.Mathlib.Numerals.{add-one}
use native.Mathlib.Omega.{arith}
use lib.ListN.{length, get_or, drop, drop_of_length-le}
use lib.Seq.{drop-cons}
use Rattle.editing.specs.declared.State.{State}
use Rattle.editing.specs.Keys.{Content, Settings, Effect, press}
use Rattle.editing.specs.Buffer.{laid, settings, content_of, state_of, Ready, Presses, state_after, beeps_of}
use Rattle.editing.proofs.Texts.{state_content, content_laid}
use Rattle.editing.proofs.Keeps.{InRoom, KeptByKeys, beeps_once, length_kept, ready_kept}
use Rattle.field.specs.declared.Status.TheVariants.{Done}
use Rattle.field.specs.declared.Ending.{Ending}
use Rattle.std.specs.Prelude.{Option, Some, None}
use Rattle.field.specs.declared.KeysAnswer.{KeysAnswer}
use Rattle.field.specs.Endings.{ending_of}
use Rattle.field.specs.Typing.{Typed, after, type_keys}
use Rattle.field.specs.Calls.{Replies, answer_of, keys_typed}

-- ---- counts of keys before others
pub after_nothing : (x : Typed) → after 0 0 x ≡ x
after_nothing x = let n : 0 + x.read ≡ x.read = omega arith in let m : 0 + x.beeps ≡ x.beeps = omega arith in rw (n, m)

pub after_after : (i j k l : ℕ) (x : Typed) → after i j (after k l x) ≡ after (i + k) (j + l) x
after_after i j k l x = rw (add_assoc i k x.read, add_assoc j l x.beeps)

module _ (f : Settings) (c : Content) (b : List ℕ) (key : ℕ) (keys : List ℕ) where
  -- the first key goes on, or ends the field
  pub goes_on : ending_of key ≡ None → type_keys f c b (key ∷ keys) ≡ after 1 (press f c key).beeps (type_keys f (press f c key).content (laid (press f c key).content.text b) keys)
  unfolding type_keys
  goes_on e = rw e

  pub ends : (ending : Option Ending) → ending_of key ≡ ending → (ending ≡ None → ⊥) → type_keys f c b (key ∷ keys) ≡ record { content = c; buffer = b; read = 1; beeps = 0; ending = ending }
  unfolding type_keys
  ends None e some = absurd (some refl)
  ends (Some ending) e some = rw e

nothing_after : (f : Settings) (c : Content) (b : List ℕ) (read beeps : ℕ) → after read beeps (type_keys f c b []) ≡ record { content = c; buffer = b; read = read; beeps = beeps; ending = None }
unfolding type_keys
nothing_after f c b read beeps = let n : read + 0 ≡ read = omega arith in let m : beeps + 0 ≡ beeps = omega arith in rw (n, m)

-- ---- the loop: so many keys have been read, the answer is that of keys which are not at their end yet, and the buffer is b
module _ (width maximum : ℕ) (default b₀ : List ℕ) (at : State) (keys : List ℕ) where
  abbrev f : Settings
  f = settings width maximum default

  abbrev all : Typed
  all = type_keys f (content_of at b₀) b₀ keys

  -- .. the state is ready, as R says it, for the key that comes next
  pub record ReadingAs (R : ℕ → State → Type 0) (b : List ℕ) (answer : KeysAnswer) (read : ℕ) : Type 0 where
    pub kept : KeptByKeys width maximum default R
    pub within : read ≤ length keys
    pub done : answer.status ≡ Done
    pub read_is : answer.read ≡ read
    pub open_is : answer.ending ≡ None
    pub few : answer.beeps ≤ read
    pub len : length b ≡ length b₀
    pub ready : R (length b) answer.state
    pub rest : all ≡ after read answer.beeps (type_keys f (content_of answer.state b) b (drop read keys))

  -- .. as an accepted field is
  abbrev pub Reading : List ℕ → KeysAnswer → ℕ → Type 0
  Reading = ReadingAs (Ready width maximum (length default))

  pub reading_as_starts : {R : ℕ → State → Type 0} → KeptByKeys width maximum default R → (answer : KeysAnswer) → answer ≡ answer_of Done at 0 0 None → R (length b₀) at → ReadingAs R b₀ answer 0
  reading_as_starts {R} kept answer is ready =
      subst (λ (a : KeysAnswer). ReadingAs R b₀ a 0) (sym is)
      (record { kept = kept; within = omega arith; done = refl; read_is = refl; open_is = refl; few = omega arith; len = refl; ready = ready; rest = sym (after_nothing all) })

  pub reading_starts : (answer : KeysAnswer) → answer ≡ answer_of Done at 0 0 None → Ready width maximum (length default) (length b₀) at → Reading b₀ answer 0
  reading_starts = reading_as_starts (ready_kept width maximum default)

  -- where the reading stops, the answer is what all keys leave
  stopped : (b : List ℕ) (current : State) (beeps read : ℕ) (ending : Option Ending) → InRoom width maximum (length b) current
      → all ≡ record { content = content_of current b; buffer = b; read = read; beeps = beeps; ending = ending }
      → Replies (keys_typed all) (answer_of Done current read beeps ending) b
  stopped b current beeps read ending h is =
      subst (λ (x : Typed). Replies (keys_typed x) (answer_of Done current read beeps ending) b) (sym is)
      (record { answer_is = rw (state_content current b (omega (arith, h.within, h.room))); bytes = refl })

  module _ {R : ℕ → State → Type 0} (b : List ℕ) (answer : KeysAnswer) (read : ℕ) (r : ReadingAs R b answer read) (more : read < length keys) where
    abbrev key : ℕ
    key = get_or keys read 0

    next_key : drop read keys ≡ key ∷ drop (read + 1) keys
    next_key = drop-cons keys read 0 more ∙ ap (λ (n : ℕ). key ∷ drop n keys) (sym (add-one read))

    pub reading_again : (p : Option State) (b' : List ℕ) (next : KeysAnswer) → ending_of key ≡ None → Presses (press f (content_of answer.state b) key) answer.state b p b'
        → next ≡ answer_of answer.status (state_after answer.state p) (answer.read + 1) (answer.beeps + beeps_of p) None
        → ReadingAs R b' next (read + 1)
    reading_again p b' next none pressed is = subst (λ (a : KeysAnswer). ReadingAs R b' a (read + 1)) (sym is) (record {
      kept = r.kept;
      within = omega arith;
      done = r.done;
      read_is = ap (λ (n : ℕ). n + 1) r.read_is;
      open_is = refl;
      few = let one = beeps_once f (content_of answer.state b) key in omega (arith, r.few, pressed.beeps_are);
      len = ap length pressed.bytes ∙ length_kept width maximum default b (content_of answer.state b) key (r.kept.fits r.ready) (r.kept.in_room found) ∙ r.len;
      ready = rw (pressed.state_is, pressed.bytes) (r.kept.again b (content_of answer.state b) key found);
      rest = r.rest
          ∙ ap (λ (ks : List ℕ). after read answer.beeps (type_keys f (content_of answer.state b) b ks)) next_key
          ∙ ap (after read answer.beeps) (goes_on f (content_of answer.state b) b key (drop (read + 1) keys) none)
          ∙ after_after read answer.beeps 1 e.beeps (type_keys f e.content (laid e.content.text b) (drop (read + 1) keys))
          ∙ rw (← pressed.beeps_are, content_is, pressed.bytes);
    })
      where
        e : Effect
        e = press f (content_of answer.state b) key

        found : R (length b) (state_of (content_of answer.state b))
        found = let h = r.kept.in_room r.ready in rw (state_content answer.state b (omega (arith, h.within, h.room))) r.ready

        content_is : content_of (state_after answer.state p) b' ≡ e.content
        content_is = rw (pressed.state_is, pressed.bytes) (content_laid e.content b)

    pub reading_ends : (ending : Option Ending) → ending ≡ ending_of key → (ending ≡ None → ⊥) → Replies (keys_typed all) (answer_of answer.status answer.state (answer.read + 1) answer.beeps ending) b
    reading_ends ending is some =
        let end : all ≡ record { content = content_of answer.state b; buffer = b; read = read + 1; beeps = answer.beeps; ending = ending } =
        r.rest
        ∙ ap (λ (ks : List ℕ). after read answer.beeps (type_keys f (content_of answer.state b) b ks)) next_key
        ∙ ap (after read answer.beeps) (ends f (content_of answer.state b) b key (drop (read + 1) keys) ending (sym is) some)
        ∙ (let n : answer.beeps + 0 ≡ answer.beeps = omega arith in rw n) in
        rw (r.done, r.read_is) (stopped b answer.state answer.beeps (read + 1) ending (r.kept.in_room r.ready) end)

  pub reading_done : {R : ℕ → State → Type 0} (b : List ℕ) (answer : KeysAnswer) (read : ℕ) → ReadingAs R b answer read → length keys ≤ read → Replies (keys_typed all) answer b
  reading_done b answer read r none =
      let end : all ≡ record { content = content_of answer.state b; buffer = b; read = read; beeps = answer.beeps; ending = None } =
      r.rest
      ∙ ap (λ (ks : List ℕ). after read answer.beeps (type_keys f (content_of answer.state b) b ks)) (drop_of_length-le keys none)
      ∙ nothing_after f (content_of answer.state b) b read answer.beeps in
      let is : answer ≡ answer_of Done answer.state read answer.beeps None = rw (← r.done, ← r.read_is, ← r.open_is) in
      rw is (stopped b answer.state answer.beeps read None (r.kept.in_room r.ready) end)
