-- What every key keeps, whatever it is: length and cursor stay within their limits, and a key that beeps changes nothing. Assumes nothing.
use Prim.Native.Nat.{ℕ, ◌+◌, ◌-◌, ◌≤◌, ◌<◌}
use mathlib.Core.Path.{◌≡◌, refl}
use mathlib.Core.Bool.{Bool, true, false, cond, ◌||◌}
use mathlib.Core.Logic.{◌⊎◌, inl, inr, ⊎_elim}
use mathlib.Core.List.{List, []}
use native.Mathlib.Omega.{arith}
use borrow.Author.Tests.{eqb-false, ltb-false}
use lib.Dec.{ltb, eqb}
use lib.ListN.{length, take, drop}
use lib.Seq.{length-take-le}
use Rattle.std.proofs.lemmas.Bool.{or_parts}
use Rattle.laws.proofs.Tests.{by_test}
use Rattle.editing.specs.declared.State.{State}
use Rattle.editing.specs.Keys.{Content, Settings, Effect, becomes, beep, start_content, inserted, removed, insert, move_left, move_right, delete_left, delete_under, delete_all, delete_to_end, restore_default, is_printing_key, press}
use Rattle.editing.specs.Buffer.{laid, settings, state_of, Within, Ready}
use Rattle.editing.proofs.Texts.{length_inserted, length_removed, length_laid, behind_laid}

-- a property of each key's effect is one of every key's
by_key : (P : Effect → Type 0) (f : Settings) (c : Content) (key : ℕ) → P (insert f.width f.maximum c key) → P (move_left c) → P (move_right f.width c) → P (delete_left c) → P (delete_under c)
    → P (delete_all c)
    → P (delete_to_end c)
    → P (restore_default f.width f.default)
    → P (beep c)
    → P (press f c key)
unfolding press
by_key P f c key p1 p2 p3 p4 p5 p6 p7 p8 p9 =
    by_test P (is_printing_key key) (λ _. p1) λ _.
    by_test P (eqb key 0x08) (λ _. p2) λ _.
    by_test P (eqb key 0x15) (λ _. p3) λ _.
    by_test P (eqb key 0x04) (λ _. p4) λ _.
    by_test P (eqb key 0x7f) (λ _. p4) λ _.
    by_test P (eqb key 0x06) (λ _. p5) λ _.
    by_test P (eqb key 0x18) (λ _. p6) λ _.
    by_test P (eqb key 0x19) (λ _. p7) λ _.
    by_test P (eqb key 0x1a) (λ _. p8) λ _.
    p9

-- 'beeped and dropped', or no beep
abbrev pub BeepedOrNot : Content → Effect → Type 0
BeepedOrNot c e = (e ≡ beep c) ⊎ (e.beeps ≡ 0)

either : (c : Content) (t : Bool) (text : List ℕ) (cursor : ℕ) → BeepedOrNot c (cond t (beep c) (becomes text cursor))
either c true text cursor = inl refl
either c false text cursor = inr refl

pub beeped_or_not : (f : Settings) (c : Content) (key : ℕ) → BeepedOrNot c (press f c key)
unfolding insert move_left move_right delete_left delete_under delete_all delete_to_end restore_default
beeped_or_not f c key =
    by_key (BeepedOrNot c) f c key
    (either c (ltb f.maximum (length c.text + 1) || eqb c.cursor f.width) _ _)
    (either c (eqb c.cursor 0) _ _)
    (either c (eqb c.cursor (length c.text) || eqb c.cursor f.width) _ _)
    (either c (eqb c.cursor 0) _ _)
    (either c (eqb c.cursor (length c.text)) _ _)
    (either c (eqb (length c.text) 0) _ _)
    (either c (eqb c.cursor (length c.text)) _ _)
    (inr refl)
    (inl refl)

pub beeps_once : (f : Settings) (c : Content) (key : ℕ) → (press f c key).beeps ≤ 1
beeps_once f c key = ⊎_elim (λ e. rw e (omega arith)) (λ e. omega (arith, e)) (beeped_or_not f c key)

-- 'the cursor never passes the text's end or the width', nor the text the maximum
module _ (width maximum : ℕ) where
  abbrev Keeps : Effect → Type 0
  Keeps e = Within width maximum (state_of e.content)

  within : (text : List ℕ) (cursor : ℕ) → length text ≤ maximum → cursor ≤ length text → cursor ≤ width → Keeps (becomes text cursor)
  within text cursor a b d = record { length_within = a; cursor_in_text = b; cursor_in_field = d }

  module _ (c : Content) (h : Within width maximum (state_of c)) where
    keeps_insert : (key : ℕ) → Keeps (insert width maximum c key)
    unfolding insert
    keeps_insert key =
        by_test Keeps (ltb maximum (length c.text + 1) || eqb c.cursor width) (λ _. h) λ e.
        let room = ltb-false maximum (length c.text + 1) ((or_parts _ _ e).0) in
        let left = eqb-false c.cursor width ((or_parts (ltb maximum (length c.text + 1)) _ e).1) in
        let len = length_inserted c.text c.cursor key h.cursor_in_text in
        within (inserted c.cursor key c.text) (c.cursor + 1) (omega (arith, h)) (omega (arith, h)) (omega (arith, h))

    keeps_left : Keeps (move_left c)
    unfolding move_left
    keeps_left = by_test Keeps (eqb c.cursor 0) (λ _. h) λ e. within c.text (c.cursor - 1) h.length_within (omega (arith, h)) (omega (arith, h))

    keeps_right : Keeps (move_right width c)
    unfolding move_right
    keeps_right =
        by_test Keeps (eqb c.cursor (length c.text) || eqb c.cursor width) (λ _. h) λ e.
        let inner = eqb-false c.cursor (length c.text) ((or_parts _ _ e).0) in
        let left = eqb-false c.cursor width ((or_parts (eqb c.cursor (length c.text)) _ e).1) in
        within c.text (c.cursor + 1) h.length_within (omega (arith, h)) (omega (arith, h))

    keeps_removed : (at cursor : ℕ) → at < length c.text → cursor ≤ at → at ≤ c.cursor → Keeps (becomes (removed at c.text) cursor)
    keeps_removed at cursor inside before behind =
        let len = length_removed c.text at inside in
        within (removed at c.text) cursor (omega (arith, h)) (omega (arith, h)) (omega (arith, h))

    keeps_delete_left : Keeps (delete_left c)
    unfolding delete_left
    keeps_delete_left = by_test Keeps (eqb c.cursor 0) (λ _. h) λ e. let some = eqb-false c.cursor 0 e in keeps_removed (c.cursor - 1) (c.cursor - 1) (omega (arith, h)) (omega arith) (omega arith)

    keeps_delete_under : Keeps (delete_under c)
    unfolding delete_under
    keeps_delete_under =
        by_test Keeps (eqb c.cursor (length c.text)) (λ _. h) λ e.
        let inner = eqb-false c.cursor (length c.text) e in
        keeps_removed c.cursor c.cursor (omega (arith, h)) (omega arith) (omega arith)

    keeps_delete_all : Keeps (delete_all c)
    unfolding delete_all
    keeps_delete_all = by_test Keeps (eqb (length c.text) 0) (λ _. h) λ e. within [] 0 (omega arith) (omega arith) (omega arith)

    keeps_delete_to_end : Keeps (delete_to_end c)
    unfolding delete_to_end
    keeps_delete_to_end =
        by_test Keeps (eqb c.cursor (length c.text)) (λ _. h) λ e.
        let len = length-take-le c.cursor c.text h.cursor_in_text in
        within (take c.cursor c.text) c.cursor (omega (arith, h)) (omega (arith, h)) h.cursor_in_field

  pub keeps_start : (default : List ℕ) → length default ≤ maximum → Within width maximum (state_of (start_content width default))
  keeps_start default fits = record { length_within = fits; cursor_in_text = omega arith; cursor_in_field = omega arith }

pub keeps_press : (f : Settings) (c : Content) (key : ℕ) → length f.default ≤ f.maximum → Within f.width f.maximum (state_of c) → Within f.width f.maximum (state_of (press f c key).content)
unfolding restore_default
keeps_press f c key fits h =
    let w = f.width in
    let m = f.maximum in
    by_key (Keeps f.width f.maximum) f c key (keeps_insert w m c h key) (keeps_left w m c h) (keeps_right w m c h) (keeps_delete_left w m c h) (keeps_delete_under w m c h) (keeps_delete_all w m c h) (keeps_delete_to_end w m c h)
    (keeps_start w m f.default fits)
    h

-- `Ready` without `small` and `default_fits`: what keys keep of a state and its buffer is so of any maximum that the default fits, and not only of one up to 254
pub record InRoom (width maximum buffer_length : ℕ) (state : State) : Type 0 where
  pub within : Within width maximum state
  pub room : maximum ≤ buffer_length

-- a key leaves it so; the buffer stays as long as it was, and no byte from the maximum on is changed
module _ (width maximum : ℕ) (default b : List ℕ) (c : Content) (key : ℕ) (fits : length default ≤ maximum) (h : InRoom width maximum (length b) (state_of c)) where
  abbrev outcome : Content
  outcome = (press (settings width maximum default) c key).content

  within_after : Within width maximum (state_of outcome)
  within_after = keeps_press (settings width maximum default) c key fits h.within

  pub length_kept : length (laid outcome.text b) ≡ length b
  length_kept = length_laid outcome.text b (omega (arith, within_after.length_within, h.room))

  pub behind_kept : drop maximum (laid outcome.text b) ≡ drop maximum b
  behind_kept = behind_laid outcome.text b maximum within_after.length_within

  pub in_room_press : InRoom width maximum (length (laid outcome.text b)) (state_of outcome)
  in_room_press = rw length_kept (record { within = within_after; room = h.room })

-- what `Ready` says of it
pub ready_in_room : {width maximum default buffer : ℕ} {state : State} → Ready width maximum default buffer state → InRoom width maximum buffer state
ready_in_room h = record { within = h.within; room = h.room }

-- a field that is ready for a key is ready for the next one too; the buffer stays as long as it was, and no byte from the maximum on is changed
module _ (width maximum : ℕ) (default b : List ℕ) (c : Content) (key : ℕ) (h : Ready width maximum (length default) (length b) (state_of c)) where
  abbrev pressed : Content
  pressed = (press (settings width maximum default) c key).content

  pub length_pressed : length (laid pressed.text b) ≡ length b
  length_pressed = length_kept width maximum default b c key h.default_fits (ready_in_room h)

  pub behind_pressed : drop maximum (laid pressed.text b) ≡ drop maximum b
  behind_pressed = behind_kept width maximum default b c key h.default_fits (ready_in_room h)

  pub ready_press : Ready width maximum (length default) (length (laid pressed.text b)) (state_of pressed)
  ready_press =
      let next = in_room_press width maximum default b c key h.default_fits (ready_in_room h) in
      record { within = next.within; small = h.small; room = next.room; default_fits = h.default_fits }

-- each key keeps R, which is of a buffer's length and a state; and R gives `InRoom`, and that the default fits
pub record KeptByKeys (width maximum : ℕ) (default : List ℕ) (R : ℕ → State → Type 0) : Type 0 where
  pub in_room : {buffer : ℕ} {state : State} → R buffer state → InRoom width maximum buffer state
  pub fits : {buffer : ℕ} {state : State} → R buffer state → length default ≤ maximum
  pub again : (b : List ℕ) (c : Content) (key : ℕ) → R (length b) (state_of c)
      → R (length (laid (press (settings width maximum default) c key).content.text b)) (state_of (press (settings width maximum default) c key).content)

-- .. which is so of `Ready`, and where the default fits of `InRoom`
module _ (width maximum : ℕ) (default : List ℕ) where
  pub ready_kept : KeptByKeys width maximum default (Ready width maximum (length default))
  ready_kept = record { in_room = ready_in_room; fits = λ h. h.default_fits; again = ready_press width maximum default }

  pub in_room_kept : length default ≤ maximum → KeptByKeys width maximum default (InRoom width maximum)
  in_room_kept fits = record { in_room = λ h. h; fits = λ h. fits; again = λ b c key. in_room_press width maximum default b c key fits }
