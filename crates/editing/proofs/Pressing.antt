-- Each way through the function of a key. Assumes nothing.
use Prim.Native.Nat.{ℕ, ◌+◌, ◌-◌, ◌≤◌, ◌<◌}
use mathlib.Core.Path.{◌≡◌, refl, sym, ◌∙◌}
use mathlib.Core.Logic.{◌⊎◌, inl, inr}
use mathlib.Core.Bool.{false}
use mathlib.Core.List.{List}
use Rattle.std.proofs.Math.Bool.{or-true, and-false}
use Rattle.std.specs.Prelude.{Option, Some, None}
use native.Mathlib.Omega.{arith}
use borrow.Author.Tests.{eq-eqb, ne_eqb, lt-ltb, le-ltb, le-leb, lt-leb}
use lib.ListN.{length, take}
use lib.Seq.{length-take-le, take-take}
use Rattle.editing.specs.declared.State.{State}
use Rattle.editing.specs.Keys.{Content, Settings, is_printing_key, press, becomes, beep, inserted, removed, insert, move_left, move_right, delete_left, delete_under, delete_all, delete_to_end, restore_default, start_content}
use Rattle.editing.specs.Buffer.{laid, content_of, state_of, Within, Presses}
use Rattle.editing.proofs.Texts.{laid_front, length_inserted, length_removed}

-- the text lies in the buffer
pub in_buffer : {width maximum size : ℕ} {state : State} → Within width maximum state → maximum ≤ size → state.length ≤ size
in_buffer w h = omega (arith, w.length_within)

-- what a key leaves that is not beeped
abbrev moved : ℕ → ℕ → Option State
moved length cursor = Some (record { length = length; cursor = cursor })

module _ (state : State) (b : List ℕ) (fits : state.length ≤ length b) where
  abbrev text : List ℕ
  text = take state.length b

  len : length text ≡ state.length
  len = length-take-le state.length b fits

  -- ---- a key that is beeped, and one that edits
  beeps : {r : Option State} → r ≡ None → Presses (beep (content_of state b)) state b r b
  beeps e = record { state_is = rw (e, len); beeps_are = rw e; bytes = sym (laid_front state.length b fits) }

  edits : {b' : List ℕ} {r : Option State} (new : List ℕ) (size cursor : ℕ) → r ≡ moved size cursor → length new ≡ size → b' ≡ laid new b → Presses (becomes new cursor) state b r b'
  edits new size cursor e is bytes = record { state_is = rw (e, is); beeps_are = rw e; bytes = bytes }

  -- a front of the text stays
  keeps : {r : Option State} (size cursor : ℕ) → size ≤ state.length → r ≡ moved size cursor → Presses (becomes (take size b) cursor) state b r b
  keeps size cursor h e = let k : size ≤ length b = omega arith in edits (take size b) size cursor e (length-take-le size b k) (sym (laid_front size b k))

  cut : (at : ℕ) → at < state.length → length (removed at text) ≡ state.length - 1
  cut at h = length_removed text at (rw len h) ∙ rw len

  -- ---- each key, by each way through its function
  module _ (width maximum key : ℕ) (r : Option State) where
    pub insert_full : maximum < state.length + 1 → r ≡ None → Presses (insert width maximum (content_of state b) key) state b r b
    unfolding insert
    insert_full h e = rw (len, lt-ltb _ _ h) (beeps e)

    pub insert_at_width : state.cursor ≡ width → r ≡ None → Presses (insert width maximum (content_of state b) key) state b r b
    unfolding insert
    insert_at_width h e = rw (eq-eqb _ _ h, or-true) (beeps e)

    pub insert_done : (b' : List ℕ) → state.cursor ≤ state.length → state.length ≤ maximum → (state.length ≡ maximum → ⊥) → (state.cursor ≡ width → ⊥) → r ≡ moved (state.length + 1) (state.cursor + 1)
        → b' ≡ laid (inserted state.cursor key text) b
        → Presses (insert width maximum (content_of state b) key) state b r b'
    unfolding insert
    insert_done b' within room below left e bytes =
        rw (len, le-ltb maximum (state.length + 1) (omega arith), ne_eqb _ _ left) (edits (inserted state.cursor key text) (state.length + 1) (state.cursor + 1) e (length_inserted text state.cursor key (rw len within) ∙ rw len) bytes)

  module _ (r : Option State) where
    pub left_edge : state.cursor ≡ 0 → r ≡ None → Presses (move_left (content_of state b)) state b r b
    unfolding move_left
    left_edge h e = rw (eq-eqb _ _ h) (beeps e)

    pub left_done : (state.cursor ≡ 0 → ⊥) → r ≡ moved state.length (state.cursor - 1) → Presses (move_left (content_of state b)) state b r b
    unfolding move_left
    left_done h e = rw (ne_eqb _ _ h) (keeps state.length (state.cursor - 1) (omega arith) e)

    pub right_beeped : (width : ℕ) → (state.cursor ≡ state.length) ⊎ ((state.cursor ≡ state.length → ⊥) × (state.cursor ≡ width)) → r ≡ None → Presses (move_right width (content_of state b)) state b r b
    unfolding move_right
    right_beeped width (inl at_end) e = rw (len, eq-eqb _ _ at_end) (beeps e)
    right_beeped width (inr at_width) e = rw (eq-eqb _ width at_width.1, or-true) (beeps e)

    pub right_done : (width : ℕ) → (state.cursor ≡ state.length → ⊥) → (state.cursor ≡ width → ⊥) → r ≡ moved state.length (state.cursor + 1) → Presses (move_right width (content_of state b)) state b r b
    unfolding move_right
    right_done width h k e = rw (len, ne_eqb _ _ h, ne_eqb _ width k) (keeps state.length (state.cursor + 1) (omega arith) e)

    pub delete_left_edge : state.cursor ≡ 0 → r ≡ None → Presses (delete_left (content_of state b)) state b r b
    unfolding delete_left
    delete_left_edge h e = rw (eq-eqb _ _ h) (beeps e)

    pub delete_left_done : (b' : List ℕ) → state.cursor ≤ state.length → (state.cursor ≡ 0 → ⊥) → r ≡ moved (state.length - 1) (state.cursor - 1) → b' ≡ laid (removed (state.cursor - 1) text) b
        → Presses (delete_left (content_of state b)) state b r b'
    unfolding delete_left
    delete_left_done b' within h e bytes = rw (ne_eqb _ _ h) (edits _ _ _ e (cut (state.cursor - 1) (omega arith)) bytes)

    pub delete_under_end : state.cursor ≡ state.length → r ≡ None → Presses (delete_under (content_of state b)) state b r b
    unfolding delete_under
    delete_under_end h e = rw (len, eq-eqb _ _ h) (beeps e)

    pub delete_under_done : (b' : List ℕ) → state.cursor ≤ state.length → (state.cursor ≡ state.length → ⊥) → r ≡ moved (state.length - 1) state.cursor → b' ≡ laid (removed state.cursor text) b
        → Presses (delete_under (content_of state b)) state b r b'
    unfolding delete_under
    delete_under_done b' within h e bytes = rw (len, ne_eqb _ _ h) (edits _ _ _ e (cut state.cursor (omega arith)) bytes)

    pub delete_all_empty : state.length ≡ 0 → r ≡ None → Presses (delete_all (content_of state b)) state b r b
    unfolding delete_all
    delete_all_empty h e = rw (len, eq-eqb _ _ h) (beeps e)

    pub delete_all_done : (state.length ≡ 0 → ⊥) → (s : State) → (s.length ≡ 0) × (s.cursor ≡ 0) → r ≡ Some s → Presses (delete_all (content_of state b)) state b r b
    unfolding delete_all
    delete_all_done h s none e = rw (len, ne_eqb _ _ h) (keeps 0 0 (omega arith) (e ∙ rw (none.0, none.1)))

    pub delete_to_end_none : state.cursor ≡ state.length → r ≡ None → Presses (delete_to_end (content_of state b)) state b r b
    unfolding delete_to_end
    delete_to_end_none h e = rw (len, eq-eqb _ _ h) (beeps e)

    pub delete_to_end_done : state.cursor ≤ state.length → (state.cursor ≡ state.length → ⊥) → r ≡ moved state.cursor state.cursor → Presses (delete_to_end (content_of state b)) state b r b
    unfolding delete_to_end
    delete_to_end_done within h e = rw (len, ne_eqb _ _ h, take-take _ _ b within) (keeps state.cursor state.cursor within e)

pub default_restored : (width : ℕ) (default b b' : List ℕ) (state s : State) → s ≡ state_of (start_content width default) → b' ≡ laid default b → Presses (restore_default width default) state b (Some s) b'
unfolding restore_default
default_restored width default b b' state s is bytes = record { state_is = is; beeps_are = refl; bytes = bytes }

-- ---- the choice of the key
-- an arm for a single key, where the choice computes
pub at_key : {state : State} {b b' : List ℕ} {r : Option State} (f : Settings) (c : Content) (key k : ℕ) → key ≡ k → Presses (press f c k) state b r b' → Presses (press f c key) state b r b'
at_key f c key k e p = rw e p

pub printing_key : {state : State} {b b' : List ℕ} {r : Option State} (f : Settings) (c : Content) (key : ℕ) → 0x20 ≤ key → key < 0x7f → Presses (insert f.width f.maximum c key) state b r b' → Presses (press f c key) state b r b'
unfolding press
printing_key f c key low high p = rw (le-leb 0x20 key low, le-leb key 0x7e (omega arith)) p

-- either key that deletes left
pub delete_key : {state : State} {b b' : List ℕ} {r : Option State} (f : Settings) (c : Content) (key : ℕ) → (key ≡ 0x04) ⊎ (key ≡ 0x7f) → Presses (delete_left c) state b r b' → Presses (press f c key) state b r b'
unfolding press
delete_key f c key (inl e) p = rw e p
delete_key f c key (inr e) p = rw e p

-- none of these keys: what the last arm of a `match` knows
pub record IsOther (key : ℕ) : Type 0 where
  pub unprinted : (key < 0x20) ⊎ (0x7e < key)
  pub left : key ≡ 0x08 → ⊥
  pub right : key ≡ 0x15 → ⊥
  pub deletes : (key ≡ 0x04) ⊎ (key ≡ 0x7f) → ⊥
  pub under : key ≡ 0x06 → ⊥
  pub all : key ≡ 0x18 → ⊥
  pub to_end : key ≡ 0x19 → ⊥
  pub restores : key ≡ 0x1a → ⊥

unprinted_key : (key : ℕ) → (key < 0x20) ⊎ (0x7e < key) → is_printing_key key ≡ false
unprinted_key key (inl low) = rw (lt-leb 0x20 key low)
unprinted_key key (inr high) = rw (lt-leb key 0x7e high, and-false)

pub other_key : {r : Option State} (f : Settings) (state : State) (b : List ℕ) (key : ℕ) → IsOther key → state.length ≤ length b → r ≡ None → Presses (press f (content_of state b) key) state b r b
unfolding press
other_key f state b key none fits is =
    rw (unprinted_key key none.unprinted, ne_eqb _ _ none.left, ne_eqb _ _ none.right, ne_eqb _ _ (λ e. none.deletes (inl e)), ne_eqb _ _ (λ e. none.deletes (inr e)), ne_eqb _ _ none.under, ne_eqb _ _ none.all, ne_eqb _ _ none.to_end, ne_eqb _ _ none.restores)
    (beeps state b fits is)
