-- When a call is refused before it starts, and when it is made. Assumes nothing.
use Prim.Native.Nat.{ℕ, ◌≤◌, ◌<◌}
use native.Mathlib.Omega.{arith}
use mathlib.Core.Path.{◌≡◌, refl, sym, ap, ◌∙◌}
use mathlib.Core.Bool.{Bool, true, false, cond, ◌||◌}
use mathlib.Core.Logic.{◌⊎◌, inl, inr}
use borrow.Author.Tests.{ltb-false, lt-ltb, le-ltb}
use lib.Dec.{ltb}
use lib.ListN.{length}
use mathlib.Core.List.{List}
use Rattle.std.proofs.lemmas.Bool.{or_parts, both_ways}
use Rattle.laws.proofs.Tests.{Decides, decides_lt, decides_either}
use Rattle.editing.specs.declared.State.{State}
use Rattle.editing.specs.Buffer.{Within, Ready, settings, settings_of}
use Rattle.field.specs.declared.Status.{Status}
use Rattle.field.specs.declared.Status.TheVariants.{SizeOutOfRange, BufferTooShort, DefaultTooLong, StateOutOfRange}
use Rattle.std.proofs.Math.Bool.{or-true}
use Rattle.std.specs.Prelude.{Result, Ok, Err}
use Rattle.editing.specs.declared.field.Field.{Field}
use Rattle.editing.specs.Keys.{Settings}
use Rattle.field.specs.Verdict.{Verdict, verdict_of, out_of_range, start_verdict, state_verdict, first_of, keys_verdict, on_verdict}
use Rattle.field.specs.Rules.{OutOfRange, Sized, PastLimits}

-- ---- the tests of the rules
decides_range : (size : ℕ) → Decides (out_of_range size) (OutOfRange size)
unfolding out_of_range
decides_range size = decides_either (decides_lt size 1) (decides_lt 254 size)

pub decides_sizes : (width maximum : ℕ) → Decides (out_of_range width || out_of_range maximum) (OutOfRange width ⊎ OutOfRange maximum)
decides_sizes width maximum = decides_either (decides_range width) (decides_range maximum)

pub decides_limits : (width maximum : ℕ) (state : State) → Decides (ltb maximum state.length || (ltb state.length state.cursor || ltb width state.cursor)) (PastLimits width maximum state)
decides_limits width maximum state = decides_either (decides_lt _ _) (decides_either (decides_lt _ _) (decides_lt _ _))

-- ---- what an acceptance shows
unrefused : (t : Bool) (status : Status) (next : Verdict) → cond t (Err status) next ≡ Ok tt → (t ≡ false) × (next ≡ Ok tt)
unrefused true status next e = cc
unrefused false status next e = (refl, e)

both_accepted : (a b : Verdict) → first_of a b ≡ Ok tt → (a ≡ Ok tt) × (b ≡ Ok tt)
unfolding first_of
both_accepted (Err status) b e = cc
both_accepted (Ok done) b e = (refl, e)

pub within_range : (size : ℕ) → out_of_range size ≡ false → (1 ≤ size) × (size ≤ 254)
within_range size e = let no_low : size < 1 → ⊥ = λ h. both_ways _ e ((decides_range size).passes (inl h)) in let no_high : 254 < size → ⊥ = λ h. both_ways _ e ((decides_range size).passes (inr h)) in (omega arith, omega arith)

module _ (width maximum default buffer : ℕ) where
  pub start_accepted : start_verdict width maximum default buffer ≡ Ok tt → Sized width maximum default buffer
  unfolding start_verdict
  start_accepted e =
      let one = unrefused (out_of_range width || out_of_range maximum) SizeOutOfRange _ e in
      let two = unrefused (ltb buffer maximum) BufferTooShort _ one.1 in
      let three = unrefused (ltb maximum default) DefaultTooLong _ two.1 in
      let w = within_range width ((or_parts _ _ one.0).0) in
      let m = within_range maximum ((or_parts (out_of_range width) _ one.0).1) in
      record {
        width_low = w.0;
        width_high = w.1;
        maximum_low = m.0;
        maximum_high = m.1;
        room = ltb-false buffer maximum two.0;
        default_fits = ltb-false maximum default three.0;
      }

  within_by : (state : State) → state_verdict width maximum state ≡ Ok tt → Within width maximum state
  unfolding state_verdict
  within_by state e =
      let none = (unrefused _ StateOutOfRange (Ok tt) e).0 in
      let cursor = (or_parts (ltb maximum state.length) _ none).1 in
      record {
        length_within = ltb-false _ _ ((or_parts _ _ none).0);
        cursor_in_text = ltb-false _ _ ((or_parts _ _ cursor).0);
        cursor_in_field = ltb-false _ _ ((or_parts (ltb state.length state.cursor) _ cursor).1);
      }

  pub keys_sized : (state : State) → keys_verdict width maximum default buffer state ≡ Ok tt → Sized width maximum default buffer
  unfolding keys_verdict
  keys_sized state e = start_accepted (both_accepted (start_verdict width maximum default buffer) (state_verdict width maximum state) e).0

  pub keys_accepted : (state : State) → keys_verdict width maximum default buffer state ≡ Ok tt → Ready width maximum default buffer state
  unfolding keys_verdict
  keys_accepted state e =
      let both = both_accepted (start_verdict width maximum default buffer) (state_verdict width maximum state) e in
      let sizes = start_accepted both.0 in
      record { within = within_by state both.1; small = sizes.maximum_high; room = sizes.room; default_fits = sizes.default_fits }

-- ---- each way through a judgement
module _ (width maximum default buffer : ℕ) where
  pub width_refused : {t : Bool} → t ≡ out_of_range width → t ≡ true → Err SizeOutOfRange ≡ start_verdict width maximum default buffer
  unfolding start_verdict
  width_refused is e = rw (sym is ∙ e)

  pub maximum_refused : {t : Bool} → t ≡ out_of_range maximum → t ≡ true → Err SizeOutOfRange ≡ start_verdict width maximum default buffer
  unfolding start_verdict
  maximum_refused is e = rw (sym is ∙ e, or-true)

  module _ {t u : Bool} (wide : t ≡ out_of_range width) (narrow : t ≡ false) (long : u ≡ out_of_range maximum) (short : u ≡ false) where
    pub buffer_refused : buffer < maximum → Err BufferTooShort ≡ start_verdict width maximum default buffer
    unfolding start_verdict
    buffer_refused h = rw (sym wide ∙ narrow, sym long ∙ short, lt-ltb buffer maximum h)

    pub default_refused : maximum ≤ buffer → maximum < default → Err DefaultTooLong ≡ start_verdict width maximum default buffer
    unfolding start_verdict
    default_refused room h = rw (sym wide ∙ narrow, sym long ∙ short, le-ltb buffer maximum room, lt-ltb maximum default h)

    pub sizes_accepted : maximum ≤ buffer → default ≤ maximum → Ok tt ≡ start_verdict width maximum default buffer
    unfolding start_verdict
    sizes_accepted room fits = rw (sym wide ∙ narrow, sym long ∙ short, le-ltb buffer maximum room, le-ltb maximum default fits)

module _ (width maximum buffer : ℕ) (state : State) where
  pub past_limits : PastLimits width maximum state → Err StateOutOfRange ≡ state_verdict width maximum state
  unfolding state_verdict
  past_limits past = rw ((decides_limits width maximum state).passes past)

  pub within_limits : state.length ≤ maximum → state.cursor ≤ state.length → state.cursor ≤ width → Ok tt ≡ state_verdict width maximum state
  unfolding state_verdict
  within_limits long inside left = rw (le-ltb _ _ long, le-ltb _ _ inside, le-ltb _ _ left)

  module _ (default : List ℕ) where
    pub refused_first : {status : Status} → Err status ≡ start_verdict width maximum (length default) buffer → Err status ≡ keys_verdict width maximum (length default) buffer state
    unfolding keys_verdict first_of
    refused_first e = rw (← e)

    pub judged_by_state : {v : Verdict} (field : Field) → Ok tt ≡ start_verdict width maximum (length default) buffer → settings_of field ≡ settings width maximum default
        → v ≡ state_verdict field.width field.maximum state
        → v ≡ keys_verdict width maximum (length default) buffer state
    unfolding keys_verdict first_of
    judged_by_state field accepted same is =
        rw (← accepted) (is ∙ rw (ap (λ (s : Settings). s.width) same, ap (λ (s : Settings). s.maximum) same))

-- ---- the field that a function answered with
module _ {width maximum buffer : ℕ} {default : List ℕ} {v : Result Field Status} (field : Field) (e : v ≡ Ok field) (same : settings_of field ≡ settings width maximum default) where
  -- the default lies in the buffer
  pub default_in_buffer : verdict_of v ≡ start_verdict width maximum (length default) buffer → length field.default.now ≤ buffer
  default_in_buffer is =
      let sizes = start_accepted width maximum (length default) buffer (sym is ∙ ap verdict_of e) in
      let lent : length field.default.now ≡ length default = ap (λ (s : Settings). length s.default) same in
      omega (arith, sizes.default_fits, sizes.room)

  pub ready_field : (state : State) → verdict_of v ≡ keys_verdict width maximum (length default) buffer state → Ready field.width field.maximum (length field.default.now) buffer state
  ready_field state is =
      let wide : field.width ≡ width = ap (λ (s : Settings). s.width) same in
      let long : field.maximum ≡ maximum = ap (λ (s : Settings). s.maximum) same in
      let lent : field.default.now ≡ default = ap (λ (s : Settings). s.default) same in
      rw (wide, long, lent) (keys_accepted width maximum (length default) buffer state (sym is ∙ ap verdict_of e))

-- ---- a property of what a refused call gives, and of what one that is made does, is one of the call
pub by_verdict : {A : Type 0} (P : A → Type 0) (refused : Status → A) (made : A) (v : Verdict) → ((status : Status) → v ≡ Err status → P (refused status)) → (v ≡ Ok tt → P made) → P (on_verdict v refused made)
unfolding on_verdict
by_verdict P refused made (Err status) refuses makes = refuses status refl
by_verdict P refused made (Ok done) refuses makes = makes refl
