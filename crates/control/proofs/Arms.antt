-- What the arms of a `match` on a code come to: each is the outcome that paper 01's definitions give its code. Assumes nothing.
use Prim.Native.Nat.{ℕ, zero, suc, ◌+◌, ◌≤◌, ◌<◌}
use mathlib.Core.Path.{◌≡◌, refl, sym, ap, ◌∙◌, subst}
use mathlib.Core.List.{List, []}
use native.Mathlib.Omega.{arith}
use borrow.Author.Tests.{lt-ltb, le-ltb, ne_eqb}
use Rattle.rectangle.specs.declared.Rect.{Rect}
use Rattle.rectangle.specs.Edit.{draw}
use Rattle.marks.specs.Marks.{marked_by}
use Rattle.port.specs.declared.View.{View}
use Rattle.port.specs.declared.Port.{Port}
use Rattle.port.specs.Valid.{parameters}
use Rattle.port.specs.Effect.{Effect, becomes}
use Rattle.port.specs.Codes.{set_port_size, print_spaces, dle_space_expansion}
use Rattle.port.specs.Step.{Outcome, becomes_port, on_view, control, perform, parameter, step}
use Rattle.port.specs.State as state
use Rattle.port.specs.Step as port
use Rattle.port.specs.Keeps.{KeepsView}
use Rattle.port.proofs.Prints.{step_controls}
use Rattle.port.proofs.Views.{keeps_spaces}
use Rattle.view.specs.declared.ViewPlan.{ViewPlan}
use Rattle.view.specs.Plan.{effect_of}
use Rattle.view.specs.Place.{space_count}
use Rattle.view.proofs.Places.{spaces_are}
use Rattle.printer.specs.Execute.{AllOnScreen, Drew, Obeyed}
use Rattle.printer.specs.Print.{Placed}
use Rattle.printer.proofs.Draws.{on_screen}
use Rattle.control.specs.declared.active.Active.{Active}
use Rattle.control.specs.Active.{with_active, with_view, with_drawn, wait_for, gather_one}

-- what keeps a view that is placed edits on the screen only
on_screen_effect : {v : View} {e : Effect} → Placed v → KeepsView v.viewport v e → AllOnScreen e.edits
on_screen_effect {v} {e} h k = on_screen v.viewport h.legal.right_in h.legal.bottom_in e.edits k.edits

plan_on_screen : (d : Effect) {v : View} {e : Effect} → d ≡ e → Placed v → KeepsView v.viewport v e → AllOnScreen d.edits
plan_on_screen d is h k = subst (λ (x : Effect). AllOnScreen x.edits) (sym is) (on_screen_effect h k)

-- of a plan: a search finds it by its type
pub planned_on_screen : {n : ℕ} (m : ViewPlan n) {v : View} {e : Effect} → effect_of m ≡ e → Placed v → KeepsView v.viewport v e → AllOnScreen (effect_of m).edits
planned_on_screen m = plan_on_screen (effect_of m)

pub spaces_on_screen : (n : ℕ) (v : View) → Placed v → AllOnScreen (print_spaces n v).edits
spaces_on_screen n v h = on_screen_effect h (keeps_spaces v.viewport n v h)

-- the active part after an effect
abbrev after_effect : Active → Effect → Active
after_effect a e = with_drawn a e.view (marked_by a.marks e.edits)

-- the kinds of arms
module _ (p : Port) (a : Active) {r : Active} {s : List ℕ} where
  pub obeyed_idle : r ≡ a → (n : ℕ) → Obeyed (record { port = with_active p a; edits = []; bells = n }) (with_active p r) s s
  unfolding draw
  obeyed_idle e n = record { port_is = ap (with_active p) e; cells = refl }

  pub obeyed_wait : (code : ℕ) → r ≡ wait_for a code → Obeyed (becomes_port (port.wait_for (with_active p a) code)) (with_active p r) s s
  unfolding draw
  obeyed_wait code e = record { port_is = ap (with_active p) e; cells = refl }

  pub obeyed_view : {u v : View} → r ≡ with_view a u → u ≡ v → Obeyed (on_view (with_active p a) (becomes v)) (with_active p r) s s
  unfolding draw
  obeyed_view {u} {v} e f = record { port_is = ap (with_active p) (e ∙ ap (with_view a) f); cells = refl }

  pub obeyed_effect : {t : List ℕ} {d e : Effect} → r ≡ after_effect a d → t ≡ draw d.edits s → d ≡ e → Obeyed (on_view (with_active p a) e) (with_active p r) s t
  obeyed_effect {t} {d} {e} to drawn is = record {
    port_is = ap (with_active p) (to ∙ ap (after_effect a) is);
    cells = drawn ∙ ap (λ (x : Effect). draw x.edits s) is;
  }

-- the same of a command with its last parameter: none waits any more
module _ (p : Port) (a done : Active) (waits : done ≡ wait_for a 0) {r : Active} {s : List ℕ} where
  pub performed_view : {u v : View} → r ≡ with_view done u → u ≡ v → Obeyed (on_view (port.wait_for (with_active p a) 0) (becomes v)) (with_active p r) s s
  performed_view {u} {v} e f = obeyed_view p (wait_for a 0) (e ∙ ap (λ (x : Active). with_view x u) waits) f

  pub performed_effect : {t : List ℕ} {d e : Effect} → r ≡ after_effect done d → t ≡ draw d.edits s → d ≡ e → Obeyed (on_view (port.wait_for (with_active p a) 0) e) (with_active p r) s t
  performed_effect {t} {d} to drawn is = obeyed_effect p (wait_for a 0) (to ∙ ap (λ (x : Active). after_effect x d) waits) drawn is

  -- $02, at home
  pub performed_size : (home : Rect) {u : View} (v : View) (left top right bottom : ℕ) → r ≡ with_view done u → u ≡ set_port_size home v left top right bottom → p.home ≡ home
      → Obeyed (on_view (port.wait_for (with_active p a) 0) (becomes (set_port_size p.home v left top right bottom))) (with_active p r) s s
  performed_size home v left top right bottom e f at = performed_view e (f ∙ ap (λ (x : Rect). set_port_size x v left top right bottom) (sym at))

  -- $10
  pub performed_spaces : {t : List ℕ} {w : View} {after : ℕ} (v : View) (n b : ℕ) → r ≡ with_drawn done w after → Drew (print_spaces n v) done.marks w after s t → n ≡ space_count v b
      → Obeyed (on_view (port.wait_for (with_active p a) 0) (dle_space_expansion v b)) (with_active p r) s t
  performed_spaces v n b e d count =
      performed_effect (e ∙ (λ i. with_drawn done (d.view i) (d.marks i))) d.cells (ap (λ (x : ℕ). print_spaces x v) count ∙ spaces_are v b)

-- a code by its number
pub at_code : {x : Port} {s t : List ℕ} (p : Port) (code k : ℕ) → code ≡ k → Obeyed (control p k) x s t → Obeyed (control p code) x s t
at_code p code k e h = rw e h

-- what was drawn is an effect
pub drawn_as : {e : Effect} (a : Active) {r : Active} {u : View} {after : ℕ} {s t : List ℕ} → Drew e a.marks u after s t → r ≡ with_drawn a u after → r ≡ with_drawn a e.view (marked_by a.marks e.edits)
drawn_as a d is = is ∙ (λ i. with_drawn a (d.view i) (d.marks i))

-- the active part is put back by two setters
pub active_joined : (p : Port) (a : Active) {q r : Port} → q ≡ state.with_drawn p a.view a.marks → r ≡ state.with_wait q a.waiting a.gathered a.count → r ≡ with_active p a
active_joined p a first second = second ∙ ap (λ (x : Port). state.with_wait x a.waiting a.gathered a.count) first

-- none of the codes from low on, n of them: what the last arm of a `match` knows
abbrev pub NoneFrom : Type 0 → ℕ → ℕ → ℕ → Type 0
NoneFrom before low zero code = before
NoneFrom before low (suc n) code = NoneFrom before low n code × (code ≡ low + n → ⊥)

none_from : (before : Type 0) (low n code : ℕ) → low ≤ code → NoneFrom before low n code → low + n ≤ code
none_from before low zero code from none = omega arith
none_from before low (suc n) code from none = let h : low + n ≤ code = none_from before low n code from none.0 in let k = none.1 in omega arith

rest_of : (before : Type 0) (low n code : ℕ) → NoneFrom before low n code → before
rest_of before low zero code none = none
rest_of before low (suc n) code none = rest_of before low n code none.0

-- what the arms below $05 leave, where $01 and $04 are no arms
abbrev pub NoneOfFirst : ℕ → Type 0
NoneOfFirst code = ((Unit {0} × (code ≡ 0 → ⊥)) × (code ≡ 2 → ⊥)) × (code ≡ 3 → ⊥)

-- so the last of the control codes is left
pub last_code : (code : ℕ) → NoneFrom (NoneOfFirst code) 5 26 code → (code ≡ 1 → ⊥) → (code ≡ 4 → ⊥) → code < 32 → code ≡ 31
last_code code none no1 no4 small =
    let first = rest_of (NoneOfFirst code) 5 26 code none in
    let no0 = first.0.0.1 in
    let no2 = first.0.1 in
    let no3 = first.1 in
    let h = none_from (NoneOfFirst code) 5 26 code (omega arith) none in
    omega arith

-- a command by its number
pub at_command : {x : Port} {s t : List ℕ} (p : Port) (code k b : ℕ) → code ≡ k → Obeyed (perform p k b) x s t → Obeyed (perform p code b) x s t
at_command p code k b e h = rw e h

-- the last command, $1E
pub last_command : {x : Port} {s t : List ℕ} (p : Port) (code b : ℕ) → ((((((Unit {0} × (code ≡ 2 → ⊥)) × (code ≡ 5 → ⊥)) × (code ≡ 6 → ⊥)) × (code ≡ 16 → ⊥)) × (code ≡ 20 → ⊥)) × (code ≡ 21 → ⊥))
    → Obeyed (perform p 30 b) x s t
    → Obeyed (perform p code b) x s t
unfolding perform
last_command p code b none h =
    simp (ne_eqb code 2 none.0.0.0.0.0.1, ne_eqb code 5 none.0.0.0.0.1, ne_eqb code 6 none.0.0.0.1, ne_eqb code 16 none.0.0.1, ne_eqb code 20 none.0.1, ne_eqb code 21 none.1) h

-- a byte that is gathered, or is the last parameter; n is how many the waiting code takes
module _ (p : Port) (a : Active) (b n : ℕ) (takes : n ≡ parameters a.waiting) where
  pub is_gathered : {r : Active} {s : List ℕ} → a.count + 1 < n → r ≡ gather_one a b → Obeyed (parameter (with_active p a) b) (with_active p r) s s
  unfolding parameter draw
  is_gathered more e = simp (lt-ltb (a.count + 1) (parameters a.waiting) (omega arith)) (record { port_is = ap (with_active p) e; cells = refl })

  pub is_last : {x : Port} {s t : List ℕ} → n ≤ a.count + 1 → Obeyed (perform (with_active p a) a.waiting b) x s t → Obeyed (parameter (with_active p a) b) x s t
  unfolding parameter
  is_last last h = simp (le-ltb (a.count + 1) (parameters a.waiting) (omega arith)) h

-- a byte is a control code or a parameter
module _ (p : Port) (b : ℕ) {x : Port} {s t : List ℕ} where
  pub is_code : p.waiting ≡ 0 → b < 32 → Obeyed (control p b) x s t → Obeyed (step p b) x s t
  is_code none small h = subst (λ (m : Outcome). Obeyed m x s t) (sym (step_controls p b none small)) h

  pub is_parameter : 0 < parameters p.waiting → Obeyed (parameter p b) x s t → Obeyed (step p b) x s t
  unfolding step
  is_parameter some h = simp (lt-ltb 0 (parameters p.waiting) some) h

pub ruleset commands = (at_command, performed_view, performed_effect, performed_size, performed_spaces)
