-- The tests for validity and for a free slot's port are true exactly when paper 01's clauses hold; what keeps a port valid; and a fresh port of a legal home is valid. Assumes nothing.
use Prim.Native.Nat.{ℕ, ◌≤◌, ◌<◌}
use mathlib.Core.Path.{◌≡◌, refl, sym, ap, ◌∙◌}
use mathlib.Core.Bool.{Bool, true, false, not, ◌&&◌, ◌||◌}
use mathlib.Core.Logic.{inl, inr, ⊎_elim}
use mathlib.Core.List.{List, [], ◌∷◌}
use native.Mathlib.Omega.{arith}
use lib.Dec.{ltb, eqb}
use lib.ListN.{length, get_or}
use Rattle.std.specs.Prelude.{slice_index_or}
use Rattle.std.specs.Cmp.Lexicographic.{pointwise}
use borrow.Author.Tests.{eqb-true, eqb-false, eq-eqb}
use Rattle.std.proofs.Math.Bool.{beq, and_assoc, and-true, and-false}
use Rattle.std.proofs.lemmas.Bool.{cases_Bool, both_ways}
use Rattle.laws.proofs.Tests.{Decides, decides_lt, decides_le, decides_eq, decides_both, decides_if, decides_unless, decides_four, decides_as, decides_off}
use Rattle.rectangle.specs.declared.Rect.{Rect}
use Rattle.rectangle.specs.Rectangles.{OnScreen, Legal, is_zero_rect}
use Rattle.rectangle.proofs.Rectangles.{decides_legal, legal_on_screen, decides_within, decides_zero_rect}
use Rattle.marks.specs.Marks.{WithinLines}
use Rattle.marks.proofs.Marking.{decides_within_lines, none_within}
use Rattle.port.specs.declared.Flags.{Flags}
use Rattle.port.specs.declared.View.{View}
use Rattle.port.specs.declared.Port.{Port}
use Rattle.port.specs.State.{all_flags, zero_view, no_parameters, zero_port, cursor_at, with_flags, with_modes, with_viewport, with_view, with_saved, with_wait, with_marks, default_view, fresh_port}
use Rattle.port.specs.Valid.{cursor_inside, valid_view, ValidView, is_zero_flags, is_zero_view, valid_saved, parameters, used_or_zero, unused_zero, count_fits, valid_wait, ValidWait, valid_port, ValidPort, is_zero_port, ZeroPort}

pub decides_view : (home : Rect) (v : View) → Decides (valid_view home v) (ValidView home v)
unfolding valid_view cursor_inside
decides_view home v =
    decides_as
    (decides_both (decides_both (decides_legal v.viewport) (decides_within v.viewport home))
    (decides_both (decides_both (decides_le _ _) (decides_le _ _)) (decides_both (decides_le _ _) (decides_le _ _))))
    (λ k. let l = k.0.0 in
    record {
      legal = k.0.0;
      within = omega arith;
      from_left = k.1.0.0;
      to_right = k.1.0.1;
      from_top = k.1.1.0;
      to_bottom = k.1.1.1;
    })
    (λ h. ((h.legal, omega arith), ((h.from_left, h.to_right), (h.from_top, h.to_bottom))))

decides_is_zero_flags : (f : Flags) → Decides (is_zero_flags f) (f ≡ all_flags false)
unfolding is_zero_flags
decides_is_zero_flags f =
    decides_as
    (decides_both (decides_both (decides_both (decides_off _) (decides_off _)) (decides_both (decides_off _) (decides_off _))) (decides_off _))
    (λ k i. record { dle = k.0.0.0 i; scroll = k.0.0.1 i; wrap = k.0.1.0 i; lf = k.0.1.1 i; advance = k.1 i })
    (λ e. (
      ((ap (λ (x : Flags). x.dle) e, ap (λ (x : Flags). x.scroll) e), (ap (λ (x : Flags). x.wrap) e, ap (λ (x : Flags). x.lf) e)),
      ap (λ (x : Flags). x.advance) e,
    ))

-- a view is zero where each part is: the setters together set every field
decides_zero_view : (v : View) → Decides (is_zero_view v) (v ≡ zero_view)
unfolding is_zero_view zero_view
decides_zero_view v =
    decides_as
    (decides_both (decides_both (decides_zero_rect _) (decides_both (decides_eq _ _) (decides_eq _ _)))
    (decides_both (decides_is_zero_flags _) (decides_both (decides_off _) (decides_off _))))
    (λ k i. with_modes (with_flags (cursor_at (with_viewport v (k.0.0 i)) (k.0.1.0 i) (k.0.1.1 i)) (k.1.0 i)) (k.1.1.0 i) (k.1.1.1 i))
    (λ e. (
      (ap (λ (x : View). x.viewport) e, (ap (λ (x : View). x.column) e, ap (λ (x : View). x.line) e)),
      (ap (λ (x : View). x.flags) e, (ap (λ (x : View). x.inverse) e, ap (λ (x : View). x.mousetext) e)),
    ))

-- what `View::default` promises, field by field, is the zero view
abbrev pub ZeroFields : View → Type 0
ZeroFields v =
    ((v.viewport.left ≡ 0) × ((v.viewport.top ≡ 0) × ((v.viewport.right ≡ 0) × (v.viewport.bottom ≡ 0))))
    × ((v.column ≡ 0) × ((v.line ≡ 0) × (((v.flags.dle ≡ false) × ((v.flags.scroll ≡ false) × ((v.flags.wrap ≡ false) × ((v.flags.lf ≡ false) × (v.flags.advance ≡ false))))) × ((v.inverse ≡ false) × (v.mousetext ≡ false)))))

pub zero_fields : (v : View) → ZeroFields v → v ≡ zero_view
unfolding zero_view
zero_fields v d = λ i. record {
  viewport = record { left = d.0.0 i; top = d.0.1.0 i; right = d.0.1.1.0 i; bottom = d.0.1.1.1 i };
  column = d.1.0 i;
  line = d.1.1.0 i;
  flags = record { dle = d.1.1.1.0.0 i; scroll = d.1.1.1.0.1.0 i; wrap = d.1.1.1.0.1.1.0 i; lf = d.1.1.1.0.1.1.1.0 i; advance = d.1.1.1.0.1.1.1.1 i };
  inverse = d.1.1.1.1.0 i;
  mousetext = d.1.1.1.1.1 i;
}

pub four_zeros : (xs : List ℕ) → length xs ≡ 4 → ((i d : ℕ) → i < 4 → slice_index_or xs i d ≡ 0) → xs ≡ no_parameters
four_zeros [] len all = absurd (omega arith)
four_zeros (a ∷ []) len all = absurd (omega arith)
four_zeros (a ∷ b ∷ []) len all = absurd (omega arith)
four_zeros (a ∷ b ∷ c ∷ []) len all = absurd (omega arith)
four_zeros (a ∷ b ∷ c ∷ d ∷ []) len all = λ i. all 0 0 (omega arith) i ∷ all 1 0 (omega arith) i ∷ all 2 0 (omega arith) i ∷ all 3 0 (omega arith) i ∷ []
four_zeros (a ∷ b ∷ c ∷ d ∷ e ∷ xs) len all = absurd (omega arith)

pub beq_false : (t : Bool) → beq t false ≡ not t
beq_false true = refl
beq_false false = refl

-- a view that equals the zero view in each field is zero: so a derived `==` is the test
pub same_as_zero : {r : Bool} (v z : View) → z ≡ zero_view
    → r ≡ ((eqb v.viewport.left z.viewport.left && (eqb v.viewport.top z.viewport.top && (eqb v.viewport.right z.viewport.right && eqb v.viewport.bottom z.viewport.bottom)))
    && (eqb v.column z.column && (eqb v.line z.line && ((beq v.flags.dle z.flags.dle && (beq v.flags.scroll z.flags.scroll && (beq v.flags.wrap z.flags.wrap && (beq v.flags.lf z.flags.lf && beq v.flags.advance z.flags.advance))))
    && (beq v.inverse z.inverse && beq v.mousetext z.mousetext)))))
    → r ≡ is_zero_view v
unfolding is_zero_view is_zero_flags is_zero_rect zero_view
same_as_zero v z e d = d ∙ rw e (simp (and_assoc, beq_false))

-- four parameters that equal zeros are all unused and zero
zeros_unused : (xs : List ℕ) → length xs ≡ 4 → pointwise eqb xs no_parameters ≡ unused_zero xs 0
unfolding unused_zero used_or_zero
zeros_unused [] len = absurd (omega arith)
zeros_unused (a ∷ []) len = absurd (omega arith)
zeros_unused (a ∷ b ∷ []) len = absurd (omega arith)
zeros_unused (a ∷ b ∷ c ∷ []) len = absurd (omega arith)
zeros_unused (a ∷ b ∷ c ∷ d ∷ []) len = sym (and_assoc (eqb a 0) (eqb b 0) (eqb c 0 && (eqb d 0 && true))) ∙ simp and-true
zeros_unused (a ∷ b ∷ c ∷ d ∷ e ∷ xs) len = absurd (omega arith)

-- code 0, which stands for none, takes no parameters
pub no_parameters_lem : (code : ℕ) → code ≡ 0 → 0 < parameters code → ⊥
unfolding parameters
no_parameters_lem code e h = let k : parameters code ≡ 0 = ap parameters e in omega arith

-- a saved view is valid where there is one, and else zero
Saved : Rect → Bool → View → Type 0
Saved home has v = (has ≡ true → ValidView home v) × (has ≡ false → v ≡ zero_view)

decides_saved : (home : Rect) (has : Bool) (v : View) → Decides (valid_saved home has v) (Saved home has v)
unfolding valid_saved Saved
decides_saved home has v = decides_if has (decides_view home v) (decides_zero_view v)

decides_unused : (gathered : List ℕ) (count : ℕ) → Decides (unused_zero gathered count) ((i : ℕ) → i < 4 → count ≤ i → get_or gathered i 0 ≡ 0)
unfolding unused_zero used_or_zero
decides_unused gathered count =
    decides_four (λ i. ltb i count || eqb (get_or gathered i 0) 0) (λ i. count ≤ i → get_or gathered i 0 ≡ 0) (λ i. decides_unless i count (decides_eq _ 0))

pub decides_wait : (code : ℕ) (gathered : List ℕ) (count : ℕ) → Decides (valid_wait code gathered count) (ValidWait code gathered count)
unfolding valid_wait count_fits
decides_wait code gathered count =
    decides_as (decides_both (decides_if (eqb code 0) (decides_eq _ _) (decides_lt _ _)) (decides_unused gathered count))
    (λ k. record {
      known = ⊎_elim (λ e. inl (eqb-true code 0 e)) (λ e. inr (let h = k.0.1 e in omega arith)) (cases_Bool (eqb code 0));
      fewer = λ h. ⊎_elim (λ e. absurd (no_parameters_lem code (eqb-true code 0 e) h)) (λ e. k.0.1 e) (cases_Bool (eqb code 0));
      none = λ e. k.0.0 (eq-eqb code 0 e);
      unused = k.1;
    })
    (λ h. ((λ e. h.none (eqb-true code 0 e), λ e. h.fewer (⊎_elim (λ z. absurd (eqb-false code 0 e z)) (λ k. k) h.known)), h.unused))

pub decides_valid : (p : Port) → Decides (valid_port p) (ValidPort p)
unfolding valid_port Saved
decides_valid p =
    decides_as
    (decides_both (decides_both (decides_legal p.home) (decides_view p.home p.view))
    (decides_both (decides_saved p.home p.hassaved p.saved)
    (decides_both (decides_wait p.waiting p.gathered p.count) (decides_within_lines p.marks p.home))))
    (λ k. record { home = k.0.0; view = k.0.1; saved = k.1.0.0; unsaved = k.1.0.1; wait = k.1.1.0; marks = k.1.1.1.1 })
    (λ h. ((h.home, h.view), ((h.saved, h.unsaved), (h.wait, (h.home, h.marks)))))

-- the viewport of a valid port lies on the screen
pub viewport_on_screen : (p : Port) → ValidPort p → OnScreen p.view.viewport
viewport_on_screen p h = legal_on_screen p.view.viewport h.view.legal

-- ---- what keeps a port valid: another part of its state that is valid by itself
module _ (p : Port) (h : ValidPort p) where
  pub view_valid : (v : View) → ValidView p.home v → ValidPort (with_view p v)
  view_valid v k = record { home = h.home; view = k; saved = h.saved; unsaved = h.unsaved; wait = h.wait; marks = h.marks }

  pub saved_valid : (v : View) → ValidView p.home v → ValidPort (with_saved p true v)
  saved_valid v k = record { home = h.home; view = h.view; saved = λ _. k; unsaved = λ e. absurd (both_ways _ e refl); wait = h.wait; marks = h.marks }

  pub wait_valid : (code : ℕ) (gathered : List ℕ) (count : ℕ) → ValidWait code gathered count → ValidPort (with_wait p code gathered count)
  wait_valid code gathered count k = record { home = h.home; view = h.view; saved = h.saved; unsaved = h.unsaved; wait = k; marks = h.marks }

  pub marks_valid : (marks : ℕ) → WithinLines marks p.home → ValidPort (with_marks p marks)
  marks_valid marks k = record { home = h.home; view = h.view; saved = h.saved; unsaved = h.unsaved; wait = h.wait; marks = k }

-- ---- the default view of a legal home is valid, and so is the fresh port
pub default_valid : (p : Port) → Legal p.home → ValidView p.home (default_view p)
default_valid p l = record { legal = l; within = omega arith; from_left = omega arith; to_right = omega arith; from_top = omega arith; to_bottom = omega arith }

pub none_waits : ValidWait 0 no_parameters 0
unfolding parameters unused_zero used_or_zero
none_waits = record { known = inl refl; fewer = λ h. h; none = λ _. refl; unused = (decides_unused no_parameters 0).holds refl }

pub fresh_valid : (home : Rect) → Legal home → ValidPort (fresh_port home)
fresh_valid home l = record {
  home = l;
  view = default_valid (fresh_port home) l;
  saved = λ e. absurd (both_ways _ refl e);
  unsaved = λ _. refl;
  wait = none_waits;
  marks = none_within home;
}

-- ---- the port of a free slot
pub decides_zero_port : (p : Port) → Decides (is_zero_port p) (ZeroPort p)
unfolding is_zero_port
decides_zero_port p =
    decides_as
    (decides_both (decides_both (decides_zero_rect p.home) (decides_both (decides_zero_view p.view) (decides_zero_view p.saved)))
    (decides_both (decides_off p.hassaved) (decides_both (decides_eq _ _) (decides_both (decides_unused p.gathered 0) (decides_both (decides_eq _ _) (decides_eq _ _))))))
    (λ k. record {
      home = k.0.0;
      view = k.0.1.0;
      saved = k.0.1.1;
      unsaved = k.1.0;
      waiting = k.1.1.0;
      gathered = λ i h. k.1.1.1.0 i h (omega arith);
      count = k.1.1.1.1.0;
      marks = k.1.1.1.1.1;
    })
    (λ z. ((z.home, (z.view, z.saved)), (z.unsaved, (z.waiting, (λ i h _. z.gathered i h, (z.count, z.marks))))))

pub zero_port_is_zero : ZeroPort zero_port
zero_port_is_zero = record {
  home = refl;
  view = refl;
  saved = refl;
  unsaved = refl;
  waiting = refl;
  gathered = λ i h. none_waits.unused i h (omega arith);
  count = refl;
  marks = refl;
}

-- the tests of a port's fields in their order, and as `is_zero_port` joins them
regrouped : (l t r b v h s rest : Bool) → ((l && (t && (r && b))) && (v && (h && (s && rest)))) ≡ ((((l && t) && (r && b)) && (v && s)) && (h && rest))
regrouped l t r b v true s rest = simp and_assoc
regrouped l t r b v false s rest = simp (and_assoc, and-false)

-- a port that equals the zero port in each field is that of a free slot
pub same_as_zero_port : {r a b : Bool} (p z : Port) → length p.gathered ≡ 4 → z ≡ zero_port
    → a ≡ is_zero_view p.view → b ≡ is_zero_view p.saved
    → r ≡ ((eqb p.home.left z.home.left && (eqb p.home.top z.home.top && (eqb p.home.right z.home.right && eqb p.home.bottom z.home.bottom)))
    && (a && (beq p.hassaved z.hassaved && (b && (eqb p.waiting z.waiting && (pointwise eqb p.gathered z.gathered && (eqb p.count z.count && eqb p.marks z.marks)))))))
    → r ≡ is_zero_port p
unfolding is_zero_port is_zero_rect
same_as_zero_port p z long e f g d = d ∙ rw e (rw (f, g, zeros_unused p.gathered long, beq_false p.hassaved)
    (regrouped (eqb p.home.left 0) (eqb p.home.top 0) (eqb p.home.right 0) (eqb p.home.bottom 0) (is_zero_view p.view) (not p.hassaved) (is_zero_view p.saved)
    (eqb p.waiting 0 && (unused_zero p.gathered 0 && (eqb p.count 0 && eqb p.marks 0)))))
