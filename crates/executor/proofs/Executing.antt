-- The loop over a stream. Assumes nothing.
use Prim.Native.Nat.{ℕ, ◌+◌, ◌-◌, ◌≤◌, ◌<◌}
use mathlib.Core.Path.{◌≡◌, refl, sym, ap, ◌∙◌, subst}
use mathlib.Core.Bool.{Bool, true, false, cond, ◌&&◌, ◌||◌, true≢false}
use mathlib.Core.Logic.{◌⊎◌, inl, inr, ⊎_elim}
use mathlib.Core.List.{List, [], ◌∷◌, ◌++◌}
use native.Mathlib.Omega.{arith}
use native.Mathlib.Nat.{add_assoc, add-zero, zero-add}
use Rattle.std.proofs.Common.{add-one}
use Rattle.std.proofs.lemmas.List.{take_all}
use lib.Dec.{ltb, eqb}
use lib.ListN.{length, take, drop, get_or, take-append-drop, length-drop}
use borrow.Author.Tests.{eqb-true, eqb-false, ne_eqb, lt-ltb, eq-eqb}
use Rattle.laws.proofs.Tests.{by_test}
use Rattle.rectangle.specs.declared.Rect.{Rect}
use Rattle.rectangle.specs.Edit.{draw}
use Rattle.charset.specs.Stored.{Printing}
use Rattle.port.specs.declared.View.{View}
use Rattle.port.specs.declared.Port.{Port}
use Rattle.port.specs.State.{with_view, with_drawn}
use Rattle.port.specs.Valid.{parameters, ValidPort}
use Rattle.port.specs.Step.{Outcome, becomes_port, pop, control, step}
use Rattle.port.specs.Stream.{stream}
use Rattle.port.proofs.Validity.{no_parameters_lem}
use Rattle.port.proofs.Streams.{keeps_stream}
use Rattle.port.proofs.Outcomes.{step_bells, one_bell}
use Rattle.port.proofs.Prints.{step_controls}
use Rattle.printer.specs.Execute.{Obeyed, Executed}
use Rattle.printer.specs.Print.{Placed, Printed}
use Rattle.printer.proofs.Codes.{cut_executed, nothing_executed, single_executed}
use Rattle.control.specs.declared.active.Active.{Active}
use Rattle.control.specs.Active.{active_of, with_active}
use Rattle.control.specs.Active as active
use Rattle.control.specs.Obey.{Ready}

-- what a valid port's byte needs
at_most_four : (code : ℕ) → parameters code ≤ 4
unfolding parameters
at_most_four code =
    by_test (λ (n : ℕ). n ≤ 4) (eqb code 0x02) (λ _. omega arith) λ _.
    by_test (λ (n : ℕ). n ≤ 4) (eqb code 0x05) (λ _. omega arith) λ _.
    by_test (λ (n : ℕ). n ≤ 4) (eqb code 0x06) (λ _. omega arith) λ _.
    by_test (λ (n : ℕ). n ≤ 4) (eqb code 0x10) (λ _. omega arith) λ _.
    by_test (λ (n : ℕ). n ≤ 4) (eqb code 0x14) (λ _. omega arith) λ _.
    by_test (λ (n : ℕ). n ≤ 4) (eqb code 0x15) (λ _. omega arith) λ _.
    by_test (λ (n : ℕ). n ≤ 4) (eqb code 0x1e) (λ _. omega arith) (λ _. omega arith)

few_gathered : (p : Port) → ValidPort p → p.count < 4
few_gathered p h =
    ⊎_elim (λ e. let k = h.wait.none e in omega arith) (λ some. let k = h.wait.fewer some in omega (arith, at_most_four p.waiting)) h.wait.known

pub placed_view : (p : Port) → ValidPort p → Placed p.view
placed_view p h = let v = h.view in record { legal = v.legal; within = omega arith; from_left = v.from_left; to_right = v.to_right; from_top = v.from_top; to_bottom = v.to_bottom }

some_wanted : (p : Port) → ValidPort p → (p.waiting ≡ 0 → ⊥) → 0 < parameters p.waiting
some_wanted p h waits = ⊎_elim (λ e. absurd (waits e)) (λ some. some) h.wait.known

-- what the tests of the code show: $01 or $04, or another control code
is_either : (b : ℕ) → (eqb b 1 || eqb b 4) ≡ true → (b ≡ 1) ⊎ (b ≡ 4)
is_either b t = by (eqb b 1) (eqb b 4) (eqb-true b 1) (eqb-true b 4) t
  where
    by : (x y : Bool) → (x ≡ true → b ≡ 1) → (y ≡ true → b ≡ 4) → (x || y) ≡ true → (b ≡ 1) ⊎ (b ≡ 4)
    by true y one four e = inl (one refl)
    by false y one four e = inr (four e)

pub is_saved : (b : ℕ) (test : Bool) → test ≡ (eqb b 1 || eqb b 4) → test ≡ true → (b ≡ 1) ⊎ (b ≡ 4)
is_saved b test is t = is_either b (sym is ∙ t)

neither : (b : ℕ) → (eqb b 1 || eqb b 4) ≡ false → (b ≡ 1 → ⊥) × (b ≡ 4 → ⊥)
neither b t = by (eqb b 1) (eqb b 4) (eqb-false b 1) (eqb-false b 4) t
  where
    by : (x y : Bool) → (x ≡ false → b ≡ 1 → ⊥) → (y ≡ false → b ≡ 4 → ⊥) → (x || y) ≡ false → (b ≡ 1 → ⊥) × (b ≡ 4 → ⊥)
    by true y one four e = absurd (true≢false e)
    by false y one four e = (one refl, four e)

pub is_controlled : (b : ℕ) (saved : Bool) → b < 32 → saved ≡ (eqb b 1 || eqb b 4) → saved ≡ false → (b < 32) × (b ≡ 1 → ⊥) × (b ≡ 4 → ⊥)
is_controlled b saved small is f = let other = neither b (sym is ∙ f) in (small, other.0, other.1)

pub is_ready : (p : Port) (a : Active) (b : ℕ) → ValidPort (with_active p a) → (a.waiting ≡ 0 → (b < 32) × (b ≡ 1 → ⊥) × (b ≡ 4 → ⊥)) → Ready a b
is_ready p a b h code =
    let q : Port = with_active p a in
    record { placed = placed_view q h; few = few_gathered q h; code = code; wanted = some_wanted q h }

-- the bells of a byte by the code's own test: where a command waits it wants a parameter
rung_by : (p : Port) (b : ℕ) → ValidPort p → {n : ℕ} → n ≡ cond (eqb p.waiting 0 && eqb b 7) 1 0 → n ≡ (step p b).bells
unfolding parameters
rung_by p b h {n} is = ⊎_elim nothing something h.wait.known ∙ sym (step_bells p b)
  where
    By : ℕ → Type 0
    By w = n ≡ cond (ltb 0 (parameters w)) 0 (cond (eqb b 7) 1 0)

    nothing : p.waiting ≡ 0 → By p.waiting
    nothing none = subst By (sym none) (subst (λ (w : ℕ). n ≡ cond (eqb w 0 && eqb b 7) 1 0) none is)

    something : 0 < parameters p.waiting → By p.waiting
    something some =
        simp (lt-ltb 0 (parameters p.waiting) some) (rw (ne_eqb p.waiting 0 (λ e. no_parameters_lem p.waiting e some)) at is)

pub at_most_one : (b : ℕ) {n : ℕ} → n ≡ cond (eqb b 7) 1 0 → n ≤ 1
at_most_one b {n} is = subst (λ (k : ℕ). k ≤ 1) (sym is) (by_test (λ (k : ℕ). k ≤ 1) (eqb b 7) (λ _. omega arith) (λ _. omega arith))

-- what the loop adds for a byte: a code's bells, and none for a parameter
pub rung_as_code : (waiting b rung now k : ℕ) → waiting ≡ 0 → k ≡ cond (eqb b 7) 1 0 → now ≡ rung + k → now ≡ rung + cond (eqb waiting 0 && eqb b 7) 1 0
rung_as_code waiting b rung now k none is sum = sum ∙ ap (λ (n : ℕ). rung + n) is ∙ rw (eq-eqb waiting 0 none)

pub rung_as_parameter : (waiting b rung now : ℕ) → (waiting ≡ 0 → ⊥) → now ≡ rung → now ≡ rung + cond (eqb waiting 0 && eqb b 7) 1 0
rung_as_parameter waiting b rung now some same = same ∙ sym (add-zero rung) ∙ rw (ne_eqb waiting 0 some)

-- the port in an equal view
pub in_view : {q : Port} (p : Port) (u v : View) → q ≡ with_view p u → u ≡ v → q ≡ with_view p v
in_view p u v e f = e ∙ ap (with_view p) f

-- of the two codes, the one that is not $01 is $04
pub other_saves : (code : ℕ) → (code ≡ 1) ⊎ (code ≡ 4) → (code ≡ 1 → ⊥) → code ≡ 4
other_saves code either other = ⊎_elim (λ e. absurd (other e)) (λ e. e) either

pub saves_as : {r q : Port} (p : Port) (code k : ℕ) → code ≡ k → r ≡ q → becomes_port q ≡ control p k → becomes_port r ≡ control p code
saves_as p code k e same h = ap becomes_port same ∙ h ∙ ap (control p) (sym e)

saving_keeps_home : (p next : Port) (code : ℕ) → becomes_port next ≡ control p code → (code ≡ 1) ⊎ (code ≡ 4) → next.home ≡ p.home
unfolding control pop
saving_keeps_home p next code saves either =
    ⊎_elim (λ e. ap (λ (m : Outcome). m.port.home) (saves ∙ ap (control p) e)) (λ e. ap (λ (m : Outcome). m.port.home) (saves ∙ ap (control p) e)) either

pub saved_home : (p : Port) (a : Active) (q : Port) {next : Port} {home : Rect} (code : ℕ) → q ≡ with_active p a → becomes_port next ≡ control q code → (code ≡ 1) ⊎ (code ≡ 4) → p.home ≡ home → next.home ≡ home
saved_home p a q {next} code joined saves either at = saving_keeps_home q next code saves either ∙ ap (λ (x : Port). x.home) joined ∙ at

-- ---- the loop: what is left of the stream, done from here, is what was asked
pub record Streaming (p₀ : Port) (bs s₀ left : List ℕ) (p : Port) (rung : ℕ) (s : List ℕ) : Type 0 where
  pub valid : ValidPort p
  pub few : rung + length left ≤ length bs
  pub rest : (q : Port) (n : ℕ) (t : List ℕ) → Executed (stream p left) q n s t → Executed (stream p₀ bs) q (rung + n) s₀ t

pub streaming_starts : (p : Port) (bs s : List ℕ) {a : Active} → ValidPort p → a ≡ active_of p → Streaming p bs s bs (with_active p a) 0 s
streaming_starts p bs s h is = subst (λ (x : Active). Streaming p bs s bs (with_active p x) 0 s) (sym is) (record {
  valid = h;
  few = omega arith;
  rest = λ q n t d. record { port_is = d.port_is; bells_are = zero-add n ∙ d.bells_are; cells = d.cells };
})

module _ {p₀ : Port} {bs s₀ left : List ℕ} {p : Port} {rung : ℕ} {s : List ℕ} (r : Streaming p₀ bs s₀ left p rung s) where
  -- the first of the bytes left, which ring k times, and then the others
  streaming_on : (first others : List ℕ) (q : Port) (k : ℕ) (t : List ℕ) → first ++ others ≡ left → k + length others ≤ length left → Executed (stream p first) q k s t → Streaming p₀ bs s₀ others q (rung + k) t
  streaming_on first others q k t is less d = record {
    valid = subst ValidPort (sym d.port_is) (keeps_stream p r.valid first).valid;
    few = let h = r.few in omega arith;
    rest = λ w m u e.
        subst (λ (x : ℕ). Executed (stream p₀ bs) w x s₀ u) (sym (add_assoc rung k m))
        (r.rest w (k + m) u
        (subst (λ (x : List ℕ). Executed (stream p x) w (k + m) s u) is
        (cut_executed p q w first others k m s t u d e)));
  }

  streaming_again : (b : ℕ) (others : List ℕ) (q : Port) (k : ℕ) (t : List ℕ) → b ∷ others ≡ left → Executed (step p b) q k s t → Streaming p₀ bs s₀ others q (rung + k) t
  streaming_again b others q k t is d =
      let one = one_bell p b in
      let rings = d.bells_are in
      let long : length left ≡ length others + 1 = sym (ap length is) ∙ sym (add-one (length others)) in
      streaming_on (b ∷ []) others q k t is (omega arith) (single_executed p q b k s t d)

  -- nothing is left
  pub streaming_ends : left ≡ [] → Executed (stream p₀ bs) p rung s₀ s
  streaming_ends none =
      subst (λ (x : ℕ). Executed (stream p₀ bs) p x s₀ s) (add-zero rung)
      (r.rest p 0 s (subst (λ (x : List ℕ). Executed (stream p x) p 0 s s) (sym none) (nothing_executed p s)))

-- the first byte of what is left
pub first_prints : {left : List ℕ} (b : ℕ) (others : List ℕ) → left ≡ b ∷ others → Printing b → (0 < length left) × Printing (get_or left 0 0)
first_prints b others is large = subst (λ (xs : List ℕ). (0 < length xs) × Printing (get_or xs 0 0)) (sym is) (omega arith, large)

-- a slice from a place on is all that is left from there
pub rest_from : (n : ℕ) (left : List ℕ) → take (length left - n) (drop n left) ≡ drop n left
rest_from n left = take_all (length left - n) (drop n left) (omega (arith, length-drop n left))

pub rest_shorter : (n : ℕ) (left : List ℕ) → 0 < n → n ≤ length left → length (take (length left - n) (drop n left)) < length left
rest_shorter n left some inside = let e : length (take (length left - n) (drop n left)) ≡ length left - n = ap length (rest_from n left) ∙ length-drop n left in omega arith

pub none_left : (left : List ℕ) → length left ≤ 0 → left ≡ []
none_left [] few = refl
none_left (b ∷ left) few = absurd (omega arith)

-- ---- the three ways through the loop, from a port whose active part is carried apart
module _ {p₀ : Port} {bs s₀ left : List ℕ} (p : Port) (a : Active) {rung : ℕ} {s : List ℕ} (r : Streaming p₀ bs s₀ left (with_active p a) rung s) where
  pub after_printing : (n : ℕ) (w : View) (marks : ℕ) (t : List ℕ) {a' : Active} → Printed a.view a.marks (take n left) w marks s t → n ≤ length left → a.waiting ≡ 0 → a' ≡ active.with_drawn a w marks
      → Streaming p₀ bs s₀ (take (length left - n) (drop n left)) (with_active p a') rung t
  after_printing n w marks t printed inside none is =
      rw (rest_from n left) (subst (λ (x : Active). Streaming p₀ bs s₀ (drop n left) (with_active p x) rung t) (sym is)
      (subst (λ (x : ℕ). Streaming p₀ bs s₀ (drop n left) (with_drawn (with_active p a) w marks) x t) (add-zero rung)
      (streaming_on r (take n left) (drop n left) (with_drawn (with_active p a) w marks) 0 t (take-append-drop n left) (omega (arith, length-drop n left)) (printed.as_stream (with_active p a) refl none refl))))

  pub after_saving : (b : ℕ) (others : List ℕ) (q : Port) {next : Port} {a' : Active} → b ∷ others ≡ left → q ≡ with_active p a → becomes_port next ≡ control q b → a' ≡ active_of next → a.waiting ≡ 0 → (b ≡ 1) ⊎ (b ≡ 4)
      → Streaming p₀ bs s₀ others (with_active next a') rung s
  unfolding draw
  after_saving b others q {next} is joined saves split none code =
      let small : b < 32 = ⊎_elim (λ e. omega arith) (λ e. omega arith) code in
      let outcome : becomes_port next ≡ step (with_active p a) b = saves ∙ ap (λ (x : Port). control x b) joined ∙ sym (step_controls (with_active p a) b none small) in
      let executed : Executed (step (with_active p a) b) next 0 s s = subst (λ (m : Outcome). Executed m next 0 s s) outcome (record { port_is = refl; bells_are = refl; cells = refl }) in
      subst (λ (x : Active). Streaming p₀ bs s₀ others (with_active next x) rung s) (sym split)
      (subst (λ (x : ℕ). Streaming p₀ bs s₀ others next x s) (add-zero rung) (streaming_again r b others next 0 s is executed))

  pub after_control : (b : ℕ) (others : List ℕ) (now : ℕ) (t : List ℕ) {a' : Active} → b ∷ others ≡ left → Obeyed (step (with_active p a) b) (with_active p a') s t → now ≡ rung + cond (eqb a.waiting 0 && eqb b 7) 1 0
      → Streaming p₀ bs s₀ others (with_active p a') now t
  after_control b others now t {a'} is obeyed sum =
      subst (λ (n : ℕ). Streaming p₀ bs s₀ others (with_active p a') n t) (sym sum)
      (streaming_again r b others _ (cond (eqb a.waiting 0 && eqb b 7) 1 0) t is (record { port_is = obeyed.port_is; bells_are = rung_by (with_active p a) b r.valid refl; cells = obeyed.cells }))

-- in the end the active part is put back
pub joined_again : {m : Outcome} {q r : Port} {n : ℕ} {s t : List ℕ} → Executed m q n s t → r ≡ q → Executed m r n s t
joined_again {m} {q} {r} {n} {s} {t} d is = subst (λ (x : Port). Executed m x n s t) (sym is) d
