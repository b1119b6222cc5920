-- What comes of a byte beside its view and its edits: what it rings and what waits after it, by waiting and gathering alone; and that every byte but $01 and $04 leaves home and what is saved alone. Assumes nothing.
use Prim.Native.Nat.{ℕ, ◌+◌, ◌≤◌, ◌<◌}
use mathlib.Core.Path.{◌≡◌, refl, ap, ◌∙◌}
use mathlib.Core.Bool.{Bool, true, false, cond}
use mathlib.Core.List.{List, [], ◌∷◌}
use native.Mathlib.Nat.{zero-add}
use native.Mathlib.Omega.{arith}
use lib.Dec.{T, ltb, eqb, ltb→lt}
use borrow.Author.Tests.{eqb-true, ltb-false, leb-true, ne_eqb}
use Rattle.laws.proofs.Tests.{by_test}
use Rattle.charset.specs.Stored.{is_printing, Printing}
use Rattle.port.specs.declared.Port.{Port}
use Rattle.port.specs.Valid.{parameters}
use Rattle.port.specs.Step.{Outcome, becomes_port, gather_one, pop, control, obey, perform, parameter, step}
use Rattle.port.specs.Stream.{stream}
use Rattle.port.specs.Keeps.{KeepsSaved}
use Rattle.port.specs.Commands.{Wait, wants, next_wait, command_codes, occurrences, wait_of}

-- what a code rings
abbrev rings : ℕ → ℕ
rings code = cond (eqb code 7) 1 0

-- none waits
abbrev none : Wait
none = record { code = 0; count = 0 }

-- what waits after a code
abbrev after : Port → ℕ → Wait
after p code = cond (ltb 0 (parameters code)) (record { code = code; count = 0 }) (wait_of p)

kept : {p : Port} {m : Outcome} → m.port.home ≡ p.home → m.port.hassaved ≡ p.hassaved → m.port.saved ≡ p.saved → KeepsSaved p m
kept home hassaved saved = record { home = home; hassaved = hassaved; saved = saved }

module _ (p : Port) (code : ℕ) where
  record Obeyed (m : Outcome) : Type 0 where
    rung : m.bells ≡ rings code
    waits : wait_of m.port ≡ after p code
    rest : (code ≡ 1 → ⊥) → (code ≡ 4 → ⊥) → KeepsSaved p m

  arm : (k : ℕ) (m : Outcome) → m.bells ≡ rings k → wait_of m.port ≡ after p k → (eqb code k ≡ true → (code ≡ 1 → ⊥) → (code ≡ 4 → ⊥) → KeepsSaved p m) → eqb code k ≡ true → Obeyed m
  arm k m r w rest t = let same = eqb-true code k t in record { rung = r ∙ rw same; waits = w ∙ rw same; rest = rest t }

  controlled : Obeyed (control p code)
  unfolding control parameters pop
  controlled =
      by_test Obeyed (eqb code 0x00) (arm 0x00 _ refl refl (λ _ _ _. kept refl refl refl)) λ _.
      by_test Obeyed (eqb code 0x01) (arm 0x01 _ refl refl (λ t no1 _. absurd (no1 (eqb-true code 0x01 t)))) λ _.
      by_test Obeyed (eqb code 0x02) (arm 0x02 _ refl refl (λ _ _ _. kept refl refl refl)) λ n02.
      by_test Obeyed (eqb code 0x03) (arm 0x03 _ refl refl (λ _ _ _. kept refl refl refl)) λ _.
      by_test Obeyed (eqb code 0x04) (arm 0x04 _ refl refl (λ t _ no4. absurd (no4 (eqb-true code 0x04 t)))) λ _.
      by_test Obeyed (eqb code 0x05) (arm 0x05 _ refl refl (λ _ _ _. kept refl refl refl)) λ n05.
      by_test Obeyed (eqb code 0x06) (arm 0x06 _ refl refl (λ _ _ _. kept refl refl refl)) λ n06.
      by_test Obeyed (eqb code 0x07) (arm 0x07 _ refl refl (λ _ _ _. kept refl refl refl)) λ n07.
      by_test Obeyed (eqb code 0x08) (arm 0x08 _ refl refl (λ _ _ _. kept refl refl refl)) λ _.
      by_test Obeyed (eqb code 0x09) (arm 0x09 _ refl refl (λ _ _ _. kept refl refl refl)) λ _.
      by_test Obeyed (eqb code 0x0a) (arm 0x0a _ refl refl (λ _ _ _. kept refl refl refl)) λ _.
      by_test Obeyed (eqb code 0x0b) (arm 0x0b _ refl refl (λ _ _ _. kept refl refl refl)) λ _.
      by_test Obeyed (eqb code 0x0c) (arm 0x0c _ refl refl (λ _ _ _. kept refl refl refl)) λ _.
      by_test Obeyed (eqb code 0x0d) (arm 0x0d _ refl refl (λ _ _ _. kept refl refl refl)) λ _.
      by_test Obeyed (eqb code 0x0e) (arm 0x0e _ refl refl (λ _ _ _. kept refl refl refl)) λ _.
      by_test Obeyed (eqb code 0x0f) (arm 0x0f _ refl refl (λ _ _ _. kept refl refl refl)) λ _.
      by_test Obeyed (eqb code 0x10) (arm 0x10 _ refl refl (λ _ _ _. kept refl refl refl)) λ n10.
      by_test Obeyed (eqb code 0x11) (arm 0x11 _ refl refl (λ _ _ _. kept refl refl refl)) λ _.
      by_test Obeyed (eqb code 0x12) (arm 0x12 _ refl refl (λ _ _ _. kept refl refl refl)) λ _.
      by_test Obeyed (eqb code 0x13) (arm 0x13 _ refl refl (λ _ _ _. kept refl refl refl)) λ _.
      by_test Obeyed (eqb code 0x14) (arm 0x14 _ refl refl (λ _ _ _. kept refl refl refl)) λ n14.
      by_test Obeyed (eqb code 0x15) (arm 0x15 _ refl refl (λ _ _ _. kept refl refl refl)) λ n15.
      by_test Obeyed (eqb code 0x16) (arm 0x16 _ refl refl (λ _ _ _. kept refl refl refl)) λ _.
      by_test Obeyed (eqb code 0x17) (arm 0x17 _ refl refl (λ _ _ _. kept refl refl refl)) λ _.
      by_test Obeyed (eqb code 0x18) (arm 0x18 _ refl refl (λ _ _ _. kept refl refl refl)) λ _.
      by_test Obeyed (eqb code 0x19) (arm 0x19 _ refl refl (λ _ _ _. kept refl refl refl)) λ _.
      by_test Obeyed (eqb code 0x1a) (arm 0x1a _ refl refl (λ _ _ _. kept refl refl refl)) λ _.
      by_test Obeyed (eqb code 0x1b) (arm 0x1b _ refl refl (λ _ _ _. kept refl refl refl)) λ _.
      by_test Obeyed (eqb code 0x1c) (arm 0x1c _ refl refl (λ _ _ _. kept refl refl refl)) λ _.
      by_test Obeyed (eqb code 0x1d) (arm 0x1d _ refl refl (λ _ _ _. kept refl refl refl)) λ _.
      by_test Obeyed (eqb code 0x1e) (arm 0x1e _ refl refl (λ _ _ _. kept refl refl refl)) λ n1e.
      record { rung = simp n07; waits = simp (n02, n05, n06, n10, n14, n15, n1e); rest = λ _ _. kept refl refl refl }

  -- a printing code is no control code
  other : is_printing code ≡ true → (k : ℕ) → T (ltb k 32) → eqb code k ≡ false
  other large k small = let h : Printing code = leb-true 32 code large in let below : k < 32 = ltb→lt k 32 small in ne_eqb code k (λ e. omega arith)

  obeyed : Obeyed (obey p code)
  unfolding obey parameters
  obeyed =
      by_test Obeyed (is_printing code)
      (λ large. let no = other large in record { rung = simp (no 7 tt); waits = simp (no 0x02 tt, no 0x05 tt, no 0x06 tt, no 0x10 tt, no 0x14 tt, no 0x15 tt, no 0x1e tt); rest = λ _ _. kept refl refl refl })
      (λ _. controlled)

-- a parameter rings nothing, and touches nothing that is saved
record Quiet (p : Port) (w : Wait) (m : Outcome) : Type 0 where
  rung : m.bells ≡ 0
  waits : wait_of m.port ≡ w
  rest : KeepsSaved p m

performed : (p : Port) (code b : ℕ) → Quiet p none (perform p code b)
unfolding perform
performed p code b =
    by_test (Quiet p none) (eqb code 0x02) (λ _. record { rung = refl; waits = refl; rest = kept refl refl refl }) λ _.
    by_test (Quiet p none) (eqb code 0x05) (λ _. record { rung = refl; waits = refl; rest = kept refl refl refl }) λ _.
    by_test (Quiet p none) (eqb code 0x06) (λ _. record { rung = refl; waits = refl; rest = kept refl refl refl }) λ _.
    by_test (Quiet p none) (eqb code 0x10) (λ _. record { rung = refl; waits = refl; rest = kept refl refl refl }) λ _.
    by_test (Quiet p none) (eqb code 0x14) (λ _. record { rung = refl; waits = refl; rest = kept refl refl refl }) λ _.
    by_test (Quiet p none) (eqb code 0x15) (λ _. record { rung = refl; waits = refl; rest = kept refl refl refl }) (λ _. record { rung = refl; waits = refl; rest = kept refl refl refl })

-- what waits after a parameter
abbrev gathering : Port → Wait
gathering p = cond (ltb (p.count + 1) (parameters p.waiting)) (record { code = p.waiting; count = p.count + 1 }) none

gathered : (p : Port) (b : ℕ) → Quiet p (gathering p) (parameter p b)
unfolding parameter
gathered p b = choose (ltb (p.count + 1) (parameters p.waiting))
  where
    choose : (t : Bool) → Quiet p (cond t (record { code = p.waiting; count = p.count + 1 }) none) (cond t (becomes_port (gather_one p b)) (perform p p.waiting b))
    choose true = record { rung = refl; waits = refl; rest = kept refl refl refl }
    choose false = performed p p.waiting b

-- a byte
record Stepped (p : Port) (b : ℕ) (m : Outcome) : Type 0 where
  rung : m.bells ≡ cond (wants (wait_of p)) 0 (rings b)
  waits : wait_of m.port ≡ next_wait (wait_of p) b
  rest : (parameters p.waiting ≤ 0 → (b ≡ 1 → ⊥) × (b ≡ 4 → ⊥)) → KeepsSaved p m

stepped : (p : Port) (b : ℕ) → Stepped p b (step p b)
unfolding step next_wait
stepped p b = record { rung = rung_by (wants (wait_of p)); waits = waits_by (wants (wait_of p)); rest = kept_by }
  where
    rung_by : (t : Bool) → (cond t (parameter p b) (obey p b)).bells ≡ cond t 0 (rings b)
    rung_by true = (gathered p b).rung
    rung_by false = (obeyed p b).rung

    waits_by : (t : Bool) → wait_of (cond t (parameter p b) (obey p b)).port ≡ cond t (gathering p) (after p b)
    waits_by true = (gathered p b).waits
    waits_by false = (obeyed p b).waits

    kept_by : (parameters p.waiting ≤ 0 → (b ≡ 1 → ⊥) × (b ≡ 4 → ⊥)) → KeepsSaved p (cond (wants (wait_of p)) (parameter p b) (obey p b))
    kept_by other =
        by_test (KeepsSaved p) (wants (wait_of p)) (λ _. (gathered p b).rest)
        (λ t. let no = other (ltb-false 0 (parameters p.waiting) t) in (obeyed p b).rest no.0 no.1)

-- a byte that is a parameter, or any code but $01 and $04
pub step_keeps_saved : (p : Port) (b : ℕ) → (parameters p.waiting ≤ 0 → (b ≡ 1 → ⊥) × (b ≡ 4 → ⊥)) → KeepsSaved p (step p b)
step_keeps_saved p b = (stepped p b).rest

-- a byte rings where it is $07 and no parameter
pub step_bells : (p : Port) (b : ℕ) → (step p b).bells ≡ cond (wants (wait_of p)) 0 (cond (eqb b 7) 1 0)
step_bells p b = (stepped p b).rung

-- so at most one bell
pub one_bell : (p : Port) (b : ℕ) → (step p b).bells ≤ 1
one_bell p b =
    rw (stepped p b).rung
    (by_test (λ (n : ℕ). n ≤ 1) (wants (wait_of p)) (λ _. omega arith) (λ _. by_test (λ (n : ℕ). n ≤ 1) (eqb b 7) (λ _. omega arith) (λ _. omega arith)))

-- a stream rings as often as $07 is among its command codes
pub stream_bells : (p : Port) (bytes : List ℕ) → (stream p bytes).bells ≡ occurrences 7 (command_codes (wait_of p) bytes)
unfolding stream command_codes occurrences
stream_bells p [] = refl
stream_bells p (b ∷ bytes) =
    (λ i. (stepped p b).rung i + (stream_bells (step p b).port bytes ∙ ap (λ (w : Wait). occurrences 7 (command_codes w bytes)) (stepped p b).waits) i)
    ∙ choose (wants (wait_of p))
  where
    rest : List ℕ
    rest = command_codes (next_wait (wait_of p) b) bytes

    choose : (t : Bool) → cond t 0 (rings b) + occurrences 7 rest ≡ occurrences 7 (cond t rest (b ∷ rest))
    choose true = zero-add _
    choose false = refl
