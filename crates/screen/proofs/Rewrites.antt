-- The laws of `Rewritten`: how a run of places starts, grows and joins another. Assumes nothing.
use Prim.Native.Nat.{ℕ, ◌+◌, ◌≤◌, ◌<◌}
use mathlib.Core.Path.{◌≡◌, refl, ◌∙◌}
use mathlib.Core.Logic.{⊎_elim}
use mathlib.Core.List.{List}
use native.Mathlib.Omega.{arith}
use lib.ListN.{length, get_or, set, length-set}
use lib.Seq.{get_or-set_same, get_or-set_other}
use Rattle.std.proofs.lemmas.Bool.{cases_lt}
use Rattle.screen.specs.Rewrite.{Rewritten}

-- nothing is done yet
pub none : {a : ℕ} {f : ℕ → ℕ} {s : List ℕ} → Rewritten a a f s s
none = record { len = refl; run = λ i h k. absurd (omega arith); low = λ i h. refl; high = λ i h. refl }

-- the ends by other names
pub ends : {a b d e : ℕ} {f : ℕ → ℕ} {s t : List ℕ} → Rewritten a d f s t → a ≡ b → d ≡ e → Rewritten b e f s t
ends r p q = rw (← p, ← q) r

-- the places hold another function that is equal there
pub holds : {a e : ℕ} {g f : ℕ → ℕ} {s t : List ℕ} → Rewritten a e g s t
    → ((i : ℕ) → a ≤ i → i < e → g i ≡ f i)
    → Rewritten a e f s t
holds r same = record { len = r.len; run = λ i h k. r.run i h k ∙ same i h k; low = r.low; high = r.high }

-- the same of more places, whose new ones held f before
pub wider : {a p q e : ℕ} {f : ℕ → ℕ} {s t : List ℕ} → Rewritten p q f s t
    → a ≤ p
    → q ≤ e
    → ((i : ℕ) → a ≤ i → i < p → get_or s i 0 ≡ f i)
    → ((i : ℕ) → q ≤ i → i < e → get_or s i 0 ≡ f i)
    → Rewritten a e f s t
wider {p = p} {q = q} r le ge before after =
    record {
      len = r.len;
      run = λ i h k. ⊎_elim (λ x. r.low i x ∙ before i h x) (λ x. ⊎_elim (r.run i x) (λ y. r.high i y ∙ after i y k) (cases_lt i q)) (cases_lt i p);
      low = λ i h. r.low i (omega arith);
      high = λ i h. r.high i (omega arith);
    }

-- two runs that meet: the second goes on where the first ended, or before, or ends where the first started
pub then_over : {a p b e : ℕ} {f : ℕ → ℕ} {s t u : List ℕ} → a ≤ p → p ≤ b → b ≤ e → Rewritten a b f s t → Rewritten p e f t u → Rewritten a e f s u
then_over {p = p} from meets ge r r' =
    record {
      len = r'.len ∙ r.len;
      run = λ i h k. ⊎_elim (λ x. r'.low i x ∙ r.run i h (omega arith)) (λ x. r'.run i x k) (cases_lt i p);
      low = λ i h. r'.low i (omega arith) ∙ r.low i h;
      high = λ i h. r'.high i h ∙ r.high i (omega arith);
    }

pub then_after : {a b e : ℕ} {f : ℕ → ℕ} {s t u : List ℕ} → a ≤ b → b ≤ e → Rewritten a b f s t → Rewritten b e f t u → Rewritten a e f s u
then_after le ge r r' = then_over le (omega arith) ge r r'

pub then_before : {a b e : ℕ} {f : ℕ → ℕ} {s t u : List ℕ} → a ≤ b → b ≤ e → Rewritten b e f s t → Rewritten a b f t u → Rewritten a e f s u
then_before {b = b} le ge r r' =
    record {
      len = r'.len ∙ r.len;
      run = λ i h k. ⊎_elim (r'.run i h) (λ x. r'.high i x ∙ r.run i x k) (cases_lt i b);
      low = λ i h. r'.low i h ∙ r.low i (omega arith);
      high = λ i h. r'.high i (omega arith) ∙ r.high i h;
    }

-- one store is a run of one place
stored : (f : ℕ → ℕ) (s : List ℕ) (b v : ℕ) → b < length s → v ≡ f b → Rewritten b (b + 1) f s (set s b v)
stored f s b v bound same =
    record {
      len = simp length-set;
      run = λ i h k. let here : i ≡ b = omega arith in rw here (get_or-set_same s b v 0 bound ∙ same);
      low = λ i h. get_or-set_other s b i v 0 (omega arith);
      high = λ i h. get_or-set_other s b i v 0 (omega arith);
    }

-- one place more, at the end
pub one_after : {a e v : ℕ} {f : ℕ → ℕ} {s t : List ℕ} → Rewritten a e f s t → a ≤ e → e < length s → v ≡ f e → Rewritten a (e + 1) f s (set t e v)
one_after r le bound same = then_after le (omega arith) r (stored _ _ _ _ (omega (arith, r.len)) same)
