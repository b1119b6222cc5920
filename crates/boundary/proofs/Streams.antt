-- Each way through a run of a stream. Assumes nothing.
use Prim.Native.Nat.{ℕ, ◌≤◌, ◌<◌}
use mathlib.Core.Path.{◌≡◌, refl, sym, subst}
use mathlib.Core.List.{List, [], ◌∷◌, ◌++◌}
use borrow.Author.Tests.{eq-eqb, ne_eqb, lt-ltb, le-ltb}
use lib.ListN.{length, drop}
use Rattle.session.specs.declared.Session.{Session}
use Rattle.session.specs.Session.{fresh_session, Fed, FedIfAny}
use Rattle.session.specs.Answer.{end_of}
use Rattle.boundary.specs.Run.{Runs}
use Rattle.boundary.specs.Stream.{ends_in, stream_run, bytewise_run}

module _ (s answer : List ℕ) where
  -- no room, and room
  no_room : (end : Session) (t : List ℕ) → length answer < 12 → Runs (ends_in s answer end t) 0 s answer
  unfolding ends_in
  no_room end t short = simp (lt-ltb (length answer) 12 short) (record { size_is = refl; lent_is = refl; answer_is = refl })

  room : (end : Session) (t after : List ℕ) → 12 ≤ length answer → after ≡ end_of end ++ drop 12 answer → Runs (ends_in s answer end t) 12 t after
  unfolding ends_in
  room end t after enough laid = simp (le-ltb (length answer) 12 enough) (record { size_is = refl; lent_is = refl; answer_is = laid })

  module _ (bytes : List ℕ) (size : ℕ) where
    pub no_size : size ≡ 0 → Runs (stream_run bytes size s answer) 0 s answer
    unfolding stream_run
    no_size none = simp (eq-eqb size 0 none) (record { size_is = refl; lent_is = refl; answer_is = refl })

    pub stream_short : (size ≡ 0 → ⊥) → length answer < 12 → Runs (stream_run bytes size s answer) 0 s answer
    unfolding stream_run
    stream_short some short = simp (ne_eqb size 0 some) (no_room _ _ short)

    pub stream_runs : (start end : Session) (t after : List ℕ) → (size ≡ 0 → ⊥) → 12 ≤ length answer → start ≡ fresh_session → Fed start s bytes end t → after ≡ end_of end ++ drop 12 answer
        → Runs (stream_run bytes size s answer) 12 t after
    unfolding stream_run
    stream_runs start end t after some enough fresh fed laid =
        let f = subst (λ (x : Session). Fed x s bytes end t) fresh fed in
        rw (ne_eqb size 0 some, sym f.session, sym f.cells) (room end t after enough laid)

  pub bytewise_short : (bytes : List ℕ) → length answer < 12 → Runs (bytewise_run bytes s answer) 0 s answer
  unfolding bytewise_run
  bytewise_short [] short = no_room _ _ short
  bytewise_short (b ∷ bs) short = no_room _ _ short

  fresh_runs : (bytes : List ℕ) (end : Session) (t after : List ℕ) → 12 ≤ length answer → FedIfAny fresh_session s bytes end t → after ≡ end_of end ++ drop 12 answer → Runs (bytewise_run bytes s answer) 12 t after
  unfolding bytewise_run
  fresh_runs [] end t after enough f laid =
      subst (λ (x : Session). Runs (ends_in s answer x s) 12 t after) f.0 (subst (λ (u : List ℕ). Runs (ends_in s answer end u) 12 t after) f.1 (room end t after enough laid))
  fresh_runs (b ∷ bs) end t after enough f laid = rw (sym f.session, sym f.cells) (room end t after enough laid)

  pub bytewise_runs : (bytes : List ℕ) (start end : Session) (t after : List ℕ) → 12 ≤ length answer → start ≡ fresh_session → FedIfAny start s bytes end t → after ≡ end_of end ++ drop 12 answer
      → Runs (bytewise_run bytes s answer) 12 t after
  bytewise_runs bytes start end t after enough fresh fed laid = fresh_runs bytes end t after enough (subst (λ (x : Session). FedIfAny x s bytes end t) fresh fed) laid
