-- What an export leaves. Assumes nothing.
use Rattle.std.specs.Prelude.{ℕ, ◌≡◌, List}

-- its result, which is the length of the answer, and the lent screen or buffer and the lent answer as it returns
pub record Run : Type 0 where
  pub size : ℕ
  pub lent : List ℕ
  pub answer : List ℕ

-- nothing is done
abbrev pub not_run : List ℕ → List ℕ → Run
not_run lent answer = record { size = 0; lent = lent; answer = answer }

-- what an export promises
pub record Runs (run : Run) (size : ℕ) (lent answer : List ℕ) : Type 0 where
  pub size_is : size ≡ run.size
  pub lent_is : lent ≡ run.lent
  pub answer_is : answer ≡ run.answer
