-- Paper 01, 'What comes back', for calls of any kind: all that a call leaves, over the types of its status, of the state that it hands back and of its result. Assumes nothing.
use Rattle.std.specs.Prelude.{ℕ, ◌≡◌, List}

-- what a call hands back, and the bytes lent to it as it returns. The result is a count, or more than a count. A write's block is its stream.
pub record Reply (Status State Result : Type 0) : Type 0 where
  pub status : Status
  pub state : State
  pub result : Result
  pub screen : List ℕ
  pub block : List ℕ

-- a refusal hands back the state and every lent byte as they came, and a result that says nothing
abbrev pub refusal_with : {Status State Result : Type 0} → Result → Status → State → List ℕ → List ℕ → Reply Status State Result
refusal_with nothing status state s block = record { status = status; state = state; result = nothing; screen = s; block = block }

-- 'a refusal hands back the port or wall as it came, a count of 0, and every lent byte as it came'
abbrev pub refusal : {Status State : Type 0} → Status → State → List ℕ → List ℕ → Reply Status State ℕ
refusal status state s block = refusal_with 0 status state s block

-- what a call promises: each part of its answer, and the bytes of the lent screen and block as it returns
pub record Replies {Status State Result : Type 0} (reply : Reply Status State Result) (status : Status) (state : State) (result : Result) (screen block : List ℕ) : Type 0 where
  pub status_is : status ≡ reply.status
  pub state_is : state ≡ reply.state
  pub result_is : result ≡ reply.result
  pub cells : screen ≡ reply.screen
  pub bytes : block ≡ reply.block
