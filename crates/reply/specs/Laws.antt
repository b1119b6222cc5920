-- What is claimed of replies, over the types of status and state; `done` is the status of a call that is not refused. Assumes nothing.
use Rattle.std.specs.Prelude.{ℕ, ◌+◌, ◌≡◌, List}
use Rattle.reply.specs.Reply.{Reply, refusal_with}

-- demand 1: 'a refused call changes no cell, no seat and no lent block', and its result is the one that says nothing
abbrev pub ChangesNothing : {Status State Result : Type 0} → Status → Result → State → List ℕ → List ℕ → Reply Status State Result → Type 0
ChangesNothing done nothing state s block r = (r.status ≡ done → ⊥) → r ≡ refusal_with nothing r.status state s block

-- demand 2: 'cutting a stream anywhere, even inside a command, gives the same end and bell counts that add up to the same'
pub record SameCut {Status State : Type 0} (first second whole : Reply Status State ℕ) : Type 0 where
  pub first_status : first.status ≡ whole.status
  pub second_status : second.status ≡ whole.status
  pub state : second.state ≡ whole.state
  pub screen : second.screen ≡ whole.screen
  pub count : first.result + second.result ≡ whole.result

-- demand 2, which from request 02 on reads: 'a block handed out and put straight back changes nothing but the marks'. Then `end` is the state with these, and s the screen as it was.
pub record RoundTrip {Status State Result : Type 0} (done : Status) (end : State) (s : List ℕ) (returned again : Reply Status State Result) : Type 0 where
  pub returned_done : returned.status ≡ done
  pub restored_done : again.status ≡ done
  pub state : again.state ≡ end
  pub screen : again.screen ≡ s
