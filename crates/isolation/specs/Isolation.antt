-- Demand 3: whatever the other clients sent, each open client is as on a standalone console. Paper 01, 'Demand 3: the lone bench'. Assumes nothing.
use Rattle.std.specs.Prelude.{ℕ, ◌≡◌, true, cond, List, [], ◌∷◌, ◌++◌, map, eqb, length, get_or}
use Rattle.rectangle.specs.Cells.{Inside}
use Rattle.rectangle.specs.Local.{Agree}
use Rattle.marks.specs.Marks.{no_marks}
use Rattle.port.specs.declared.Port.{Port}
use Rattle.reply.specs.Numbers.{status_number}
use Rattle.slots.specs.declared.Multiplexer.{Multiplexer}
use Rattle.slots.specs.State.{slot_at, pane, Open, Free, Closed}
use Rattle.slots.specs.Valid.{valid_multiplexer}
use Rattle.client_calls.specs.Serve.{CallReply, Kind, lent_block, call_on_port, Call, Server}

-- 'a call's answer is all that it hands back besides wall and screen: number, count and its lent block's bytes'; and of a taking the marks
pub record Answer : Type 0 where
  pub number : ℕ
  pub count : ℕ
  pub marks : ℕ
  pub block : List ℕ

abbrev pub answer_from : {State : Type 0} → CallReply State → Answer
answer_from r = record { number = status_number r.status; count = r.result.count; marks = r.result.marks; block = r.block }

-- ---- the multiplexer, fed a list of calls
pub record Served : Type 0 where
  pub multiplexer : Multiplexer
  pub screen : List ℕ
  pub answers : List Answer

-- 'the first gets the starting wall and screen; each later one gets the wall and screen that the one before left, refused or not'
unfoldable pub serve_all : Server → Multiplexer → List ℕ → List Call → Served
serve_all f m s [] = record { multiplexer = m; screen = s; answers = [] }
serve_all f m s (c ∷ cs) =
    let r : CallReply Multiplexer = f m s c in
    let rest : Served = serve_all f r.state r.screen cs in
    record { multiplexer = rest.multiplexer; screen = rest.screen; answers = answer_from r ∷ rest.answers }

-- ---- the standalone console, the paper's lone bench: 'its state is a port and 1,920 cells'. It knows no slot and no client.
pub record Standalone : Type 0 where
  pub port : Port
  pub screen : List ℕ
  pub answers : List Answer

unfoldable pub standalone : Port → List ℕ → List Kind → Standalone
standalone p s [] = record { port = p; screen = s; answers = [] }
standalone p s (k ∷ ks) =
    let r : CallReply Port = call_on_port k p s in
    let rest : Standalone = standalone r.state r.screen ks in
    record { port = rest.port; screen = rest.screen; answers = answer_from r ∷ rest.answers }

-- ---- which calls are whose
-- 'the calls with that seat's number, in their order'
unfoldable pub calls_of : ℕ → List Call → List Kind
calls_of n [] = []
calls_of n (c ∷ cs) = cond (eqb c.client n) (c.kind ∷ calls_of n cs) (calls_of n cs)

-- the answers to them, in their order
unfoldable pub answers_to : ℕ → List Call → List Answer → List Answer
answers_to n [] xs = []
answers_to n (c ∷ cs) [] = []
answers_to n (c ∷ cs) (a ∷ xs) = cond (eqb c.client n) (a ∷ answers_to n cs xs) (answers_to n cs xs)

-- '8, count 0, the block as it came', and no marks
abbrev pub not_open : Kind → Answer
not_open k = record { number = 8; count = 0; marks = no_marks; block = lent_block k }

-- slot i's standalone console: 'at first that seat's port and the starting screen', and 'fed the calls with that seat's number'
abbrev pub console_of : Multiplexer → List ℕ → List Call → ℕ → Standalone
console_of m s cs i = standalone (slot_at m i).port s (calls_of (slot_at m i).client cs)

-- ---- the demand, for one list of calls
pub record Isolated (f : Server) (m : Multiplexer) (s : List ℕ) (cs : List Call) : Type 0 where
  -- 'the cells of each open bench's pane, ..
  pub cells : (i : ℕ) → Open m i → Agree (pane m i) (serve_all f m s cs).screen (console_of m s cs i).screen
  -- .. its port ..
  pub ports : (i : ℕ) → Open m i → slot_at (serve_all f m s cs).multiplexer i ≡ record { client = (slot_at m i).client; port = (console_of m s cs i).port }
  -- .. and the answer to each of its calls are exactly those of a lone bench'
  pub answers : (i : ℕ) → Open m i → answers_to (slot_at m i).client cs (serve_all f m s cs).answers ≡ (console_of m s cs i).answers
  -- each call has one answer
  pub each_answered : length (serve_all f m s cs).answers ≡ length cs
  -- 'a call for a number that isn't open answers 8 ..
  pub answers_8 : (n : ℕ) → Closed m n → answers_to n cs (serve_all f m s cs).answers ≡ map not_open (calls_of n cs)
  -- .. and changes nothing', wherever it stands in the list
  pub changes_nothing : (before after : List Call) (c : Call) → cs ≡ before ++ (c ∷ after) → Closed m c.client
      → ((serve_all f m s (before ++ (c ∷ []))).multiplexer ≡ (serve_all f m s before).multiplexer) × ((serve_all f m s (before ++ (c ∷ []))).screen ≡ (serve_all f m s before).screen)
  -- 'cells in no open pane ..
  pub outside : (k : ℕ) → ((i : ℕ) → Open m i → Inside (pane m i) k → ⊥) → get_or (serve_all f m s cs).screen k 0 ≡ get_or s k 0
  -- .. and free seats are as at the start'
  pub free : (i : ℕ) → Free m i → slot_at (serve_all f m s cs).multiplexer i ≡ slot_at m i
  -- the multiplexer is valid again, with four slots, and the screen as long as it was
  pub still_valid : valid_multiplexer (serve_all f m s cs).multiplexer ≡ true
  pub still_long : length (serve_all f m s cs).screen ≡ 1920

-- 'the same wall, the same screen and the same answer to each call'
pub record SameEnd (f : Server) (m : Multiplexer) (s : List ℕ) (cs ds : List Call) : Type 0 where
  pub multiplexer : (serve_all f m s cs).multiplexer ≡ (serve_all f m s ds).multiplexer
  pub screen : (serve_all f m s cs).screen ≡ (serve_all f m s ds).screen
  pub answers : (n : ℕ) → answers_to n cs (serve_all f m s cs).answers ≡ answers_to n ds (serve_all f m s ds).answers

-- demand 3: 'any sound wall, any screen of 1,920 cells and any list of writes, block returns and block restores by bench number, refused ones included'; request 02: 'taking them joins demand 3'
pub record Isolation (f : Server) : Type 0 where
  pub isolated : (m : Multiplexer) (s : List ℕ) (cs : List Call) → valid_multiplexer m ≡ true → length s ≡ 1920 → Isolated f m s cs
  -- 'any two such lists from the same start that hold, for each number, the same calls in the same order'
  pub same_end : (m : Multiplexer) (s : List ℕ) (cs ds : List Call) → valid_multiplexer m ≡ true → length s ≡ 1920
      → ((n : ℕ) → calls_of n cs ≡ calls_of n ds) → SameEnd f m s cs ds
