-- Request 02: 'the projector program redraws everything and flickers'. What marks tell a host that draws only marked lines anew. Assumes nothing.
use Rattle.std.specs.Prelude.{ℕ, ◌≡◌, Bool, true, false, cond, ◌||◌, ◌⊎◌, List, [], ◌∷◌, length, get_or}
use Rattle.laws.specs.Tabulate.{tabulate}
use Rattle.rectangle.specs.Cells.{line_of, Inside}
use Rattle.marks.specs.Marks.{is_marked}
use Rattle.port.specs.declared.Port.{Port}
use Rattle.calls.specs.Calls.{PortReply}
use Rattle.console.specs.Calls.{write_call, return_call, restore_call}
use Rattle.slots.specs.declared.Multiplexer.{Multiplexer}
use Rattle.slots.specs.State.{slot_at, pane, Open}
use Rattle.slots.specs.Valid.{valid_multiplexer}
use Rattle.client_calls.specs.Serve.{Call, Server, serve}
use Rattle.isolation.specs.Isolation.{Answer, Served, serve_all, answers_to}

-- what a host shows, once the lines that pass a test are copied from the screen: the others stay as they were shown
unfoldable pub redrawn : (ℕ → Bool) → List ℕ → List ℕ → List ℕ
redrawn lines shown s = tabulate 1920 (λ k. cond (lines (line_of k)) (get_or s k 0) (get_or shown k 0))

-- ---- a plain console: any calls between two takings, refused ones included
pub data PlainCall : Type 0 where
  Write Return Restore : List ℕ → PlainCall

abbrev pub plain_reply : Port → List ℕ → PlainCall → PortReply
plain_reply p s (Write bytes) = write_call p s bytes
plain_reply p s (Return block) = return_call p s block
plain_reply p s (Restore block) = restore_call p s block

pub record Plain : Type 0 where
  pub port : Port
  pub screen : List ℕ

-- each call starts from what the one before left
unfoldable pub plain_all : Port → List ℕ → List PlainCall → Plain
plain_all p s [] = record { port = p; screen = s }
plain_all p s (c ∷ cs) = plain_all (plain_reply p s c).state (plain_reply p s c).screen cs

-- s is the screen as it was when the marks were last taken, or at any time since
pub record PlainTracked (p : Port) (s : List ℕ) (cs : List PlainCall) : Type 0 where
  -- a cell is as it was, or lies on a marked line
  pub cells : (k : ℕ) → (get_or (plain_all p s cs).screen k 0 ≡ get_or s k 0) ⊎ (is_marked (plain_all p s cs).port.marks (line_of k) ≡ true)
  -- a line that was marked still is
  pub grows : (line : ℕ) → is_marked p.marks line ≡ true → is_marked (plain_all p s cs).port.marks line ≡ true

pub record PlainRedraw (p : Port) (s : List ℕ) (cs : List PlainCall) : Type 0 where
  pub tracked : PlainTracked p s cs
  -- so the screen that was shown, with the marked lines drawn anew, is the screen
  pub shown : length s ≡ 1920 → redrawn (is_marked (plain_all p s cs).port.marks) s (plain_all p s cs).screen ≡ (plain_all p s cs).screen

-- ---- a multiplexer: any list of demand 3's calls
-- a line was among the marks that answers handed out
unfoldable pub handed_out : List Answer → ℕ → Bool
handed_out [] line = false
handed_out (a ∷ xs) line = is_marked a.marks line || handed_out xs line

-- the lines to draw anew for slot i's client: those that its port has marked, and those that were taken for it meanwhile
abbrev pub lines_of : Server → Multiplexer → List ℕ → List Call → ℕ → ℕ → Bool
lines_of f m s cs i line =
    let end : Served = serve_all f m s cs in
    is_marked (slot_at end.multiplexer i).port.marks line || handed_out (answers_to (slot_at m i).client cs end.answers) line

-- .. and for all four
abbrev pub lines_of_all : Server → Multiplexer → List ℕ → List Call → ℕ → Bool
lines_of_all f m s cs line = (lines_of f m s cs 0 line || lines_of f m s cs 1 line) || (lines_of f m s cs 2 line || lines_of f m s cs 3 line)

pub record ClientRedraw (f : Server) (m : Multiplexer) (s : List ℕ) (cs : List Call) : Type 0 where
  -- a cell is as it was, or lies in the pane of an open client, on a line that is to be drawn anew for it
  pub cells : (k : ℕ) → (get_or (serve_all f m s cs).screen k 0 ≡ get_or s k 0) ⊎ ((i : ℕ) × Open m i × Inside (pane m i) k × (lines_of f m s cs i (line_of k) ≡ true))
  -- so the screen that was shown, with these lines drawn anew, is the screen
  pub shown : redrawn (lines_of_all f m s cs) s (serve_all f m s cs).screen ≡ (serve_all f m s cs).screen

-- ---- the laws: plain, of every port and screen, refused calls included; by client, of demand 3's start
pub record RedrawLaws : Type 0 where
  pub plain : (p : Port) (s : List ℕ) (cs : List PlainCall) → PlainRedraw p s cs
  pub client : (m : Multiplexer) (s : List ℕ) (cs : List Call) → valid_multiplexer m ≡ true → length s ≡ 1920 → ClientRedraw serve m s cs
