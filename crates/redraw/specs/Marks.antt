-- Request 02: what each call marks, what a taking hands out, and that marks only grow but by taking and closing. Assumes nothing.
use Rattle.std.specs.Prelude.{ℕ, ◌≤◌, ◌≡◌, true, false, ◌||◌, List, length}
use Rattle.laws.specs.Bits.{count_below}
use Rattle.rectangle.specs.declared.Rect.{Rect}
use Rattle.block.specs.Block.{block_fits}
use Rattle.marks.specs.Marks.{is_marked, no_marks, has_line, stored_to}
use Rattle.port.specs.declared.Port.{Port}
use Rattle.port.specs.State.{with_marks}
use Rattle.port.specs.Valid.{ValidPort}
use Rattle.port.specs.Stream.{stream}
use Rattle.calls.specs.Taking.{Taken}
use Rattle.console.specs.Calls.{write_call, return_call, restore_call}
use Rattle.console.specs.Calls as console
use Rattle.slots.specs.declared.Multiplexer.{Multiplexer}
use Rattle.slots.specs.State.{slot_at, with_port, Open, fresh_slot}
use Rattle.slots.specs.Valid.{ValidMultiplexer}
use Rattle.multiplexer.specs.Calls.{open_call, close_call, take_call}
use Rattle.client_calls.specs.Serve.{Call, serve}
use Rattle.client_calls.specs.Serve.Kind.{Take}

-- what a plain call leaves marked, line by line
pub record PlainMarks (p : Port) (s block : List ℕ) (line : ℕ) : Type 0 where
  -- 'that had a cell stored to since the marks were last taken': by an edit of the stream, or before
  pub write : is_marked (write_call p s block).state.marks line ≡ (is_marked p.marks line || stored_to (stream p block).edits line)
  pub return : (return_call p s block).state.marks ≡ p.marks
  -- 'a block restore marks the viewport's'; a refused one none
  pub restore : block_fits p.view.viewport block ≡ true → is_marked (restore_call p s block).state.marks line ≡ (is_marked p.marks line || has_line p.view.viewport line)
  pub no_restore : block_fits p.view.viewport block ≡ false → (restore_call p s block).state.marks ≡ p.marks

-- 'how many lines are marked': the number of lines below 24 whose bit is set, and no bit above is set
pub record CountsLines (t : Taken) : Type 0 where
  pub count : t.count ≡ count_below 24 (is_marked t.marks)
  pub above : (line : ℕ) → 24 ≤ line → is_marked t.marks line ≡ false

-- 'taking them returns the marks .. and clears them': of a plain console, and of client n's slot i
pub record PlainTaken (p : Port) : Type 0 where
  pub marks : (console.take_call p).result.marks ≡ p.marks
  pub port : (console.take_call p).state ≡ with_marks p no_marks

pub record ClientTaken (m : Multiplexer) (n i : ℕ) : Type 0 where
  pub marks : (take_call m n).result.marks ≡ (slot_at m i).port.marks
  pub multiplexer : (take_call m n).state ≡ with_port m i (with_marks (slot_at m i).port no_marks)

-- ---- the laws
pub record MarkLaws : Type 0 where
  pub plain_calls : (p : Port) (s block : List ℕ) (line : ℕ) → ValidPort p → length s ≡ 1920 → PlainMarks p s block line
  pub plain_taken : (p : Port) → ValidPort p → PlainTaken p
  pub client_taken : (m : Multiplexer) (n i : ℕ) → ValidMultiplexer m → Open m i → (slot_at m i).client ≡ n → ClientTaken m n i
  -- refused or not
  pub plain_counts : (p : Port) → CountsLines (console.take_call p).result
  pub client_counts : (m : Multiplexer) (n : ℕ) → CountsLines (take_call m n).result
  -- 'opening marks the pane's lines'
  pub opening : (n : ℕ) (r : Rect) (line : ℕ) → is_marked (fresh_slot n r).port.marks line ≡ has_line r line
  -- marks only grow. Of demand 3's calls: each, but a taking for the slot's own client, leaves what an open slot has marked
  pub calls_grow : (m : Multiplexer) (s : List ℕ) (c : Call) → ValidMultiplexer m → length s ≡ 1920 → (i : ℕ) → Open m i → (c.kind ≡ Take → c.client ≡ (slot_at m i).client → ⊥)
      → (line : ℕ) → is_marked (slot_at m i).port.marks line ≡ true → is_marked (slot_at (serve m s c).state i).port.marks line ≡ true
  -- an opening, refused or not, leaves every open slot, and a closing every one but its client's
  pub opening_leaves : (m : Multiplexer) (s : List ℕ) (n : ℕ) (r : Rect) (i : ℕ) → Open m i → slot_at (open_call m s n r).state i ≡ slot_at m i
  pub closing_leaves : (m : Multiplexer) (n i : ℕ) → ValidMultiplexer m → Open m i → ((slot_at m i).client ≡ n → ⊥) → slot_at (close_call m n).state i ≡ slot_at m i
