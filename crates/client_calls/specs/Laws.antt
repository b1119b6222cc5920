-- Paper 01, 'What comes back': when each status of a call by client is given. Assumes nothing.
use Rattle.std.specs.Prelude.{ℕ, ◌≤◌, ◌<◌, ◌≡◌, List, [], ◌∷◌, length, get_or}
use Rattle.rectangle.specs.declared.Rect.{Rect}
use Rattle.rectangle.specs.Cells.{Inside}
use Rattle.rectangle.specs.Rectangles.{width_of, height_of, Legal}
use Rattle.block.specs.Block.{block_length}
use Rattle.reply.specs.declared.Status.{Status}
use Rattle.reply.specs.declared.Status.TheVariants.{Done, ScreenLength, Invalid, ClientZero, PaneIllegal, ClientTaken, PaneShared, Full, NotOpen, BlockTooShort, BlockMismatch}
use Rattle.reply.specs.Numbers.{status_number}
use Rattle.reply.specs.Answers.{Exactly, Answers}
use Rattle.slots.specs.declared.Multiplexer.{Multiplexer}
use Rattle.slots.specs.State.{slot_at, pane, Open, Free, Closed}
use Rattle.slots.specs.Valid.{ValidMultiplexer}
use Rattle.multiplexer.specs.Calls.{write_call, return_call, restore_call, take_call, open_call, close_call}

-- ---- when each status is given
abbrev pub viewport : Multiplexer → ℕ → Rect
viewport m i = (slot_at m i).port.view.viewport

-- 'length is .. exactly 2 + width x height', and 'the first two bytes are .. the viewport's width and height'
pub record Fits (r : Rect) (block : List ℕ) : Type 0 where
  pub size : length block ≡ block_length r
  pub width : get_or block 0 0 ≡ width_of r
  pub height : get_or block 1 0 ≡ height_of r

-- paper 01, 'What comes back': the table's 'when', for multiplexer m, screen s, client n, pane r and a lent block; each call has some of them
abbrev pub Applies : Multiplexer → List ℕ → ℕ → Rect → List ℕ → Status → Type 0
Applies m s n r block Done = ⊥
-- 'the lent screen is not exactly 1,920 bytes'
Applies m s n r block ScreenLength = length s ≡ 1920 → ⊥
-- 'the .. wall handed in is not sound'
Applies m s n r block Invalid = ValidMultiplexer m → ⊥
-- 'opening with bench number 0'
Applies m s n r block ClientZero = n ≡ 0
-- 'opening with a pane that is not legal'
Applies m s n r block PaneIllegal = Legal r → ⊥
-- 'opening with a number that is open already'
Applies m s n r block ClientTaken = (i : ℕ) × Open m i × ((slot_at m i).client ≡ n)
-- 'opening with a pane that shares a cell with an open pane'
Applies m s n r block PaneShared = (i : ℕ) × Open m i × ((k : ℕ) × Inside (pane m i) k × Inside r k)
-- 'opening while four seats are open'
Applies m s n r block Full = (i : ℕ) → Free m i → ⊥
-- 'no open seat has this number (0 never has)'
Applies m s n r block NotOpen = Closed m n
-- 'block return: lent block shorter than 2 + width x height'
Applies m s n r block BlockTooShort = (i : ℕ) × Open m i × ((slot_at m i).client ≡ n) × (length block < block_length (viewport m i))
-- 'block restore: length is not exactly 2 + width x height, or the first two bytes are not the viewport's width and height'
Applies m s n r block BlockMismatch = (i : ℕ) × Open m i × ((slot_at m i).client ≡ n) × (Fits (viewport m i) block → ⊥)

-- demand 1: 'every call comes back, with 0 or with a refusal number given exactly when its rule says'.
-- 'Open: 1 to 7. Close: 2, 8. Write: 1, 2, 8. Return: 1, 2, 8, 9. Restore: 1, 2, 8, 10.' Request 02, of a taking: 'on a wall 2, 8'
pub record Statuses (m : Multiplexer) (s : List ℕ) (n : ℕ) (r : Rect) (block : List ℕ) : Type 0 where
  pub opening : Answers Done status_number (Applies m s n r block) (ScreenLength ∷ Invalid ∷ ClientZero ∷ PaneIllegal ∷ ClientTaken ∷ PaneShared ∷ Full ∷ []) (open_call m s n r).status
  pub closing : Answers Done status_number (Applies m s n r block) (Invalid ∷ NotOpen ∷ []) (close_call m n).status
  pub writing : Answers Done status_number (Applies m s n r block) (ScreenLength ∷ Invalid ∷ NotOpen ∷ []) (write_call m s n block).status
  pub returning : Answers Done status_number (Applies m s n r block) (ScreenLength ∷ Invalid ∷ NotOpen ∷ BlockTooShort ∷ []) (return_call m s n block).status
  pub restoring : Answers Done status_number (Applies m s n r block) (ScreenLength ∷ Invalid ∷ NotOpen ∷ BlockMismatch ∷ []) (restore_call m s n block).status
  pub taking : Answers Done status_number (Applies m s n r block) (Invalid ∷ NotOpen ∷ []) (take_call m n).status

-- of a valid multiplexer and 1,920 cells: 0 but for 8, 9, 10 and, at opening, 3 to 7, by the same rules
pub record ValidStatuses (m : Multiplexer) (s : List ℕ) (n : ℕ) (r : Rect) (block : List ℕ) : Type 0 where
  pub opening : Answers Done status_number (Applies m s n r block) (ClientZero ∷ PaneIllegal ∷ ClientTaken ∷ PaneShared ∷ Full ∷ []) (open_call m s n r).status
  pub closing : Answers Done status_number (Applies m s n r block) (NotOpen ∷ []) (close_call m n).status
  pub writing : Answers Done status_number (Applies m s n r block) (NotOpen ∷ []) (write_call m s n block).status
  pub returning : Answers Done status_number (Applies m s n r block) (NotOpen ∷ BlockTooShort ∷ []) (return_call m s n block).status
  pub restoring : Answers Done status_number (Applies m s n r block) (NotOpen ∷ BlockMismatch ∷ []) (restore_call m s n block).status
  pub taking : Answers Done status_number (Applies m s n r block) (NotOpen ∷ []) (take_call m n).status

-- ---- at an open slot: client n's calls go to slot i of a valid multiplexer, with 1,920 cells
pub record GoesTo (m : Multiplexer) (s : List ℕ) (n i : ℕ) : Type 0 where
  pub valid : ValidMultiplexer m
  pub len : length s ≡ 1920
  pub is_open : Open m i
  pub client : (slot_at m i).client ≡ n

-- 0 but for 9 and 10, by the slot's viewport
pub record SlotStatuses (m : Multiplexer) (s : List ℕ) (n : ℕ) (block : List ℕ) (i : ℕ) : Type 0 where
  pub close_done : (close_call m n).status ≡ Done
  pub take_done : (take_call m n).status ≡ Done
  pub write_done : (write_call m s n block).status ≡ Done
  pub return_done : Exactly (return_call m s n block).status Done (block_length (viewport m i) ≤ length block)
  pub return_short : Exactly (return_call m s n block).status BlockTooShort (length block < block_length (viewport m i))
  pub restore_done : Exactly (restore_call m s n block).status Done (Fits (viewport m i) block)
  pub restore_mismatch : Exactly (restore_call m s n block).status BlockMismatch (Fits (viewport m i) block → ⊥)
