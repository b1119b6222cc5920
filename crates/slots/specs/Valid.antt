-- Paper 01, 'Screen and port': when a multiplexer is sound, here called valid: as a test, and beside it as propositions. Assumes nothing.
use Rattle.std.specs.Prelude.{ℕ, ◌≡◌, Bool, cond, not, ◌&&◌, ◌||◌, eqb, length}
use Rattle.rectangle.specs.Rectangles.{Apart, shares_cell}
use Rattle.port.specs.Valid.{valid_port, ValidPort, is_zero_port, ZeroPort}
use Rattle.slots.specs.declared.Slot.{Slot}
use Rattle.slots.specs.declared.Multiplexer.{Multiplexer}
use Rattle.slots.specs.State.{slot_at, pane, Open, Free}

-- 'its open seats are sound .. and every field of a free seat holds 0 or false'
unfoldable pub valid_slot : Slot → Bool
valid_slot x = cond (eqb x.client 0) (is_zero_port x.port) (valid_port x.port)

-- two slots, where both are open, 'have different numbers .., and have panes (their homes) that share no cell'
unfoldable pub compatible : Slot → Slot → Bool
compatible x y =
    (eqb x.client 0 || eqb y.client 0)
    || (not (eqb x.client y.client) && not (shares_cell x.port.home y.port.home))

-- each of the four, and each two of them
unfoldable pub valid_slots : Multiplexer → Bool
valid_slots m =
    ((valid_slot (slot_at m 0) && valid_slot (slot_at m 1)) && (valid_slot (slot_at m 2) && valid_slot (slot_at m 3)))
    && ((compatible (slot_at m 0) (slot_at m 1) && (compatible (slot_at m 0) (slot_at m 2) && compatible (slot_at m 0) (slot_at m 3)))
    && ((compatible (slot_at m 1) (slot_at m 2) && compatible (slot_at m 1) (slot_at m 3)) && compatible (slot_at m 2) (slot_at m 3)))

-- 'sound', of an array of four slots. A client is a byte, and 0 marks a free slot, so those of open slots are 'from 1 to 255'.
unfoldable pub valid_multiplexer : Multiplexer → Bool
valid_multiplexer m = eqb (length m.slots) 4 && valid_slots m

pub record ValidMultiplexer (m : Multiplexer) : Type 0 where
  pub four : length m.slots ≡ 4
  pub ports : (i : ℕ) → Open m i → ValidPort (slot_at m i).port
  pub clients : (i j : ℕ) → Open m i → Open m j → (slot_at m i).client ≡ (slot_at m j).client → i ≡ j
  pub panes : (i j : ℕ) → Open m i → Open m j → (i ≡ j → ⊥) → Apart (pane m i) (pane m j)
  pub free : (i : ℕ) → Free m i → ZeroPort (slot_at m i).port
