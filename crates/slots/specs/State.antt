-- Paper 01, 'Screen and port': the fresh multiplexer, and its slots. A multiplexer is the paper's wall, a slot its seat, a client its bench number. Assumes nothing.
use Rattle.std.specs.Prelude.{ℕ, ◌<◌, ◌≡◌, Bool, cond, not, ◌&&◌, [], ◌∷◌, ltb, eqb, get_or, set}
use Rattle.rectangle.specs.declared.Rect.{Rect}
use Rattle.marks.specs.Marks.{no_marks, marked_in}
use Rattle.port.specs.declared.Port.{Port}
use Rattle.port.specs.State.{zero_port, with_marks, fresh_port, no_port}
use Rattle.slots.specs.declared.Slot.{Slot}
use Rattle.slots.specs.declared.Multiplexer.{Multiplexer}

abbrev pub new_slot : ℕ → Port → Slot
new_slot n p = record { client = n; port = p }

-- a free seat: 'every field of a free seat holds 0 or false'
unfoldable pub free_slot : Slot
free_slot = new_slot 0 zero_port

-- what code reads past the end of an array of slots; no multiplexer shows it
abbrev pub no_slot : Slot
no_slot = new_slot 0 no_port

-- 'a fresh wall has four free seats'
abbrev pub fresh_multiplexer : Multiplexer
fresh_multiplexer = record { slots = free_slot ∷ free_slot ∷ free_slot ∷ free_slot ∷ [] }

abbrev pub slot_at : Multiplexer → ℕ → Slot
slot_at m i = get_or m.slots i no_slot

-- 'panes (their homes)'
abbrev pub pane : Multiplexer → ℕ → Rect
pane m i = (slot_at m i).port.home

-- slot i is open, or it is free
abbrev pub Open : Multiplexer → ℕ → Type 0
Open m i = (i < 4) × ((slot_at m i).client ≡ 0 → ⊥)

abbrev pub Free : Multiplexer → ℕ → Type 0
Free m i = (i < 4) × ((slot_at m i).client ≡ 0)

-- 'no open seat has this number'
abbrev pub Closed : Multiplexer → ℕ → Type 0
Closed m n = (i : ℕ) → Open m i → (slot_at m i).client ≡ n → ⊥

-- the slot of a client, or 4: the first that has the number. That of 0 is the lowest free slot.
unfoldable pub slot_of : Multiplexer → ℕ → ℕ
slot_of m n =
    cond (eqb (slot_at m 0).client n) 0
    (cond (eqb (slot_at m 1).client n) 1
    (cond (eqb (slot_at m 2).client n) 2
    (cond (eqb (slot_at m 3).client n) 3
    4)))

-- some open slot has this client; 'no open seat has this number (0 never has)'
unfoldable pub has_client : Multiplexer → ℕ → Bool
has_client m n = not (eqb n 0) && ltb (slot_of m n) 4

-- the multiplexer with another slot in a place
abbrev pub with_slot : Multiplexer → ℕ → Slot → Multiplexer
with_slot m i x = record { slots = set m.slots i x }

-- the multiplexer with another port in a slot
abbrev pub with_port : Multiplexer → ℕ → Port → Multiplexer
with_port m i p = with_slot m i (new_slot (slot_at m i).client p)

-- a slot just opened: a fresh port whose home is the pane; request 02: 'opening marks the pane's lines'
abbrev pub fresh_slot : ℕ → Rect → Slot
fresh_slot n pane = new_slot n (with_marks (fresh_port pane) (marked_in no_marks pane))
