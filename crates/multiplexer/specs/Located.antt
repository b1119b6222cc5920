-- Paper 01, 'What comes back': why a call by client is refused before it starts, or the slot that it goes to. 'Where several apply, the smallest number that the call can give is given'. Assumes nothing.
use Rattle.std.specs.Prelude.{ℕ, cond, not, leb, eqb, Ok, Err}
use Rattle.rectangle.specs.declared.Rect.{Rect}
use Rattle.rectangle.specs.Rectangles.{legal}
use Rattle.reply.specs.declared.Status.TheVariants.{Invalid, ClientZero, PaneIllegal, ClientTaken, PaneShared, Full, NotOpen}
use Rattle.calls.specs.Verdict.{Judged, Verdict, accepted, screen_verdict, first_of}
use Rattle.slots.specs.declared.Multiplexer.{Multiplexer}
use Rattle.slots.specs.State.{slot_of, has_client}
use Rattle.slots.specs.Valid.{valid_multiplexer}
use Rattle.slots.specs.Panes.{pane_shared}
use Rattle.slots.specs.declared.place.Place.{Place}

-- where a call goes: its refusal, or the number of its slot
abbrev pub Located : Type 0
Located = Judged ℕ

-- .. from what code answers with
abbrev pub indexed : Judged Place → Located
indexed (Ok place) = Ok place.index
indexed (Err status) = Err status

-- 2 if 'the .. wall handed in is not sound'
unfoldable pub multiplexer_verdict : Multiplexer → Verdict
multiplexer_verdict m = cond (valid_multiplexer m) accepted (Err Invalid)

-- 3 if 'opening with bench number 0', 4 if 'opening with a pane that is not legal'
unfoldable pub claim_verdict : ℕ → Rect → Verdict
claim_verdict n pane =
    cond (eqb n 0) (Err ClientZero)
    (cond (not (legal pane)) (Err PaneIllegal)
    accepted)

-- 5 if 'opening with a number that is open already', 6 if 'opening with a pane that shares a cell with an open pane', 7 if 'opening while four seats are open', and else 'the lowest free seat'
unfoldable pub free_slot_for : Multiplexer → ℕ → Rect → Located
free_slot_for m n pane =
    cond (has_client m n) (Err ClientTaken)
    (cond (pane_shared m pane) (Err PaneShared)
    (cond (leb 4 (slot_of m 0)) (Err Full)
    (Ok (slot_of m 0))))

-- 8 if 'no open seat has this number (0 never has)', and else the client's slot
unfoldable pub open_slot : Multiplexer → ℕ → Located
open_slot m n = cond (not (has_client m n)) (Err NotOpen) (Ok (slot_of m n))

-- a call for an open client: 2, then 8
abbrev pub client_slot : Multiplexer → ℕ → Located
client_slot m n = first_of (multiplexer_verdict m) (open_slot m n)

-- a claim of a slot: 2, then 3 to 7
abbrev pub claim_slot : Multiplexer → ℕ → Rect → Located
claim_slot m n pane = first_of (multiplexer_verdict m) (first_of (claim_verdict n pane) (free_slot_for m n pane))

-- 1 before them, of a call that takes a screen
abbrev pub located_on : ℕ → Located → Located
located_on size located = first_of (screen_verdict size) located
