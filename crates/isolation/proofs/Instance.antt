-- Demand 3 is not empty: a multiplexer made by two openings from the fresh one, and a list with a call of each kind, refused ones among them. Assumes nothing.
use Prim.Native.Nat.{ℕ, ◌+◌}
use native.Mathlib.Omega.{arith}
use mathlib.Core.Path.{◌≡◌, refl, ap, ◌∙◌, subst}
use mathlib.Core.Bool.{Bool, true, false, cond}
use mathlib.Core.List.{List, [], ◌∷◌, map}
use lib.Dec.{eqb}
use lib.ListN.{get_or}
use borrow.Author.Tests.{eqb-true}
use Rattle.laws.specs.Bits.{bit, count_below}
use Rattle.std.proofs.lemmas.Bool.{both_ways}
use Rattle.rectangle.specs.declared.Rect.{Rect}
use Rattle.rectangle.specs.declared.Motion.TheVariants.{Clear}
use Rattle.rectangle.specs.Cells.{inside}
use Rattle.rectangle.specs.Rectangles.{rect_of, shares_cell}
use Rattle.rectangle.specs.Edit.{vacated, edited_cell, edited, draw}
use Rattle.rectangle.proofs.Local.{length_edited, edited_at}
use Rattle.screen.specs.Size.{blank_screen}
use Rattle.screen.proofs.Sizes.{blank_size}
use Rattle.block.specs.Block.{block_length, block_fits, block_place}
use Rattle.block.proofs.Restores.{restored_inside}
use Rattle.charset.specs.Stored.{in_range, stored_symbol, stored_capital, stored_high, stored_byte}
use Rattle.marks.specs.Marks.{marked, line_count}
use Rattle.port.specs.declared.Port.{Port}
use Rattle.port.specs.State.{cursor_at, with_drawn}
use Rattle.port.specs.Valid.{parameters}
use Rattle.port.specs.Codes.{move_cursor_right, mode_of, store_cell, advance, print_byte, print}
use Rattle.port.specs.Step.{control, obey, step}
use Rattle.port.specs.Stream.{stream}
use Rattle.reply.specs.declared.Status.TheVariants.{Done}
use Rattle.calls.specs.Calls.{PortReply, written, block_returned, block_restored}
use Rattle.calls.specs.Taking.{marks_taken}
use Rattle.slots.specs.declared.Multiplexer.{Multiplexer}
use Rattle.slots.specs.State.{free_slot, fresh_multiplexer, Open, slot_of, has_client, fresh_slot, Closed}
use Rattle.slots.specs.Panes.{pane_shared}
use Rattle.slots.specs.Valid.{valid_multiplexer, ValidMultiplexer}
use Rattle.slots.proofs.Validity.{decides_multiplexer}
use Rattle.slots.proofs.Slots.{decides_client}
use Rattle.multiplexer.specs.Calls.{MultiplexerReply, open_call}
use Rattle.multiplexer.proofs.Claims.{Claims, decides_pane_shared}
use Rattle.client_calls.specs.Serve.{Kind, Call, call_by, serve}
use Rattle.isolation.specs.Isolation.{Answer, serve_all, calls_of, standalone, answers_to, Isolated, SameEnd}
use Rattle.client_calls.specs.Serve.Kind.{Write, Return, Restore, Take}
use Rattle.client_calls.proofs.Opened.{opens, open_valid}
use Rattle.client_calls.proofs.Closed.{fresh_multiplexer_lem}
use Rattle.isolation.proofs.Isolation.{isolation}

abbrev pub left_pane : Rect
left_pane = rect_of 0 0 1 1

abbrev pub right_pane : Rect
right_pane = rect_of 2 0 3 1

unfoldable pub pair : Multiplexer
pair = record { slots = fresh_slot 7 left_pane ∷ fresh_slot 200 right_pane ∷ free_slot ∷ free_slot ∷ [] }

first_opening : MultiplexerReply
first_opening = open_call fresh_multiplexer blank_screen 7 left_pane

second_opening : MultiplexerReply
second_opening = open_call first_opening.state first_opening.screen 200 right_pane

-- with one slot open, the first
single : Multiplexer
single = record { slots = fresh_slot 7 left_pane ∷ free_slot ∷ free_slot ∷ free_slot ∷ [] }

first_claims : Claims fresh_multiplexer 7 left_pane
unfolding free_slot slot_of has_client pane_shared
first_claims = record {
  valid = fresh_multiplexer_lem;
  not_zero = λ e. omega arith;
  legal = omega arith;
  new = λ i o e. both_ways _ refl ((decides_client fresh_multiplexer 7).passes (i, o, e));
  apart = λ i o k x y. both_ways _ refl ((decides_pane_shared fresh_multiplexer fresh_multiplexer_lem left_pane (omega arith)).passes (i, o, (k, x, y)));
  room = omega arith;
}

first_opened : first_opening ≡ record { status = Done; state = single; result = 0; screen = edited left_pane Clear 0xa0 blank_screen; block = [] }
unfolding first_opening single free_slot slot_of
first_opened = opens fresh_multiplexer blank_screen 7 left_pane blank_size first_claims

single_valid : ValidMultiplexer single
unfolding first_opening
single_valid = subst ValidMultiplexer (ap (λ (r : MultiplexerReply). r.state) first_opened) (open_valid fresh_multiplexer blank_screen 7 left_pane fresh_multiplexer_lem)

second_claims : Claims single 200 right_pane
unfolding single free_slot slot_of has_client pane_shared shares_cell
second_claims = record {
  valid = single_valid;
  not_zero = λ e. omega arith;
  legal = omega arith;
  new = λ i o e. both_ways _ refl ((decides_client single 200).passes (i, o, e));
  apart = λ i o k x y. both_ways _ refl ((decides_pane_shared single single_valid right_pane (omega arith)).passes (i, o, (k, x, y)));
  room = omega arith;
}

second_opened : second_opening.state ≡ pair
unfolding second_opening single pair free_slot slot_of
second_opened =
    rw first_opened
    (ap (λ (r : MultiplexerReply). r.state) (opens single (edited left_pane Clear 0xa0 blank_screen) 200 right_pane (length_edited left_pane Clear 0xa0 blank_screen) second_claims))

pub pair_valid : valid_multiplexer pair ≡ true
unfolding second_opening
pair_valid =
    (decides_multiplexer pair).passes
    (subst ValidMultiplexer second_opened (open_valid first_opening.state first_opening.screen 200 right_pane (rw first_opened single_valid)))

-- 9 and 0 have no open slot; one block is too short, and one does not fit
calls : List Call
calls =
    call_by 7 (Write (0x41 ∷ 0x07 ∷ []))
    ∷ call_by 200 (Write (0x42 ∷ []))
    ∷ call_by 9 (Write (0x0c ∷ []))
    ∷ call_by 0 (Write (0x0c ∷ []))
    ∷ call_by 7 (Return (1 ∷ 2 ∷ 3 ∷ 4 ∷ 5 ∷ 6 ∷ 9 ∷ []))
    ∷ call_by 200 (Return (1 ∷ []))
    ∷ call_by 200 (Restore (2 ∷ 2 ∷ 10 ∷ 11 ∷ 12 ∷ 13 ∷ []))
    ∷ call_by 7 (Restore (3 ∷ []))
    ∷ call_by 7 Take
    ∷ call_by 200 Take
    ∷ call_by 9 Take
    ∷ call_by 7 Take
    ∷ []

instance_isolated : Isolated serve pair blank_screen calls
instance_isolated = isolation.isolated pair blank_screen calls pair_valid blank_size

pub left_open : Open pair 0
unfolding pair
left_open = (omega arith, λ e. omega arith)

pub right_open : Open pair 1
unfolding pair
right_open = (omega arith, λ e. omega arith)

-- a port just opened
abbrev opened : Rect → Port
opened home = (fresh_slot 7 home).port

-- what the two writes leave: a stored letter, the cursor one to the right, its line marked, and a bell for $07
wrote_in : Rect → List ℕ → List ℕ → ℕ → ℕ → PortReply
wrote_in home s bytes stored bells =
    let p : Port = opened home in
    record {
      status = Done;
      state = with_drawn p (cursor_at p.view (home.left + 1) home.top) (marked p.marks home.top home.top);
      result = bells;
      screen = edited (rect_of home.left home.top home.left home.top) Clear stored s;
      block = bytes;
    }

wrote_7 : (s : List ℕ) → written (opened left_pane) s (0x41 ∷ 0x07 ∷ []) ≡ wrote_in left_pane s (0x41 ∷ 0x07 ∷ []) 0x81 1
unfolding wrote_in written draw stream step parameters control obey print print_byte store_cell advance move_cursor_right mode_of stored_byte stored_symbol stored_capital stored_high in_range
wrote_7 s = refl

wrote_200 : (s : List ℕ) → written (opened right_pane) s (0x42 ∷ []) ≡ wrote_in right_pane s (0x42 ∷ []) 0x82 0
unfolding wrote_in written draw stream step parameters obey print print_byte store_cell advance move_cursor_right mode_of stored_byte stored_symbol stored_capital stored_high in_range
wrote_200 s = refl

-- the number, the count and the marks of each answer to a client
outline : Answer → List ℕ
outline a = a.number ∷ a.count ∷ a.marks ∷ []

answered : ℕ → List (List ℕ)
answered n = map outline (answers_to n calls (serve_all serve pair blank_screen calls).answers)

-- both lines of a pane are marked by its opening, and taken once
answered_7 : answered 7 ≡ ((0 ∷ 1 ∷ 0 ∷ []) ∷ (0 ∷ 6 ∷ 0 ∷ []) ∷ (10 ∷ 0 ∷ 0 ∷ []) ∷ (0 ∷ 2 ∷ 3 ∷ []) ∷ (0 ∷ 0 ∷ 0 ∷ []) ∷ [])
unfolding wrote_in pair calls outline answered calls_of standalone block_returned block_restored marks_taken block_length block_fits marked line_count count_below bit
answered_7 = ap (map outline) (instance_isolated.answers 0 left_open) ∙ rw (wrote_7 blank_screen)

answered_200 : answered 200 ≡ ((0 ∷ 0 ∷ 0 ∷ []) ∷ (9 ∷ 0 ∷ 0 ∷ []) ∷ (0 ∷ 0 ∷ 0 ∷ []) ∷ (0 ∷ 2 ∷ 3 ∷ []) ∷ [])
unfolding wrote_in pair calls outline answered calls_of standalone block_returned block_restored marks_taken block_length block_fits marked line_count count_below bit
answered_200 = ap (map outline) (instance_isolated.answers 1 right_open) ∙ rw (wrote_200 blank_screen)

none_9 : Closed pair 9
unfolding pair free_slot slot_of has_client
none_9 i o e = both_ways _ refl ((decides_client pair 9).passes (i, o, e))

-- 0 never has an open slot
pub none_0 : (m : Multiplexer) → Closed m 0
none_0 m i o e = o.1 e

answered_9 : answered 9 ≡ ((8 ∷ 0 ∷ 0 ∷ []) ∷ (8 ∷ 0 ∷ 0 ∷ []) ∷ [])
unfolding calls outline answered calls_of
answered_9 = ap (map outline) (instance_isolated.answers_8 9 none_9)

answered_0 : answered 0 ≡ ((8 ∷ 0 ∷ 0 ∷ []) ∷ [])
unfolding calls outline answered calls_of
answered_0 = ap (map outline) (instance_isolated.answers_8 0 (none_0 pair))

-- the first cell of the left pane is as written, and that of the right one as restored
first_cell : get_or (serve_all serve pair blank_screen calls).screen 0 0 ≡ 0x81
unfolding wrote_in pair calls calls_of standalone block_returned block_restored marks_taken block_length block_fits edited_cell inside vacated
first_cell = instance_isolated.cells 0 left_open 0 (omega arith) ∙ rw (wrote_7 blank_screen) (edited_at (rect_of 0 0 0 0) Clear 0x81 blank_screen 0 (omega arith))

second_cell : get_or (serve_all serve pair blank_screen calls).screen 2 0 ≡ 10
unfolding wrote_in pair calls calls_of standalone block_returned block_restored marks_taken block_length block_fits block_place
second_cell =
    instance_isolated.cells 1 right_open 2 (omega arith)
    ∙ rw (wrote_200 blank_screen) (restored_inside right_pane (2 ∷ 2 ∷ 10 ∷ 11 ∷ 12 ∷ 13 ∷ []) _ 2 (omega arith) (omega arith))

-- the second half is not empty either: the calls of two clients, in either order
two_orders : (a b : Kind) → SameEnd serve pair blank_screen (call_by 7 a ∷ call_by 200 b ∷ []) (call_by 200 b ∷ call_by 7 a ∷ [])
two_orders a b = isolation.same_end pair blank_screen _ _ pair_valid blank_size same
  where
    swap : (t u : Bool) → (t ≡ true → u ≡ true → ⊥) → cond t (a ∷ cond u (b ∷ []) []) (cond u (b ∷ []) []) ≡ cond u (b ∷ cond t (a ∷ []) []) (cond t (a ∷ []) [])
    swap true true h = absurd (h refl refl)
    swap true false h = refl
    swap false true h = refl
    swap false false h = refl

    same : (n : ℕ) → calls_of n (call_by 7 a ∷ call_by 200 b ∷ []) ≡ calls_of n (call_by 200 b ∷ call_by 7 a ∷ [])
    same n = unfold calls_of in swap (eqb 7 n) (eqb 200 n) (λ e k. let x = eqb-true 7 n e in let y = eqb-true 200 n k in omega arith)
