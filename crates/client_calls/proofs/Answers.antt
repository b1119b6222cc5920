-- When each call by client gives each status. Assumes nothing.
use Prim.Native.Nat.{ℕ, ◌<◌}
use native.Mathlib.Omega.{arith}
use mathlib.Core.Path.{◌≡◌, refl, sym, ◌∙◌, subst}
use mathlib.Core.Logic.{⊎_elim}
use mathlib.Core.List.{List, [], ◌∷◌}
use lib.Dec.{leb}
use lib.ListN.{length}
use Rattle.std.proofs.lemmas.Bool.{cases_Bool, both_ways, cases_lt}
use Rattle.laws.proofs.Tests.{Decides, decides_le, decides_lt, decides_eq, decides_both, decides_as}
use Rattle.rectangle.specs.declared.Rect.{Rect}
use Rattle.rectangle.proofs.Rectangles.{decides_legal}
use Rattle.block.specs.Block.{block_length, block_fits}
use Rattle.reply.specs.declared.Status.{Status}
use Rattle.reply.specs.declared.Status.TheVariants.{Done, ScreenLength, Invalid, ClientZero, PaneIllegal, ClientTaken, PaneShared, Full, NotOpen, BlockTooShort, BlockMismatch}
use Rattle.reply.specs.Reply.{Reply}
use Rattle.reply.specs.Answers.{Exactly}
use Rattle.reply.proofs.Rules.{First, spared, refused_if, refused_unless, refused_not, answers_first}
use Rattle.reply.proofs.Rules.First.{none, here, later}
use Rattle.calls.specs.Calls.{PortReply, PortCall, written, block_returned, block_restored}
use Rattle.calls.specs.Taking.{none_taken, marks_taken}
use Rattle.slots.specs.declared.Multiplexer.{Multiplexer}
use Rattle.slots.specs.State.{slot_at, Open, Free, Closed, slot_of}
use Rattle.slots.specs.Valid.{ValidMultiplexer}
use Rattle.slots.proofs.Validity.{decides_multiplexer}
use Rattle.slots.proofs.Slots.{decides_client, slot_client, slot_found, slot_open}
use Rattle.calls.specs.Verdict.{first_of}
use Rattle.multiplexer.specs.Located.{multiplexer_verdict, claim_verdict, free_slot_for, open_slot, client_slot, claim_slot, located_on}
use Rattle.multiplexer.specs.Calls.{on_slot, on_client, write_call, return_call, restore_call, take_call, opened_at, open_call, closed_at, close_call}
use Rattle.multiplexer.proofs.Claims.{decides_pane_shared}
use Rattle.multiplexer.proofs.Replying.{slot_status, by_screen}
use Rattle.client_calls.specs.Laws.{viewport, Fits, Applies, Statuses, ValidStatuses, GoesTo, SlotStatuses}

decides_fits : (r : Rect) (block : List ℕ) → Decides (block_fits r block) (Fits r block)
unfolding block_fits
decides_fits r block =
    decides_as (decides_both (decides_eq _ _) (decides_both (decides_eq _ _) (decides_eq _ _))) (λ k. record { size = k.0; width = k.1.0; height = k.1.1 }) (λ h. (h.size, (h.width, h.height)))

decides_full : (m : Multiplexer) → Decides (leb 4 (slot_of m 0)) ((i : ℕ) → Free m i → ⊥)
decides_full m =
    decides_as (decides_le 4 (slot_of m 0)) (λ h i free. let room = slot_found m 0 i free.0 free.1 in omega arith)
    (λ full. ⊎_elim (λ h. absurd (full (slot_of m 0) (h, slot_client m 0 h))) (λ h. h) (cases_lt (slot_of m 0) 4))

-- the status of a reply
abbrev port_replied : PortReply → Status
port_replied x = x.status

module _ (m : Multiplexer) (s : List ℕ) (n : ℕ) (r : Rect) (block : List ℕ) where
  -- 9 and 10 are of the client's slot, which is one
  module _ (i : ℕ) (g : GoesTo m s n i) where
    of_slot : (Q : Rect → Type 0) → (j : ℕ) × Open m j × ((slot_at m j).client ≡ n) × Q (viewport m j) → Q (viewport m i)
    of_slot Q k = subst (λ (j : ℕ). Q (viewport m j)) (g.valid.clients k.0 i k.1 g.is_open (k.2 ∙ sym g.client)) k.3

    too_short : Applies m s n r block BlockTooShort → length block < block_length (viewport m i)
    too_short = of_slot (λ q. length block < block_length q)

    mismatched : Applies m s n r block BlockMismatch → Fits (viewport m i) block → ⊥
    mismatched = of_slot (λ q. Fits q block → ⊥)

  -- ---- the six calls
  -- a call for an open client: 2, 8, and then what the reply at its slot gives
  client_first : {Result : Type 0} (nothing : Result) (s' block' : List ℕ) (reply : ℕ → Reply Status Multiplexer Result) {xs : List Status}
      → (ValidMultiplexer m → (i : ℕ) → Open m i → (slot_at m i).client ≡ n → First Done (Applies m s n r block) (reply i).status xs)
      → First Done (Applies m s n r block) (slot_status nothing m s' block' reply (client_slot m n)) (Invalid ∷ NotOpen ∷ xs)
  unfolding multiplexer_verdict open_slot first_of on_slot
  client_first nothing s' block' reply rest =
      refused_unless (λ j. slot_status nothing m s' block' reply (first_of j (open_slot m n))) (decides_multiplexer m) (λ k. k) (λ p k. k p) refl λ v.
      refused_not (slot_status nothing m s' block' reply) (decides_client m n) (λ k i o e. k (i, o, e)) (λ k closed. closed k.0 k.1 k.2) refl λ k.
      rw (slot_open m v k.0 n k.1 k.2) (rest v k.0 k.1 k.2)

  -- a call on a client's port that takes a screen: 1 before the rest, and after it what the call on the port gives
  call_first : (call : PortCall) {xs : List Status} → ((i : ℕ) → GoesTo m s n i → First Done (Applies m s n r block) (call (slot_at m i).port s block).status xs)
      → First Done (Applies m s n r block) (on_client call (located_on (length s) (client_slot m n)) m s block).status (ScreenLength ∷ Invalid ∷ NotOpen ∷ xs)
  call_first call {xs} rest =
      by_screen 0 m s block _ (λ x. First Done (Applies m s n r block) x (ScreenLength ∷ Invalid ∷ NotOpen ∷ xs)) (client_slot m n) (λ no_screen. here no_screen refl)
      λ l. later (λ k. k l)
      (client_first 0 s block _ λ v i o e. rest i (record { valid = v; len = l; is_open = o; client = e }))

  write_first : First Done (Applies m s n r block) (write_call m s n block).status (ScreenLength ∷ Invalid ∷ NotOpen ∷ [])
  unfolding written
  write_first = call_first written (λ i g. none refl)

  return_first : First Done (Applies m s n r block) (return_call m s n block).status (ScreenLength ∷ Invalid ∷ NotOpen ∷ BlockTooShort ∷ [])
  unfolding block_returned
  return_first =
      call_first block_returned λ i g.
      refused_if port_replied (decides_as (decides_lt _ _) (λ h. (i, g.is_open, g.client, h)) (too_short i g)) refl λ _.
      none refl

  restore_first : First Done (Applies m s n r block) (restore_call m s n block).status (ScreenLength ∷ Invalid ∷ NotOpen ∷ BlockMismatch ∷ [])
  unfolding block_restored
  restore_first =
      call_first block_restored λ i g.
      refused_unless port_replied (decides_fits (viewport m i) block) (λ h. (i, g.is_open, g.client, h)) (λ h k. mismatched i g k h) refl λ _.
      none refl

  close_first : First Done (Applies m s n r block) (close_call m n).status (Invalid ∷ NotOpen ∷ [])
  close_first = client_first 0 [] [] (closed_at m) (λ v i o e. none refl)

  take_first : First Done (Applies m s n r block) (take_call m n).status (Invalid ∷ NotOpen ∷ [])
  unfolding marks_taken
  take_first = client_first none_taken [] [] _ (λ v i o e. none refl)

  claim_first : First Done (Applies m s n r block) (slot_status 0 m s [] (opened_at m s n r) (claim_slot m n r)) (Invalid ∷ ClientZero ∷ PaneIllegal ∷ ClientTaken ∷ PaneShared ∷ Full ∷ [])
  unfolding multiplexer_verdict claim_verdict free_slot_for first_of on_slot
  claim_first =
      let given = slot_status 0 m s [] (opened_at m s n r) in
      refused_unless (λ j. given (first_of j (first_of (claim_verdict n r) (free_slot_for m n r)))) (decides_multiplexer m) (λ k. k) (λ p k. k p) refl λ v.
      refused_if (λ j. given (first_of j (free_slot_for m n r))) (decides_eq n 0) refl λ _.
      refused_not (λ j. given (first_of j (free_slot_for m n r))) (decides_legal r) (λ k. k) (λ p k. k p) refl λ legal.
      refused_if given (decides_client m n) refl λ _.
      refused_if given (decides_pane_shared m v r legal) refl λ _.
      refused_if given (decides_full m) refl λ _.
      none refl

  open_first : First Done (Applies m s n r block) (open_call m s n r).status (ScreenLength ∷ Invalid ∷ ClientZero ∷ PaneIllegal ∷ ClientTaken ∷ PaneShared ∷ Full ∷ [])
  open_first =
      by_screen 0 m s [] (opened_at m s n r) (λ x. First Done (Applies m s n r block) x (ScreenLength ∷ Invalid ∷ ClientZero ∷ PaneIllegal ∷ ClientTaken ∷ PaneShared ∷ Full ∷ [])) (claim_slot m n r)
      (λ no_screen. here no_screen refl) (λ l. later (λ k. k l) claim_first)

  pub statuses : Statuses m s n r block
  statuses = record {
    opening = answers_first refl (omega arith) open_first;
    closing = answers_first refl (omega arith) close_first;
    writing = answers_first refl (omega arith) write_first;
    returning = answers_first refl (omega arith) return_first;
    restoring = answers_first refl (omega arith) restore_first;
    taking = answers_first refl (omega arith) take_first;
  }

  -- where 1 and 2 do not apply
  module _ (v : ValidMultiplexer m) (l : length s ≡ 1920) where
    with_screen : {given : Status} {xs : List Status} → First Done (Applies m s n r block) given (ScreenLength ∷ Invalid ∷ xs) → First Done (Applies m s n r block) given xs
    with_screen f = spared (λ k. k v) (spared (λ k. k l) f)

    pub valid_statuses : ValidStatuses m s n r block
    valid_statuses = record {
      opening = answers_first refl (omega arith) (with_screen open_first);
      closing = answers_first refl (omega arith) (spared (λ k. k v) close_first);
      writing = answers_first refl (omega arith) (with_screen write_first);
      returning = answers_first refl (omega arith) (with_screen return_first);
      restoring = answers_first refl (omega arith) (with_screen restore_first);
      taking = answers_first refl (omega arith) (spared (λ k. k v) take_first);
    }

-- ---- at an open slot
exactly_as : {given x : Status} {P Q : Type 0} → Exactly given x P → (P → Q) → (Q → P) → Exactly given x Q
exactly_as h f g = record { only_when = λ e. f (h.only_when e); whenever = λ q. h.whenever (g q) }

pub slot_statuses : (m : Multiplexer) (s : List ℕ) (n : ℕ) (block : List ℕ) (i : ℕ) → GoesTo m s n i → SlotStatuses m s n block i
slot_statuses m s n block i g =
    let r : Rect = viewport m i in
    let a = valid_statuses m s n r block g.valid g.len in
    let found : Closed m n → ⊥ = λ closed. closed i g.is_open g.client in
    record {
      close_done = a.closing.each.1.whenever (tt, found);
      take_done = a.taking.each.1.whenever (tt, found);
      write_done = a.writing.each.1.whenever (tt, found);
      return_done =
          exactly_as a.returning.each.1.1
          (λ k. ⊎_elim (λ h. absurd (k.1 (i, g.is_open, g.client, h))) (λ h. h) (cases_lt _ _))
          (λ h. ((tt, found), λ k. let l = too_short m s n r block i g k in omega arith));
      return_short = exactly_as a.returning.each.1.0 (λ k. too_short m s n r block i g k.1) (λ h. ((tt, found), (i, g.is_open, g.client, h)));
      restore_done =
          exactly_as a.restoring.each.1.1
          (λ k. ⊎_elim (decides_fits _ _).holds (λ h. absurd (k.1 (i, g.is_open, g.client, λ f. both_ways _ h ((decides_fits _ _).passes f)))) (cases_Bool _))
          (λ h. ((tt, found), λ k. mismatched m s n r block i g k h));
      restore_mismatch = exactly_as a.restoring.each.1.0 (λ k. mismatched m s n r block i g k.1) (λ h. ((tt, found), (i, g.is_open, g.client, h)));
    }
