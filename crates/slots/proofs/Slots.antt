-- Which slot a client has, and a multiplexer with another slot in a place: what reads as before, and when it is valid again. Assumes nothing.
use Prim.Native.Nat.{ℕ, suc, ◌<◌}
use native.Mathlib.Omega.{arith}
use mathlib.Core.Path.{◌≡◌, refl, sym, ◌∙◌, subst}
use mathlib.Core.Bool.{false}
use mathlib.Core.Logic.{◌⊎◌, inl, inr, ⊎_elim}
use lib.Dec.{eqb}
use lib.ListN.{length-set}
use lib.Seq.{get_or-set_same, get_or-set_other}
use borrow.Author.Tests.{eqb-true, eqb-false}
use Rattle.std.proofs.lemmas.Bool.{cases_Bool, both_ways, cases_lt}
use Rattle.laws.proofs.Tests.{by_test, Decides, decides_eq, decides_lt, decides_both, decides_as, decides_not}
use Rattle.rectangle.specs.Rectangles.{Legal, Apart}
use Rattle.rectangle.specs.declared.Rect.{Rect}
use Rattle.marks.specs.Marks.{no_marks, marked_in}
use Rattle.marks.proofs.Marking.{none_within, rect_within}
use Rattle.port.specs.State.{fresh_port}
use Rattle.port.specs.Valid.{ValidPort}
use Rattle.port.proofs.Validity.{fresh_valid, marks_valid}
use Rattle.slots.specs.declared.Slot.{Slot}
use Rattle.slots.specs.declared.Multiplexer.{Multiplexer}
use Rattle.slots.specs.State.{no_slot, fresh_slot, slot_at, pane, Open, slot_of, has_client, with_slot, Closed}
use Rattle.slots.specs.Valid.{ValidMultiplexer}
use Rattle.slots.proofs.Validity.{SlotFacts}

-- ---- the slot of a client
module _ (m : Multiplexer) (n : ℕ) where
  -- no slot before place k has the number
  Before : ℕ → Type 0
  Before k = (i : ℕ) → i < k → (slot_at m i).client ≡ n → ⊥

  before : (k : ℕ) → Before k → eqb (slot_at m k).client n ≡ false → Before (suc k)
  unfolding Before
  before k none t i h e =
      ⊎_elim (λ l. none i l e) (λ l. eqb-false _ _ t (subst (λ (x : ℕ). (slot_at m x).client ≡ n) (omega arith) e)) (cases_lt i k)

  -- place k is of the first slot with the number, or no slot has it
  Looked : ℕ → Type 0
  Looked k = Before k × (((k < 4) × ((slot_at m k).client ≡ n)) ⊎ (k ≡ 4))

  looked : Looked (slot_of m n)
  unfolding slot_of Looked Before
  looked =
      let none : Before 0 = λ i h. absurd (omega arith) in
      by_test Looked (eqb (slot_at m 0).client n) (λ e. (none, inl (omega arith, eqb-true _ _ e))) λ a.
      let b0 = before 0 none a in
      by_test Looked (eqb (slot_at m 1).client n) (λ e. (b0, inl (omega arith, eqb-true _ _ e))) λ b.
      let b1 = before 1 b0 b in
      by_test Looked (eqb (slot_at m 2).client n) (λ e. (b1, inl (omega arith, eqb-true _ _ e))) λ c.
      let b2 = before 2 b1 c in
      by_test Looked (eqb (slot_at m 3).client n) (λ e. (b2, inl (omega arith, eqb-true _ _ e))) λ d.
      (before 3 b2 d, inr refl)

  -- a place below 4 is of a slot with the number, the first one
  pub slot_client : slot_of m n < 4 → (slot_at m (slot_of m n)).client ≡ n
  unfolding Looked
  slot_client h = ⊎_elim (λ k. k.1) (λ k. absurd (omega arith)) looked.1

  pub slot_first : (i : ℕ) → i < slot_of m n → (slot_at m i).client ≡ n → ⊥
  unfolding Looked Before
  slot_first = looked.0

  pub slot_found : (i : ℕ) → i < 4 → (slot_at m i).client ≡ n → slot_of m n < 4
  unfolding Looked
  slot_found i h e = ⊎_elim (λ k. k.0) (λ k. absurd (slot_first i (omega arith) e)) looked.1

  -- 'no open seat has this number (0 never has)', or some open one has
  pub decides_client : Decides (has_client m n) ((i : ℕ) × Open m i × ((slot_at m i).client ≡ n))
  unfolding has_client
  decides_client =
      decides_as (decides_both (decides_not (decides_eq n 0)) (decides_lt (slot_of m n) 4))
      (λ k. (slot_of m n, (k.1, λ e. k.0 (sym (slot_client k.1) ∙ e)), slot_client k.1))
      (λ k. (λ e. k.1.1 (k.2 ∙ e), slot_found k.0 k.1.0 k.2))

  pub client? : ((i : ℕ) × Open m i × ((slot_at m i).client ≡ n)) ⊎ Closed m n
  client? = ⊎_elim (λ e. inl (decides_client.holds e)) (λ e. inr (λ i o k. both_ways _ e (decides_client.passes (i, o, k)))) (cases_Bool (has_client m n))

-- an open slot is the slot of its client
pub slot_open : (m : Multiplexer) → ValidMultiplexer m → (i n : ℕ) → Open m i → (slot_at m i).client ≡ n → slot_of m n ≡ i
slot_open m v i n o e =
    let h = slot_found m n i o.0 e in
    let k = slot_client m n h in
    v.clients (slot_of m n) i (h, λ z. o.1 (e ∙ sym k ∙ z)) o (k ∙ sym e)

-- ---- another slot in a place
module _ (m : Multiplexer) (v : ValidMultiplexer m) (i : ℕ) (small : i < 4) (x : Slot) where
  pub slot_set : slot_at (with_slot m i x) i ≡ x
  slot_set = get_or-set_same m.slots i x no_slot (rw v.four small)

  pub slot_kept : (j : ℕ) → (j ≡ i → ⊥) → slot_at (with_slot m i x) j ≡ slot_at m j
  slot_kept j n = get_or-set_other m.slots i j x no_slot n

  pub at_place : (j : ℕ) → ((j ≡ i) × (slot_at (with_slot m i x) j ≡ x)) ⊎ ((j ≡ i → ⊥) × (slot_at (with_slot m i x) j ≡ slot_at m j))
  at_place j =
      ⊎_elim (λ t. let e = eqb-true j i t in inl (e, rw e slot_set)) (λ t. inr (eqb-false j i t, slot_kept j (eqb-false j i t))) (cases_Bool (eqb j i))

  -- valid again: the new slot is valid, and where it is open, no other open slot has its client or shares a cell with it
  pub set_valid : SlotFacts x → ((j : ℕ) → (j ≡ i → ⊥) → Open m j → (x.client ≡ 0 → ⊥) → ((slot_at m j).client ≡ x.client → ⊥) × Apart (pane m j) x.port.home) → ValidMultiplexer (with_slot m i x)
  set_valid facts fits =
      record {
        four = length-set m.slots i x ∙ v.four;
        ports = λ j o. ⊎_elim (λ k. rw k.1 (facts.1 (rw k.1 at o.1))) (λ k. rw k.1 (v.ports j (o.0, rw k.1 at o.1))) (at_place j);
        clients = λ j k o u e. ⊎_elim
            (λ a. ⊎_elim
            (λ b. a.0 ∙ sym b.0)
            (λ b. absurd ((fits k b.0 (u.0, rw b.1 at u.1) (rw a.1 at o.1)).0 (sym (rw (a.1, b.1) at e))))
            (at_place k))
            (λ a. ⊎_elim
            (λ b. absurd ((fits j a.0 (o.0, rw a.1 at o.1) (rw b.1 at u.1)).0 (rw (a.1, b.1) at e)))
            (λ b. v.clients j k (o.0, rw a.1 at o.1) (u.0, rw b.1 at u.1) (rw (a.1, b.1) at e))
            (at_place k))
            (at_place j);
        panes = λ j k o u n c f g. ⊎_elim
            (λ a. ⊎_elim
            (λ b. absurd (n (a.0 ∙ sym b.0)))
            (λ b. (fits k b.0 (u.0, rw b.1 at u.1) (rw a.1 at o.1)).1 c (rw (b.1, pane) at g) (rw (a.1, pane) at f))
            (at_place k))
            (λ a. ⊎_elim
            (λ b. (fits j a.0 (o.0, rw a.1 at o.1) (rw b.1 at u.1)).1 c (rw (a.1, pane) at f) (rw (b.1, pane) at g))
            (λ b. v.panes j k (o.0, rw a.1 at o.1) (u.0, rw b.1 at u.1) n c (rw (a.1, pane) at f) (rw (b.1, pane) at g))
            (at_place k))
            (at_place j);
        free = λ j z. ⊎_elim (λ k. rw k.1 (facts.0 (rw k.1 at z.1))) (λ k. rw k.1 (v.free j (z.0, rw k.1 at z.1))) (at_place j);
      }

-- ---- a slot just opened
pub opened_valid : (n : ℕ) (r : Rect) → Legal r → ValidPort (fresh_slot n r).port
opened_valid n r l = marks_valid (fresh_port r) (fresh_valid r l) (marked_in no_marks r) (rect_within no_marks r r (omega arith) (omega arith) (none_within r))
