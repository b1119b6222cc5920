-- What an opening leaves, and that every opening leaves a valid multiplexer valid. Assumes nothing.
use Prim.Native.Nat.{ℕ, ◌<◌}
use native.Mathlib.Omega.{arith}
use mathlib.Core.Path.{◌≡◌, refl, ◌∙◌}
use mathlib.Core.List.{List, []}
use lib.ListN.{length, get_or}
use Rattle.rectangle.specs.declared.Rect.{Rect}
use Rattle.rectangle.specs.declared.Motion.TheVariants.{Clear}
use Rattle.rectangle.specs.Cells.{Inside}
use Rattle.rectangle.proofs.Edits.{cell_vacated}
use Rattle.rectangle.proofs.Local.{edited_at, edit_local}
use Rattle.calls.proofs.Refusals.{Unchanged}
use Rattle.slots.specs.declared.Multiplexer.{Multiplexer}
use Rattle.slots.specs.State.{slot_at, Open, slot_of, fresh_slot}
use Rattle.slots.specs.Valid.{ValidMultiplexer}
use Rattle.slots.proofs.Slots.{opened_valid, slot_client, slot_first, slot_set, slot_kept, set_valid}
use Rattle.multiplexer.specs.Located.{claim_slot}
use Rattle.multiplexer.specs.Calls.{MultiplexerReply, opened_at, open_call}
use Rattle.multiplexer.proofs.Claims.{Claims, claims, claims_lowest}
use Rattle.multiplexer.proofs.Replying.{located_on_lem, located_at, at_slot, by_slot}

pub record Opening (m : Multiplexer) (s : List ℕ) (n : ℕ) (r : Rect) (reply : MultiplexerReply) : Type 0 where
  pub valid : ValidMultiplexer reply.state
  -- 'takes the lowest free seat' ..
  pub was_free : (slot_at m (slot_of m 0)).client ≡ 0
  pub lowest : (i : ℕ) → i < slot_of m 0 → Open m i
  -- .. 'starts a fresh port' there, with 'the pane's lines' marked ..
  pub slot : slot_at reply.state (slot_of m 0) ≡ fresh_slot n r
  pub others : (i : ℕ) → (i ≡ slot_of m 0 → ⊥) → slot_at reply.state i ≡ slot_at m i
  -- .. 'and blanks the pane'
  pub len : length reply.screen ≡ 1920
  pub blank : (k : ℕ) → Inside r k → get_or reply.screen k 0 ≡ 0xa0
  pub outside : (k : ℕ) → (Inside r k → ⊥) → get_or reply.screen k 0 ≡ get_or s k 0

-- an opening on 1,920 cells that none of 2 to 7 refuses
pub opens : (m : Multiplexer) (s : List ℕ) (n : ℕ) (r : Rect) → length s ≡ 1920 → Claims m n r → open_call m s n r ≡ opened_at m s n r (slot_of m 0)
opens m s n r len o = at_slot 0 m s [] (opened_at m s n r) _ (slot_of m 0) (located_on_lem s (claim_slot m n r) len ∙ claims_lowest m n r o)

pub opened_leaves : (m : Multiplexer) (s : List ℕ) (n : ℕ) (r : Rect) → length s ≡ 1920 → Claims m n r → Opening m s n r (open_call m s n r)
opened_leaves m s n r len o =
    let v = o.valid in
    let l = o.legal in
    let e = edit_local r r Clear 0xa0 (omega arith) l.right_in l.bottom_in in
    rw (opens m s n r len o)
    (record {
      valid =
          set_valid m v (slot_of m 0) o.room (fresh_slot n r) (λ z. absurd (o.not_zero z), λ _. opened_valid n r l)
          (λ i _ u _. (o.new i u, o.apart i u));
      was_free = slot_client m 0 o.room;
      lowest = λ i h. (let k = o.room in omega arith, slot_first m 0 i h);
      slot = slot_set m v (slot_of m 0) o.room (fresh_slot n r);
      others = slot_kept m v (slot_of m 0) o.room (fresh_slot n r);
      len = e.len s len;
      blank = λ k x. edited_at r Clear 0xa0 s k (omega arith) ∙ cell_vacated r Clear 0xa0 _ k x tt;
      outside = e.outside s len;
    })

-- an opening that is refused changes nothing
pub open_refuses : (m : Multiplexer) (s : List ℕ) (n : ℕ) (r : Rect) → Unchanged m s [] (open_call m s n r)
open_refuses m s n r = by_slot 0 m s [] (opened_at m s n r) (Unchanged m s []) _ (λ status _ e. refl) (λ i _ e. absurd (e refl))

-- every opening, refused or not, leaves a valid multiplexer
pub open_valid : (m : Multiplexer) (s : List ℕ) (n : ℕ) (r : Rect) → ValidMultiplexer m → ValidMultiplexer (open_call m s n r).state
open_valid m s n r v =
    by_slot 0 m s [] (opened_at m s n r) (λ (x : MultiplexerReply). ValidMultiplexer x.state) _ (λ status _. v)
    (λ i k. let a = located_at s (claim_slot m n r) i k in
    let c = claims m n r i a.1 in
    rw c.1 (rw (opens m s n r a.0 c.0) at (opened_leaves m s n r a.0 c.0).valid))
