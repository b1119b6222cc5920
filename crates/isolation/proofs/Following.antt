-- One open slot against its standalone console, by induction over the list of calls. Assumes nothing.
use Prim.Native.Nat.{ℕ, ◌<◌}
use mathlib.Core.Path.{◌≡◌, refl, sym, ap, ap₂, ◌∙◌}
use mathlib.Core.Logic.{⊎_elim}
use mathlib.Core.List.{List, [], ◌∷◌}
use lib.Dec.{eqb}
use lib.ListN.{length}
use borrow.Author.Tests.{eqb-true, eqb-false}
use Rattle.std.proofs.lemmas.Bool.{cases_Bool}
use Rattle.rectangle.specs.Local.{Agree}
use Rattle.port.specs.declared.Port.{Port}
use Rattle.port.specs.Valid.{ValidPort}
use Rattle.reply.specs.Numbers.{status_number}
use Rattle.slots.specs.declared.Slot.{Slot}
use Rattle.slots.specs.declared.Multiplexer.{Multiplexer}
use Rattle.slots.specs.State.{slot_at, pane, Open}
use Rattle.slots.specs.Valid.{ValidMultiplexer}
use Rattle.slots.proofs.Slots.{slot_set}
use Rattle.client_calls.specs.Serve.{CallReply, Call, call_on_port, serve}
use Rattle.isolation.specs.Isolation.{answer_from, serve_all, standalone, calls_of, answers_to}
use Rattle.client_calls.proofs.Consoles.{keeps_call, alike_call}
use Rattle.client_calls.proofs.Serving.{goes_to, frame}

-- ---- one open slot against its standalone console
module _ (i n : ℕ) (small : i < 4) (is_open : n ≡ 0 → ⊥) where
  -- after the calls, the slot, its pane's cells and the answers to its calls are the console's
  pub record Follows (m : Multiplexer) (s : List ℕ) (p : Port) (t : List ℕ) (cs : List Call) : Type 0 where
    pub slot : slot_at (serve_all serve m s cs).multiplexer i ≡ record { client = n; port = (standalone p t (calls_of n cs)).port }
    pub cells : Agree p.home (serve_all serve m s cs).screen (standalone p t (calls_of n cs)).screen
    pub answers : answers_to n cs (serve_all serve m s cs).answers ≡ (standalone p t (calls_of n cs)).answers

  -- one call, at a multiplexer and a screen where the slot and its console are alike
  module _ (c : Call) (m : Multiplexer) (s : List ℕ) (p : Port) (t : List ℕ) (v : ValidMultiplexer m) (ls : length s ≡ 1920) (lt : length t ≡ 1920)
      (e : slot_at m i ≡ record { client = n; port = p }) (a : Agree p.home s t) where
    here : Open m i
    here = (small, rw e is_open)

    port_valid : ValidPort p
    port_valid = rw e at (v.ports i here)

    reply : CallReply Port
    reply = call_on_port c.kind p t

    record Own : Type 0 where
      slot : slot_at (serve m s c).state i ≡ record { client = n; port = reply.state }
      cells : Agree p.home (serve m s c).screen reply.screen
      answer : answer_from (serve m s c) ≡ answer_from reply

    -- a call of this client
    own : c.client ≡ n → Own
    unfolding reply
    own q =
        let b = alike_call p port_valid c.kind s t ls lt a in
        let o = goes_to m s c v ls i here (rw e (sym q)) in
        record {
          slot = rw (o, e) (slot_set m v i small _ ∙ λ k. record { client = n; port = b.state k });
          cells = rw (o, e) b.cells;
          answer = rw (o, e) (λ k. record { number = status_number (b.status k); count = (b.result k).count; marks = (b.result k).marks; block = b.block k });
        }

    -- a call of another
    other : (c.client ≡ n → ⊥) → (slot_at (serve m s c).state i ≡ record { client = n; port = p }) × Agree p.home (serve m s c).screen t
    other q =
        let f = frame m s c v ls in
        let client : (slot_at m i).client ≡ n = ap (λ (x : Slot). x.client) e in (
          f.slots i (λ o r. q (sym r ∙ client)) ∙ e,
          λ j h. f.cells j (λ k o r x. v.panes i k here o (λ z. q (sym r ∙ ap (λ (y : ℕ). (slot_at m y).client) (sym z) ∙ client)) j (rw (e, pane) h) x) ∙ a j h,
        )

  pub follows : (cs : List Call) (m : Multiplexer) (s : List ℕ) (p : Port) (t : List ℕ) → ValidMultiplexer m → length s ≡ 1920 → length t ≡ 1920
      → slot_at m i ≡ record { client = n; port = p } → Agree p.home s t → Follows m s p t cs
  unfolding serve_all standalone calls_of answers_to reply
  follows [] m s p t v ls lt e a = record { slot = e; cells = a; answers = refl }
  follows (c ∷ cs) m s p t v ls lt e a =
      let f = frame m s c v ls in
      ⊎_elim
      (λ q. let o = own c m s p t v ls lt e a (eqb-true _ _ q) in
      let b = keeps_call p (port_valid c m s p t v ls lt e a) c.kind t lt in
      let r = follows cs (serve m s c).state (serve m s c).screen _ _ f.valid f.len b.len o.slot (rw b.home o.cells) in
      record { slot = rw q r.slot; cells = rw q (λ k x. r.cells k (rw b.home x)); answers = rw q (ap₂ ◌∷◌ o.answer r.answers) })
      (λ q. let o = other c m s p t v ls lt e a (eqb-false _ _ q) in
      let r = follows cs (serve m s c).state (serve m s c).screen p t f.valid f.len lt o.0 o.1 in
      record { slot = rw q r.slot; cells = rw q r.cells; answers = rw q r.answers })
      (cases_Bool (eqb c.client n))
