-- Demand 3, proved: by induction over the list of calls, from one call's frame. Assumes nothing.
use Prim.Native.Nat.{ℕ, zero, suc, ◌<◌}
use native.Mathlib.Omega.{arith}
use mathlib.Core.Path.{◌≡◌, refl, sym, ap, ap₂, ◌∙◌, subst}
use mathlib.Core.Bool.{true}
use mathlib.Core.Logic.{◌⊎◌, inl, inr, ⊎_elim}
use mathlib.Core.List.{List, [], ◌∷◌, ◌++◌, map}
use lib.Dec.{eqb}
use lib.ListN.{length, get_or}
use lib.Seq.{ext_get_or}
use borrow.Author.Tests.{eqb-true, eqb-false, eq-eqb}
use Rattle.std.proofs.lemmas.Bool.{cases_Bool, cases_lt}
use Rattle.rectangle.specs.Cells.{Inside}
use Rattle.rectangle.proofs.Edits.{inside?}
use Rattle.slots.specs.declared.Slot.{Slot}
use Rattle.slots.specs.declared.Multiplexer.{Multiplexer}
use Rattle.slots.specs.State.{no_slot, slot_at, pane, Open, Closed}
use Rattle.slots.specs.Valid.{valid_multiplexer, ValidMultiplexer}
use Rattle.slots.proofs.Validity.{decides_multiplexer}
use Rattle.slots.proofs.Slots.{client?}
use Rattle.client_calls.specs.Serve.{CallReply, Call, Server, serve}
use Rattle.isolation.specs.Isolation.{answer_from, serve_all, calls_of, answers_to, not_open, Isolated, Isolation}
use Rattle.isolation.proofs.Following.{Follows, follows}
use Rattle.client_calls.proofs.Serving.{SameLabels, turned_away, frame}

-- ---- what no call changes
module _ (a b : Multiplexer) (same : SameLabels a b) where
  open_same : (i : ℕ) → Open a i → Open b i
  open_same i o = (o.0, λ e. o.1 (same.client i ∙ e))

  closed_same : (n : ℕ) → Closed b n → Closed a n
  closed_same n h i o e = h i (open_same i o) (sym (same.client i) ∙ e)

record Stays (m : Multiplexer) (s : List ℕ) (cs : List Call) : Type 0 where
  valid : ValidMultiplexer (serve_all serve m s cs).multiplexer
  len : length (serve_all serve m s cs).screen ≡ 1920
  labels : SameLabels (serve_all serve m s cs).multiplexer m
  each_answered : length (serve_all serve m s cs).answers ≡ length cs
  free : (i : ℕ) → (slot_at m i).client ≡ 0 → slot_at (serve_all serve m s cs).multiplexer i ≡ slot_at m i
  outside : (k : ℕ) → ((i : ℕ) → Open m i → Inside (pane m i) k → ⊥) → get_or (serve_all serve m s cs).screen k 0 ≡ get_or s k 0
  answers_8 : (n : ℕ) → Closed m n → answers_to n cs (serve_all serve m s cs).answers ≡ map not_open (calls_of n cs)

stays : (cs : List Call) (m : Multiplexer) (s : List ℕ) → ValidMultiplexer m → length s ≡ 1920 → Stays m s cs
unfolding serve_all calls_of answers_to
stays [] m s v l =
    record { valid = v; len = l; labels = record { client = λ i. refl; home = λ i. refl }; each_answered = refl; free = λ i e. refl; outside = λ k h. refl; answers_8 = λ n h. refl }
stays (c ∷ cs) m s v l =
    let f = frame m s c v l in
    let next = (serve m s c).state in
    let rest = stays cs next (serve m s c).screen f.valid f.len in
    record {
      valid = rest.valid;
      len = rest.len;
      labels = record { client = λ i. rest.labels.client i ∙ f.labels.client i; home = λ i. rest.labels.home i ∙ f.labels.home i };
      each_answered = ap suc rest.each_answered;
      free = λ i e. rest.free i (f.labels.client i ∙ e) ∙ f.slots i (λ o _. o.1 e);
      outside = λ k h. rest.outside k (λ i o x. h i (open_same next m f.labels i o) (subst (λ r. Inside r k) (f.labels.home i) x)) ∙ f.cells k (λ i o _. h i o);
      answers_8 = λ n h.
          let others = rest.answers_8 n (closed_same next m f.labels n h) in
          ⊎_elim
          (λ q. rw q (ap₂ ◌∷◌ (ap answer_from (turned_away m s c v l (rw (eqb-true c.client n q) h))) others))
          (λ q. rw q others)
          (cases_Bool (eqb c.client n));
    }

-- one call more at the end
record More (m : Multiplexer) (s : List ℕ) (cs : List Call) (c : Call) : Type 0 where
  multiplexer : (serve_all serve m s (cs ++ (c ∷ []))).multiplexer ≡ (serve (serve_all serve m s cs).multiplexer (serve_all serve m s cs).screen c).state
  screen : (serve_all serve m s (cs ++ (c ∷ []))).screen ≡ (serve (serve_all serve m s cs).multiplexer (serve_all serve m s cs).screen c).screen

more : (cs : List Call) (m : Multiplexer) (s : List ℕ) (c : Call) → More m s cs c
unfolding serve_all
more [] m s c = record { multiplexer = refl; screen = refl }
more (x ∷ cs) m s c =
    let rest = more cs (serve m s x).state (serve m s x).screen c in
    record { multiplexer = rest.multiplexer; screen = rest.screen }

each_isolated : (m : Multiplexer) (s : List ℕ) (cs : List Call) → valid_multiplexer m ≡ true → length s ≡ 1920 → Isolated serve m s cs
each_isolated m s cs valid l =
    let v = (decides_multiplexer m).holds valid in
    let k = stays cs m s v l in
    let own : (i : ℕ) (o : Open m i) → Follows i (slot_at m i).client o.0 o.1 m s (slot_at m i).port s cs =
    λ i o. follows i (slot_at m i).client o.0 o.1 cs m s (slot_at m i).port s v l l refl (λ j h. refl) in
    record {
      cells = λ i o. (own i o).cells;
      ports = λ i o. (own i o).slot;
      answers = λ i o. (own i o).answers;
      each_answered = k.each_answered;
      answers_8 = k.answers_8;
      changes_nothing = λ before after c _ h.
          let q = stays before m s v l in
          let end = serve_all serve m s before in
          let t = turned_away end.multiplexer end.screen c q.valid q.len (closed_same end.multiplexer m q.labels c.client h) in
          ((more before m s c).multiplexer ∙ ap (λ (r : CallReply Multiplexer). r.state) t, (more before m s c).screen ∙ ap (λ (r : CallReply Multiplexer). r.screen) t);
      outside = k.outside;
      free = λ i z. k.free i z.1;
      still_valid = (decides_multiplexer _).passes k.valid;
      still_long = k.len;
    }

-- ---- two lists with the same calls for each client
-- some number below n has a property that can be tried, or none has
first_below : (P : ℕ → Type 0) → ((i : ℕ) → P i ⊎ (P i → ⊥)) → (n : ℕ) → ((i : ℕ) × (i < n) × P i) ⊎ ((i : ℕ) → i < n → P i → ⊥)
first_below P try zero = inr (λ i h. absurd (omega arith))
first_below P try (suc n) =
    ⊎_elim (λ p. inl (n, omega arith, p))
    (λ none. ⊎_elim (λ k. inl (k.0, (let h = k.1 in omega arith), k.2))
    (λ below. inr (λ i h p. ⊎_elim (λ l. below i l p) (λ l. none (subst P (omega arith) p)) (cases_lt i n)))
    (first_below P try n))
    (try n)

-- a cell lies in some open pane, or in none
pub pane? : (m : Multiplexer) (k : ℕ) → ((i : ℕ) × Open m i × Inside (pane m i) k) ⊎ ((i : ℕ) → Open m i → Inside (pane m i) k → ⊥)
pane? m k =
    ⊎_elim (λ p. inl (p.0, (p.1, p.2.0), p.2.1)) (λ none. inr (λ i o x. none i o.0 (o.1, x)))
    (first_below (λ i. ((slot_at m i).client ≡ 0 → ⊥) × Inside (pane m i) k)
    (λ i. ⊎_elim (λ e. inr (λ p. p.0 (eqb-true _ _ e)))
    (λ e. ⊎_elim (λ x. inl (eqb-false _ _ e, x)) (λ out. inr (λ p. out p.1)) (inside? (pane m i) k))
    (cases_Bool (eqb (slot_at m i).client 0)))
    4)

-- what two servers leave that are both isolated
module _ (f g : Server) (m : Multiplexer) (s : List ℕ) (cs ds : List Call) (a : Isolated f m s cs) (b : Isolated g m s ds)
    (e : (n : ℕ) → calls_of n cs ≡ calls_of n ds) where
  ends_multiplexer : (serve_all f m s cs).multiplexer ≡ (serve_all g m s ds).multiplexer
  ends_multiplexer =
      let j = ((decides_multiplexer _).holds a.still_valid).four in
      let k = ((decides_multiplexer _).holds b.still_valid).four in
      ap (λ (xs : List Slot). record { slots = xs })
      (ext_get_or no_slot (serve_all f m s cs).multiplexer.slots (serve_all g m s ds).multiplexer.slots (j ∙ sym k)
      (λ i h. let h' : i < 4 = rw j at h in
      ⊎_elim (λ z. a.free i (h', eqb-true _ _ z) ∙ sym (b.free i (h', eqb-true _ _ z)))
      (λ z. let o : Open m i = (h', eqb-false _ _ z) in a.ports i o ∙ rw (e (slot_at m i).client) (sym (b.ports i o)))
      (cases_Bool (eqb (slot_at m i).client 0))))

  ends_screen : (serve_all f m s cs).screen ≡ (serve_all g m s ds).screen
  ends_screen =
      ext_get_or 0 (serve_all f m s cs).screen (serve_all g m s ds).screen (a.still_long ∙ sym b.still_long)
      (λ i h. ⊎_elim
      (λ p. a.cells p.0 p.1 i p.2 ∙ rw (e (slot_at m p.0).client) (sym (b.cells p.0 p.1 i p.2)))
      (λ none. a.outside i none ∙ sym (b.outside i none))
      (pane? m i))

  ends_answers : (n : ℕ) → answers_to n cs (serve_all f m s cs).answers ≡ answers_to n ds (serve_all g m s ds).answers
  ends_answers n =
      ⊎_elim
      (λ p. subst (λ (x : ℕ). answers_to x cs (serve_all f m s cs).answers ≡ answers_to x ds (serve_all g m s ds).answers) p.2
      (a.answers p.0 p.1 ∙ rw (e (slot_at m p.0).client) (sym (b.answers p.0 p.1))))
      (λ closed. a.answers_8 n closed ∙ rw (e n) (sym (b.answers_8 n closed)))
      (client? m n)

-- demand 3
pub isolation : Isolation serve
isolation = record {
  isolated = each_isolated;
  same_end = λ m s cs ds v l e.
      let a = each_isolated m s cs v l in
      let b = each_isolated m s ds v l in
      record { multiplexer = ends_multiplexer serve serve m s cs ds a b e; screen = ends_screen serve serve m s cs ds a b e; answers = ends_answers serve serve m s cs ds a b e };
}

-- no other server meets it: on a valid multiplexer and 1,920 cells it does what `serve` does
pub record Serves (r q : CallReply Multiplexer) : Type 0 where
  pub state : r.state ≡ q.state
  pub screen : r.screen ≡ q.screen
  pub answer : answer_from r ≡ answer_from q

pub only_serve : (f : Server) → Isolation f → (m : Multiplexer) (s : List ℕ) (c : Call) → valid_multiplexer m ≡ true → length s ≡ 1920 → Serves (f m s c) (serve m s c)
unfolding serve_all answers_to
only_serve f d m s c v l =
    let cs : List Call = c ∷ [] in
    let a = d.isolated m s cs v l in
    let b = each_isolated m s cs v l in
    let one : answer_from (f m s c) ∷ [] ≡ answer_from (serve m s c) ∷ [] = rw (eq-eqb c.client c.client refl) at (ends_answers f serve m s cs cs a b (λ n. refl) c.client) in
    record {
      state = ends_multiplexer f serve m s cs cs a b (λ n. refl);
      screen = ends_screen f serve m s cs cs a b (λ n. refl);
      answer = cc;
    }
