-- Bytes that are fed to a session in several calls are fed in one write of them all, by the cut law. Assumes nothing.
use Rattle.std.proofs.Common.{◌≡◌, ℕ, ◌+◌, ◌%◌, ◌^◌, ◌<◌, ◌≤◌, List, [], ◌∷◌, ◌++◌, length, get_or, drop, sym, refl, ap, ◌∙◌, subst, add_assoc, append_assoc, append-nil, length-append, length-drop, add-one, arith}
use Rattle.std.proofs.Math.Seq.{drop-cons}
use native.Mathlib.Nat.{mod-add-mod}
use Rattle.port.specs.declared.Port.{Port}
use Rattle.reply.specs.declared.Status.{Status}
use Rattle.reply.specs.Reply.{Replies}
use Rattle.calls.specs.Calls.{PortReply}
use Rattle.console.specs.Calls.{write_call}
use Rattle.console.proofs.Cut.{write_cut}
use Rattle.session.specs.declared.Session.{Session}
use Rattle.session.specs.Session.{after, Fed, FedIfAny}

-- a call that replied as a plain write does
fed : (at next : Session) (s bytes t : List ℕ) {status : Status} {port : Port} {count : ℕ} → Replies (write_call at.port s bytes) status port count t bytes → next ≡ after at status port count
    → Fed at s bytes next t
fed at next s bytes t r e = record { session = rw (r.status_is, r.state_is, r.result_is) at e; cells = r.cells }

same_after : {x y : Status} {p q : Port} {m n : ℕ} → x ≡ y → p ≡ q → m ≡ n → ◌≡◌ {A = Session} (record { port = p; bells = m; status = x }) (record { port = q; bells = n; status = y })
same_after e f g = rw (e, f, g)

module _ (at mid next : Session) (s a s₁ b t : List ℕ) where
  -- the two writes, and the one of both
  abbrev one : PortReply
  one = write_call at.port s a

  abbrev two : PortReply
  two = write_call one.state one.screen b

  abbrev both : PortReply
  both = write_call at.port s (a ++ b)

  -- the bells of the first write, and then some more
  bells_more : Fed at s a mid s₁ → (n : ℕ) → (mid.bells + n) % 2 ^ 64 ≡ (at.bells + (one.result + n)) % 2 ^ 64
  bells_more f n =
      ap (λ (x : Session). (x.bells + n) % 2 ^ 64) f.session ∙ mod-add-mod (at.bells + one.result) (2 ^ 64) n ∙ ap (λ (k : ℕ). k % 2 ^ 64) (add_assoc at.bells one.result n)

  fed_both : Fed at s a mid s₁ → Fed mid s₁ b next t → Fed at s (a ++ b) next t
  fed_both f g =
      let cut = write_cut at.port s a b in
      let w : PortReply = write_call mid.port s₁ b in
      let is : w ≡ two = rw (ap (λ (x : Session). x.port) f.session, f.cells) in
      let counts = ap (λ (r : PortReply). one.result + r.result) is ∙ cut.count in
      record {
        session = g.session
            ∙ same_after (ap (λ (r : PortReply). r.status) is ∙ cut.second_status) (ap (λ (r : PortReply). r.state) is ∙ cut.state)
            (bells_more f w.result ∙ ap (λ (n : ℕ). (at.bells + n) % 2 ^ 64) counts);
        cells = g.cells ∙ ap (λ (r : PortReply). r.screen) is ∙ cut.screen;
      }

-- after calls of which there may have been none
fed_next : (at mid next : Session) (s a s₁ b t : List ℕ) → FedIfAny at s a mid s₁ → Fed mid s₁ b next t → Fed at s (a ++ b) next t
fed_next at mid next s [] s₁ b t f g = subst (λ (x : Session). Fed x s b next t) f.0 (subst (λ (x : List ℕ). Fed mid x b next t) f.1 g)
fed_next at mid next s (c ∷ cs) s₁ b t f g = fed_both at mid next s (c ∷ cs) s₁ b t f g

-- some bytes
some_fed : (at next : Session) (s bytes t : List ℕ) → 0 < length bytes → Fed at s bytes next t → FedIfAny at s bytes next t
some_fed at next s [] t some f = absurd (omega arith)
some_fed at next s (b ∷ bs) t some f = f

fed_some : (at next : Session) (s bytes t : List ℕ) → 0 < length bytes → FedIfAny at s bytes next t → Fed at s bytes next t
fed_some at next s [] t some f = absurd (omega arith)
fed_some at next s (b ∷ bs) t some f = f

none_left : (front rest : List ℕ) → length rest ≡ 0 → front ≡ front ++ rest
none_left front [] none = sym (append-nil front)
none_left front (b ∷ bs) none = absurd (omega arith)

-- ---- the loops: of bytes those in front of `rest` are fed, and the session that was at is mid, on the cells s₁
pub record Feeding (at : Session) (s bytes rest : List ℕ) (mid : Session) (s₁ : List ℕ) : Type 0 where
  pub front : List ℕ
  pub whole : bytes ≡ front ++ rest
  pub len : length s₁ ≡ length s
  pub fed_so_far : FedIfAny at s front mid s₁

module _ (at : Session) (s bytes : List ℕ) where
  pub feeding_starts : Feeding at s bytes bytes at s
  feeding_starts = record { front = []; whole = refl; len = refl; fed_so_far = (refl, refl) }

  module _ {rest : List ℕ} {mid : Session} {s₁ : List ℕ} (r : Feeding at s bytes rest mid s₁) where
    -- a piece more
    pub piece_more : (piece left : List ℕ) (next : Session) (t : List ℕ) → 0 < length piece → rest ≡ piece ++ left → length t ≡ length s₁ → Fed mid s₁ piece next t → Feeding at s bytes left next t
    piece_more piece left next t some is len f = record {
      front = r.front ++ piece;
      whole = r.whole ∙ ap (λ (x : List ℕ). r.front ++ x) is ∙ sym (append_assoc r.front piece left);
      len = len ∙ r.len;
      fed_so_far = some_fed at next s (r.front ++ piece) t (simp length-append (omega arith)) (fed_next at mid next s r.front s₁ piece t r.fed_so_far f);
    }

    -- none is left
    pub bytes_end : length rest ≡ 0 → FedIfAny at s bytes mid s₁
    bytes_end none = subst (λ (x : List ℕ). FedIfAny at s x mid s₁) (none_left r.front rest none ∙ sym r.whole) r.fed_so_far

    pub pieces_end : 0 < length bytes → length rest ≡ 0 → Fed at s bytes mid s₁
    pieces_end some none = fed_some at mid s bytes s₁ some (bytes_end none)

  -- byte after byte: none is left
  pub bytes_over : {i : ℕ} {mid : Session} {s₁ : List ℕ} → Feeding at s bytes (drop i bytes) mid s₁ → length bytes ≤ i → FedIfAny at s bytes mid s₁
  bytes_over {i} r over = bytes_end r (simp length-drop (omega arith))

  -- a byte more
  pub byte_more : {i : ℕ} {mid : Session} {s₁ : List ℕ} → Feeding at s bytes (drop i bytes) mid s₁ → {status : Status} {port : Port} {count : ℕ} (next : Session) (t : List ℕ) → i < length bytes → length t ≡ length s₁
      → Replies (write_call mid.port s₁ (get_or bytes i 0 ∷ [])) status port count t (get_or bytes i 0 ∷ []) → next ≡ after mid status port count
      → Feeding at s bytes (drop (i + 1) bytes) next t
  byte_more {i} {mid} {s₁} r next t more len h e =
      piece_more r (get_or bytes i 0 ∷ []) (drop (i + 1) bytes) next t (omega arith) (rw add-one (drop-cons bytes i 0 more)) len (fed mid next s₁ (get_or bytes i 0 ∷ []) t h e)
