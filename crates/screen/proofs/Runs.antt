-- The laws of `RunStored`: how a run of codes starts, and grows by one at its end. Assumes nothing.
use Prim.Native.Nat.{ℕ, ◌+◌, ◌*◌, ◌≤◌, ◌<◌, min}
use mathlib.Core.Path.{◌≡◌, refl, sym, ◌∙◌}
use mathlib.Core.List.{List, [], ◌∷◌, ◌++◌}
use native.Mathlib.Nat.{add-zero}
use native.Mathlib.Numerals.{add-one}
use native.Mathlib.Omega.{arith}
use lib.ListN.{length, get_or, take, set}
use lib.Seq.{take-suc, length-take-le, take-take}
use Rattle.rectangle.specs.declared.Motion.TheVariants.{Clear}
use Rattle.rectangle.specs.Rectangles.{cell_at}
use Rattle.rectangle.specs.Edit.{edited}
use Rattle.charset.specs.declared.Mode.{Mode}
use Rattle.charset.specs.Stored.{Printing, stored_byte}
use Rattle.screen.specs.Run.{AllPrinting, stored_run, RunStored}
use Rattle.screen.proofs.Stores.{stores_cell}

printing_append : (cs : List ℕ) (c : ℕ) → AllPrinting cs → Printing c → AllPrinting (cs ++ (c ∷ []))
printing_append [] c all h = (h, tt)
printing_append (d ∷ cs) c all h = (all.0, printing_append cs c all.1 h)

-- the code at the end goes to the cell after the others
stored_append : (mode : Mode) (column line : ℕ) (cs : List ℕ) (c : ℕ) (s : List ℕ)
    → stored_run mode column line (cs ++ (c ∷ [])) s ≡ edited (cell_at (column + length cs) line) Clear (stored_byte mode c) (stored_run mode column line cs s)
unfolding stored_run
stored_append mode column line [] c s = rw add-zero
stored_append mode column line (d ∷ cs) c s =
    let place : column + 1 + length cs ≡ column + length (d ∷ cs) = omega arith in
    rw (← place) (stored_append mode (column + 1) line cs c _)

-- no code yet
pub none_stored : (mode : Mode) (column line room : ℕ) (codes s : List ℕ) → RunStored mode column line room codes 0 s s
unfolding stored_run
none_stored mode column line room codes s = record { fits = omega arith; within = omega arith; printing = tt; cells = refl }

-- one code more, which is stored as byte in the cell at index
pub one_stored : {mode : Mode} {column line room : ℕ} {codes : List ℕ} {n : ℕ} {s t : List ℕ} {index byte : ℕ}
    → RunStored mode column line room codes n s t
    → column + room ≤ 80
    → line ≤ 23
    → length t ≡ 1920
    → n < room
    → n < length codes
    → Printing (get_or codes n 0)
    → index ≡ 80 * line + (column + n)
    → byte ≡ stored_byte mode (get_or codes n 0)
    → RunStored mode column line room codes (n + 1) s (set t index byte)
one_stored {mode} {column} {line} {room} {codes} {n} {s} {t} {index} {byte} run across down len less inside prints at is_byte_lem =
    let cs : List ℕ = take n codes in
    let code : ℕ = get_or codes n 0 in
    let more : take (n + 1) codes ≡ cs ++ (code ∷ []) = rw add-one (take-suc codes n 0 inside) in
    let place : n ≡ length cs = sym (length-take-le n codes run.within) in
    record {
      fits = omega arith;
      within = omega arith;
      printing = rw more (printing_append cs code run.printing prints);
      cells = rw (more, stored_append) (stores_cell (column + n) line byte t (omega arith) down len at ∙ (λ i. edited (cell_at (column + place i) line) Clear (is_byte_lem i) (run.cells i)));
    }

-- a run of the first codes, as many as there is room for, is one of them all
pub more_room : {mode : Mode} {column line most room : ℕ} {codes : List ℕ} {n : ℕ} {s t : List ℕ} → most ≡ min room (length codes)
    → RunStored mode column line (length (take most codes)) (take most codes) n s t
    → RunStored mode column line room codes n s t
more_room {most = most} {codes = codes} {n = n} is_most run =
    let size = length-take-le most codes (omega arith) in
    let same : take n (take most codes) ≡ take n codes = take-take n most codes (omega arith) in
    record { fits = omega arith; within = omega arith; printing = rw same at run.printing; cells = rw same at run.cells }
