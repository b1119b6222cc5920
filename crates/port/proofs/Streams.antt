-- A stream may be cut anywhere, and what a byte keeps a stream keeps. Assumes nothing.
use Prim.Native.Nat.{ℕ, ◌+◌}
use mathlib.Core.Path.{◌≡◌, refl, sym, ap, ◌∙◌, subst}
use mathlib.Core.Bool.{◌||◌}
use mathlib.Core.List.{List, [], ◌∷◌, ◌++◌, append_assoc}
use native.Mathlib.Nat.{add_assoc, zero-add}
use native.Mathlib.Omega.{arith}
use Rattle.rectangle.specs.declared.Rect.{Rect}
use Rattle.rectangle.specs.Edit.{draw}
use Rattle.rectangle.specs.Local.{Local, AllWithin}
use Rattle.rectangle.proofs.Local.{all_append, all_widen, draw_append, draw_local}
use Rattle.marks.specs.Marks.{is_marked, stored_to, marked_by}
use Rattle.marks.proofs.Marking.{marked_append, marked_by_lem}
use Rattle.port.specs.declared.Port.{Port}
use Rattle.port.specs.Valid.{ValidPort}
use Rattle.port.specs.Step.{Outcome, step}
use Rattle.port.specs.Stream.{followed_by, stream}
use Rattle.port.specs.Keeps.{KeepsHome}
use Rattle.port.proofs.Steps.{keeps_step}

-- 'cutting a stream anywhere, even inside a command, gives the same end and bell counts that add up to the same'
pub stream_cut : (p : Port) (a b : List ℕ) → stream p (a ++ b) ≡ followed_by (stream p a) (stream (stream p a).port b)
unfolding stream
stream_cut p [] b = λ i. record { port = (stream p b).port; edits = (stream p b).edits; bells = sym (zero-add (stream p b).bells) i }
stream_cut p (c ∷ a) b =
    let q : Port = (step p c).port in
    let rest = stream_cut q a b in
    λ i. record {
      port = (rest i).port;
      edits = (ap (λ (m : Outcome). (step p c).edits ++ m.edits) rest ∙ sym (append_assoc (step p c).edits (stream q a).edits (stream (stream q a).port b).edits)) i;
      bells = (ap (λ (m : Outcome). (step p c).bells + m.bells) rest ∙ sym (add_assoc (step p c).bells (stream q a).bells (stream (stream q a).port b).bells)) i;
    }

-- and the same cells
pub cells_cut : (p : Port) (a b s : List ℕ) → draw (stream p (a ++ b)).edits s ≡ draw (stream (stream p a).port b).edits (draw (stream p a).edits s)
cells_cut p a b s = ap (λ (m : Outcome). draw m.edits s) (stream_cut p a b) ∙ draw_append (stream p a).edits (stream (stream p a).port b).edits s

-- the edits of a byte lie inside the viewport and so inside home
pub step_home : (p : Port) → ValidPort p → (b : ℕ) → KeepsHome p (step p b)
step_home p h b =
    let k = keeps_step p h b in
    record { valid = k.valid; home = k.home; edits = all_widen p.view.viewport p.home (omega arith) (omega arith) (omega arith) (omega arith) (step p b).edits k.edits; marks = k.marks }

pub keeps_stream : (p : Port) → ValidPort p → (bs : List ℕ) → KeepsHome p (stream p bs)
unfolding stream
keeps_stream p h [] = record { valid = h; home = refl; edits = tt; marks = refl }
keeps_stream p h (b ∷ bs) =
    let k = step_home p h b in
    let rest = keeps_stream (step p b).port k.valid bs in
    record {
      valid = rest.valid;
      home = rest.home ∙ k.home;
      edits = all_append p.home (step p b).edits (stream (step p b).port bs).edits k.edits (subst (λ (r : Rect). AllWithin r (stream (step p b).port bs).edits) k.home rest.edits);
      marks =
          rest.marks ∙ ap (λ (n : ℕ). marked_by n (stream (step p b).port bs).edits) k.marks
          ∙ sym (marked_append p.marks (step p b).edits (stream (step p b).port bs).edits);
    }

-- so a line is marked after a stream exactly if an edit of the stream stored to it, or if it was marked before
pub stream_marks : (p : Port) → ValidPort p → (bs : List ℕ) (line : ℕ) → is_marked (stream p bs).port.marks line ≡ (is_marked p.marks line || stored_to (stream p bs).edits line)
stream_marks p h bs line = ap (λ (n : ℕ). is_marked n line) (keeps_stream p h bs).marks ∙ marked_by_lem p.marks (stream p bs).edits line

-- so a byte changes no cell outside the viewport, and a stream none outside home; what they leave there depends only on what was there
pub step_local : (p : Port) → ValidPort p → (b : ℕ) → Local p.view.viewport (draw (step p b).edits)
step_local p h b = draw_local p.view.viewport h.view.legal.right_in h.view.legal.bottom_in (step p b).edits (keeps_step p h b).edits

pub stream_local : (p : Port) → ValidPort p → (bs : List ℕ) → Local p.home (draw (stream p bs).edits)
stream_local p h bs = draw_local p.home h.home.right_in h.home.bottom_in (stream p bs).edits (keeps_stream p h bs).edits
