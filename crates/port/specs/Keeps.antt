-- What the laws of a step say: it keeps validity and home, each of its edits lies inside the viewport, and it marks the lines that they store to and no others; all bytes but $01 and $04 leave what is saved alone too. Assumes nothing.
use Rattle.std.specs.Prelude.{◌≡◌}
use Rattle.rectangle.specs.declared.Rect.{Rect}
use Rattle.rectangle.specs.Local.{AllWithin}
use Rattle.marks.specs.Marks.{marked_by}
use Rattle.port.specs.declared.View.{View}
use Rattle.port.specs.declared.Port.{Port}
use Rattle.port.specs.Valid.{ValidView, ValidPort}
use Rattle.port.specs.Effect.{Effect}
use Rattle.port.specs.Step.{Outcome}

-- of a code on a view
pub record KeepsView (home : Rect) (v : View) (e : Effect) : Type 0 where
  pub view : ValidView home e.view
  pub viewport : e.view.viewport ≡ v.viewport
  pub edits : AllWithin v.viewport e.edits

-- of a byte on a port, whose viewport lies inside home
pub record KeepsPort (p : Port) (m : Outcome) : Type 0 where
  pub valid : ValidPort m.port
  pub home : m.port.home ≡ p.home
  pub edits : AllWithin p.view.viewport m.edits
  pub marks : m.port.marks ≡ marked_by p.marks m.edits

-- of a byte that touches neither home nor what is saved
pub record KeepsSaved (p : Port) (m : Outcome) : Type 0 where
  pub home : m.port.home ≡ p.home
  pub hassaved : m.port.hassaved ≡ p.hassaved
  pub saved : m.port.saved ≡ p.saved

-- of a stream: a viewport that was set on the way lies inside home too
pub record KeepsHome (p : Port) (m : Outcome) : Type 0 where
  pub valid : ValidPort m.port
  pub home : m.port.home ≡ p.home
  pub edits : AllWithin p.home m.edits
  pub marks : m.port.marks ≡ marked_by p.marks m.edits
