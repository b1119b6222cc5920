-- `port::valid::is_zero_port` meets its contract: equal to the zero port, field by field. Assumes nothing.
use mathlib.Core.Path.{refl, ap}
use borrow.Author.Rules.{rules}
use Rattle.port.specs.declared.Port.{Port}
use Rattle.port.proofs.Validity.{same_as_zero, same_as_zero_port}
use Rattle.port.proofs.valid.is_zero_port.Goals as goal

pub returns : goal.returns
returns c =
    let p = c.args.p in let z = c.zero_port.result in let e = c.zero_port.ensures in
    same_as_zero_port p z (search rules) e (same_as_zero p.view z.view (ap (λ (x : Port). x.view) e) refl) (same_as_zero p.saved z.saved (ap (λ (x : Port). x.saved) e) refl) c.eq.ensures
