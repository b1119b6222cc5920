-- `multiplexer::claim_verdict` meets its contract: a pane that is not legal is refused, and a legal one lies on the screen. Assumes nothing.
use Rattle.std.proofs.Common.{refl, rules}
use borrow.Author.Tests.{ne_eqb}
use Rattle.laws.proofs.Tests.{answered}
use Rattle.rectangle.proofs.Rectangles.{decides_legal, legal_on_screen}
use Rattle.multiplexer.specs.Located.{claim_verdict}
use Rattle.multiplexer.proofs.claim_verdict.Goals as goal

pub returns-then-not-legal-clause-verdict : goal.returns-then-not-legal-clause-verdict
unfolding claim_verdict
returns-then-not-legal-clause-verdict c = rw (ne_eqb _ _ c.if-client-eq0.false, ← c.legal.ensures, c.if-not-legal.true) refl

pub returns-clause-on_screen : goal.returns-clause-on_screen
returns-clause-on_screen c = search (answered (decides_legal c.args.pane), legal_on_screen, rules)
