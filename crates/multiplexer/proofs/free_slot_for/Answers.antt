-- `multiplexer::free_slot_for` meets its contract: 5 where the client has a slot, and where nothing refuses, 7 or the lowest free slot. Assumes nothing.
use Rattle.std.proofs.Common.{◌≡◌, ℕ, cond, leb, refl, Option, Some, None, Ok, Err, ok_or}
use borrow.Author.Tests.{lt-leb}
use Rattle.reply.specs.declared.Status.TheVariants.{Full}
use Rattle.calls.specs.Verdict.{Judged}
use Rattle.slots.specs.declared.place.Place.{Place}
use Rattle.slots.specs.Places.{number_of}
use Rattle.multiplexer.specs.Located.{free_slot_for, indexed}
use Rattle.multiplexer.proofs.free_slot_for.Goals as goal

room : (r : Option Place) (n : ℕ) (x : Judged Place) → number_of r ≡ n → x ≡ ok_or r Full → indexed x ≡ cond (leb 4 n) (Err Full) (Ok n)
room None n x e is = rw (is, ← e)
room (Some place) n x e is = rw (is, ← e, lt-leb 4 place.index place.below)

pub returns-then-has_client : goal.returns-then-has_client
unfolding free_slot_for
returns-then-has_client c = rw (← c.has_client.ensures, c.if-has_client.true) refl

pub returns : goal.returns
unfolding free_slot_for
returns c =
    rw (← c.has_client.ensures, c.if-has_client.false, ← c.pane_shared.ensures, c.if-pane_shared.false) (search room)
