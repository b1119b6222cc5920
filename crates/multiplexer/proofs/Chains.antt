-- A chain of refusals that ends at a slot, or accepts: none of its tests refuses. Assumes nothing.
use Rattle.std.proofs.Common.{◌≡◌, Bool, true, false, cond, refl, Ok, Err}
use Rattle.reply.specs.declared.Status.{Status}
use Rattle.calls.specs.Verdict.{Judged}

pub not_refused : {A : Type 0} (t : Bool) (status : Status) (rest : Judged A) {x : A} → cond t (Err status) rest ≡ Ok x → (t ≡ false) × (rest ≡ Ok x)
not_refused true status rest e = absurd (cc)
not_refused false status rest e = (refl, e)
