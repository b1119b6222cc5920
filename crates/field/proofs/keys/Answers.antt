-- `field::keys` meets its contract: the verdict, and where it accepts, the keys. Assumes nothing.
use mathlib.Core.Path.{refl}
use Rattle.field.proofs.Verdicts.{ready_field}
use Rattle.field.proofs.Replying.{refused_keys, keys_made}
use Rattle.field.proofs.keys.Goals as goal

pub type_keys-requires : goal.type_keys-requires
type_keys-requires c = ready_field c.in-Ok.field c.in-Ok.is c.in-Ok.ensures.field c.args.state c.keys_verdict.ensures.verdict

pub returns-in-Err : goal.returns-in-Err
returns-in-Err c = refused_keys _ _ _ _ _ c.args.state _ _ _ c.keys_verdict.ensures.verdict c.in-Err.is (rw c.nothing_read.ensures refl)

pub returns-in-Ok : goal.returns-in-Ok
returns-in-Ok c = keys_made _ _ _ _ _ c.in-Ok.field c.in-Ok.is c.in-Ok.ensures.field c.args.state _ _ _ c.keys_verdict.ensures.verdict c.type_keys.ensures
