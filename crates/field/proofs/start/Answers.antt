-- `field::start` meets its contract: the verdict, and where it accepts, the default laid over the buffer. Assumes nothing.
use native.Mathlib.Omega.{arith}
use Rattle.field.proofs.Verdicts.{default_in_buffer}
use Rattle.field.proofs.Replying.{refused_start, start_made}
use Rattle.field.proofs.start.Goals as goal

pub lay_default-requires : goal.lay_default-requires
lay_default-requires c = default_in_buffer c.in-Ok.field c.in-Ok.is c.in-Ok.ensures.field c.start_verdict.ensures.verdict

pub returns-in-Err : goal.returns-in-Err
returns-in-Err c = refused_start _ _ _ _ _ _ _ c.start_verdict.ensures.verdict c.in-Err.is (omega arith, omega arith)

pub returns-in-Ok : goal.returns-in-Ok
returns-in-Ok c = start_made _ _ _ _ _ c.in-Ok.field c.in-Ok.is c.in-Ok.ensures.field _ _ c.start_verdict.ensures.verdict c.lay_default.ensures.0 c.lay_default.ensures.1
