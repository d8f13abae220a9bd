use Rattle.std.proofs.Common.{refl}
use Rattle.x509_c_calls.proofs.Filled.{fills_as}
use Rattle.x509_c_calls.proofs.Wholes.{assembles, refuses}
use Rattle.x509_c_calls.proofs.build.assembly.assemble.Goals as goal
use Rattle.x509_c_calls.specs.Status.{Fills}

pub returns-in-Ok : goal.returns-in-Ok
returns-in-Ok c = fills_as _ _ (assembles c.args.part.now c.args.algorithm.now c.args.signature.now c.in-Ok.signed c.in-Ok.ensures) _ _ _ _ _ c.write.ensures.filled

pub returns-in-Err : goal.returns-in-Err
unfolding Fills
returns-in-Err c = (refuses c.args.part.now c.args.algorithm.now c.args.signature.now c.in-Err.e c.in-Err.ensures, refl)
