use Rattle.std.proofs.Common.{ap, ◌∙◌}
use Rattle.x509_prim.specs.Integer.{is_integer}
use Rattle.x509_prim.proofs.Naturals.{is_unsigned-is_integer}
use Rattle.x509_prim.proofs.int.IntFromUint.from.Goals as goal

pub invariant_of-result : goal.invariant_of-result
invariant_of-result c = ap is_integer c.into_content.ensures.content ∙ is_unsigned-is_integer c.args.uint c.into_content.ensures.unsigned
