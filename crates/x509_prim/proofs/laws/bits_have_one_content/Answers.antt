use Rattle.x509_prim.proofs.Bits.{one_parts}
use Rattle.x509_prim.proofs.laws.bits_have_one_content.Goals as goal

pub returns : goal.returns
returns c = one_parts
