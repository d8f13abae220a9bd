use Rattle.x509_prim.proofs.Bits.{one_bits}
use Rattle.x509_prim.proofs.laws.bit_strings_have_one_value.Goals as goal

pub returns : goal.returns
returns c = λ bits others parts. one_bits parts bits others
