use Rattle.x509_prim.proofs.Bits.{packed}
use Rattle.x509_prim.proofs.laws.bits_have_a_content.Goals as goal

pub returns : goal.returns
returns c = λ bits. let p = packed bits in (p.parts, (p.octets, p.bits_stand))
