use Rattle.x509_prim.proofs.SetBits.{has_content}
use Rattle.x509_prim.proofs.laws.sets_are_bit_strings.Goals as goal

pub returns : goal.returns
returns c = λ set h. let k = has_content set h in (k.bits, (k.parts, (k.set_is, (k.bits_stand, k.content))))
