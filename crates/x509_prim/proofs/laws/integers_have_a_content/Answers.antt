use Rattle.x509_prim.proofs.Numbers.{integer_content}
use Rattle.x509_prim.proofs.laws.integers_have_a_content.Goals as goal

pub returns : goal.returns
returns c = integer_content
