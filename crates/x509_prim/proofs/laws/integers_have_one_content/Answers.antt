use Rattle.x509_prim.proofs.Numbers.{one_integer}
use Rattle.x509_prim.proofs.laws.integers_have_one_content.Goals as goal

pub returns : goal.returns
returns c = one_integer
