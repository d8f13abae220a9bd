use Rattle.std.proofs.lemmas.Result.{on_ok_weaker}
use Rattle.x509_constraints.proofs.InOrder.{attribute_done}
use Rattle.x509_constraints.proofs.distinguished.push_attribute.Goals as goal

pub returns : goal.returns
returns c = on_ok_weaker _ (attribute_done _ _ _ _ _ c.loop-octet-test.false c.loop-octet.invariant) c.push-2.ensures
