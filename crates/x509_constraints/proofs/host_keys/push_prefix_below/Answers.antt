use Rattle.std.proofs.lemmas.Result.{on_ok_weaker}
use Rattle.x509_constraints.proofs.KeyLaws.{turned_pushed}
use Rattle.x509_constraints.proofs.host_keys.push_prefix_below.Goals as goal
use Rattle.x509_host.specs.Host.{dot}

pub returns : goal.returns
returns c = on_ok_weaker _ (turned_pushed c.args.subtree.now dot c.symbol.result _ _ _ c.in_ok-push_turned.ensures c.symbol.ensures) c.push.ensures
