use Rattle.x509_match.proofs.KeysAgree.{keys-step}
use Rattle.x509_match.proofs.key.MatchedName.new.Goals as goal

pub loop-rdn-preserved : goal.loop-rdn-preserved
loop-rdn-preserved c = keys-step _ _ _ _ _ _ c.loop-rdn-test.true c.rdn-item.is c.in_ok-push.ensures.items c.loop-rdn.invariant c.in_ok-key.ensures
