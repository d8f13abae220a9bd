use Rattle.x509_match.proofs.Partners.{types_apart}
use Rattle.x509_match.proofs.names.attributes_match.Goals as goal

pub returns-then-ne-clause-same : goal.returns-then-ne-clause-same
returns-then-ne-clause-same c = types_apart c.args.a.now c.args.b.now c.ne.result c.ne.ensures c.if-ne.true
