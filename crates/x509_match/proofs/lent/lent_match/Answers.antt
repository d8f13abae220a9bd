use Rattle.std.proofs.Common.{arith, ap, length}
use Rattle.std.proofs.lemmas.Bool.Decides.{nat_tests}
use Rattle.x509_match.proofs.Fronts.{oid_short}
use Rattle.x509_match.proofs.Partners.{lent_apart}
use Rattle.x509_match.proofs.lent.lent_match.Goals.{then-ne-via-then-ne, then-ne-via-else-ne+then-a-gt-LONGEST_OID}
use Rattle.x509_match.proofs.lent.lent_match.Goals as goal

pub returns-then-ne-clause-same : goal.returns-then-ne-clause-same
returns-then-ne-clause-same c = λ x y p q. elim c.then-ne.branch [
  | then-ne-via-then-ne w ↦ lent_apart x y _ _ c.ne.result p.1 q.1 c.ne.ensures w.if-ne.true
  | then-ne-via-else-ne+then-a-gt-LONGEST_OID w ↦ absurd (let s = oid_short x.oid p.0 in let k = ap length p.1 in let t = w.if-a-gt-LONGEST_OID.true in grind (arith, nat_tests))
]
