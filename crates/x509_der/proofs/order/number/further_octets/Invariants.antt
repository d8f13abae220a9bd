use Rattle.x509_der.proofs.CountedLengths.{Counted}
use Rattle.x509_der.proofs.order.number.further_octets.Given as goal

abbrev pub invariant-loop-rest : goal.invariant-loop-rest
invariant-loop-rest l = Counted l.number l.count l.rest

abbrev pub decreases-loop-rest : goal.decreases-loop-rest
decreases-loop-rest l = l.rest
