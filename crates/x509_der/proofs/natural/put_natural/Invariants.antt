use Rattle.x509_der.proofs.Naturals.{Stands}
use Rattle.x509_der.proofs.natural.put_natural.Given as goal

abbrev pub invariant-loop-rest : goal.invariant-loop-rest
invariant-loop-rest g l = Stands g.R.Room.kind l.number l.rest l.fn.room l.room

abbrev pub decreases-loop-rest : goal.decreases-loop-rest
decreases-loop-rest g l = l.rest
