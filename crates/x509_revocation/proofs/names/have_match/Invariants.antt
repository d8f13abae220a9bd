use Rattle.std.proofs.Common.{◌↔◌, length}
use Rattle.x509_revocation.specs.Names.{HaveMatch}
use Rattle.x509_revocation.proofs.names.have_match.Given as goal

abbrev pub invariant-loop-rest : goal.invariant-loop-rest
invariant-loop-rest l = HaveMatch l.rest l.others ↔ HaveMatch l.names l.others

abbrev pub decreases-loop-rest : goal.decreases-loop-rest
decreases-loop-rest l = length l.rest
