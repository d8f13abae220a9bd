use Rattle.std.proofs.Common.{◌↔◌, length}
use Rattle.x509_revocation.specs.Names.{HasMatch}
use Rattle.x509_revocation.proofs.names.has_match.Given as goal

abbrev pub invariant-loop-rest : goal.invariant-loop-rest
invariant-loop-rest l = HasMatch l.name l.rest ↔ HasMatch l.name l.others

abbrev pub decreases-loop-rest : goal.decreases-loop-rest
decreases-loop-rest l = length l.rest
