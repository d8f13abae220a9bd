use Rattle.std.proofs.Common.{◌≡◌, drop}
use Rattle.x509_der.specs.Natural.{number_after}
use Rattle.x509_der.proofs.natural.read_natural.Given as goal

abbrev pub invariant-loop-octet : goal.invariant-loop-octet
invariant-loop-octet l = number_after l.number (drop l.octet-index l.content) ≡ number_after 0 l.content
