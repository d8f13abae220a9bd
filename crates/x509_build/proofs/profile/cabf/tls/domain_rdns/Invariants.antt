use Rattle.std.proofs.Common.{◌≡◌, take}
use Rattle.x509_build.specs.Domain.{domain_name}
use Rattle.x509_build.proofs.profile.cabf.tls.domain_rdns.Given as goal

-- of the relative names so far, those with attributes of the two types
abbrev pub invariant-loop-rdn : goal.invariant-loop-rdn
invariant-loop-rdn l = l.rdns ≡ domain_name (take l.rdn-index l.relative_names)
