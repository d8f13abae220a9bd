use Rattle.std.proofs.Common.{◌≡◌, take}
use Rattle.x509_build.specs.Domain.{domain_attributes}
use Rattle.x509_build.proofs.profile.cabf.tls.domain_attributes.Given as goal

-- of the attributes so far, those of the two types
abbrev pub invariant-loop-attribute : goal.invariant-loop-attribute
invariant-loop-attribute l = l.kept.items ≡ domain_attributes (take l.attribute-index l.attributes)
