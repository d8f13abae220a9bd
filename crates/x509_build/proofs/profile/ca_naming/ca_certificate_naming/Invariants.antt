use Rattle.std.proofs.Common.{◌≡◌}
use Rattle.std.specs.Prelude.{find, not}
use Rattle.x509_name.specs.Iterators.{attributes_left, members_of}
use Rattle.x509_build.specs.CaNaming.{is_ca_type}
use Rattle.x509_build.proofs.profile.ca_naming.ca_certificate_naming.Given as goal

-- what was passed may be there
abbrev pub invariant-loop-attribute : goal.invariant-loop-attribute
invariant-loop-attribute l = find (λ a. not (is_ca_type a.oid)) (attributes_left l.attribute-iterator) ≡ find (λ a. not (is_ca_type a.oid)) (members_of l.name)
