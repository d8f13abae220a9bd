use Rattle.std.proofs.Common.{◌↔◌, List, length}
use Rattle.x509_der.specs.Form.{Spells}
use Rattle.x509_ext.specs.CertificateIssuer.{certificate_issuer}
use Rattle.x509_ext.specs.declared.pkix.certificate_issuer.CertificateIssuer.{CertificateIssuer}
use Rattle.x509_ext.specs.declared.pkix.name.general_name.GeneralName.{GeneralName}
use Rattle.x509_revocation.specs.LentNames.{AreNames}
use Rattle.x509_revocation.specs.Names.{HasDirectoryName}
use Rattle.x509_revocation.proofs.issuers.has_directory_name.Given as goal

-- the names that are left stand for all
abbrev pub invariant-loop-rest : goal.invariant-loop-rest
invariant-loop-rest l = (value : CertificateIssuer) → Spells certificate_issuer value l.issuer
    → (left : List GeneralName) × AreNames l.rest left × (HasDirectoryName left ↔ HasDirectoryName value.0)

abbrev pub decreases-loop-rest : goal.decreases-loop-rest
decreases-loop-rest l = length l.rest
