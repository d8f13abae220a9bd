use Rattle.x509_cert.specs.CertPathControls.{cert_path_controls_stable}
use Rattle.x509_cert.specs.TrustAnchorChoice.{trust_anchor_choice_stable}
use Rattle.x509_cert.specs.TrustAnchorInfo.{trust_anchor_info_stable}
use Rattle.x509_cert.specs.Certificate.{certificate_stable}
use Rattle.x509_cert.specs.TbsCertificate.{tbs_certificate_stable}
use Rattle.x509_cert.proofs.anchor.laws.dates_are_written_once.Goals as goal

pub returns-clause-controls : goal.returns-clause-controls
returns-clause-controls g c = λ stable. cert_path_controls_stable _ _ (certificate_stable _ _ (tbs_certificate_stable _ _ stable))

pub returns-clause-info : goal.returns-clause-info
returns-clause-info g c = λ stable. trust_anchor_info_stable _ _ (cert_path_controls_stable _ _ (certificate_stable _ _ (tbs_certificate_stable _ _ stable)))

pub returns-clause-anchor : goal.returns-clause-anchor
returns-clause-anchor g c = λ stable.
    trust_anchor_choice_stable _ _ _ _ (certificate_stable _ _ (tbs_certificate_stable _ _ stable)) (tbs_certificate_stable _ _ stable)
    (trust_anchor_info_stable _ _ (cert_path_controls_stable _ _ (certificate_stable _ _ (tbs_certificate_stable _ _ stable))))
