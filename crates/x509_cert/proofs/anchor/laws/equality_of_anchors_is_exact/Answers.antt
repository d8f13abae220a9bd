use Rattle.x509_cert.proofs.anchor.laws.equality_of_anchors_is_exact.Goals as goal
use Rattle.x509_cert.specs.contracts.anchor.trust_anchor_choice.TrustAnchorChoice.{enum as anchors}
use Rattle.x509_cert.specs.AnchorEquality.{exact_cert_path_controls, exact_trust_anchor_info}
use Rattle.x509_cert.specs.CertificateEquality.{exact_certificate, exact_tbs_certificate}
use Rattle.x509_der.specs.Exact.{exact_last, exact_cases}

pub returns-clause-controls : goal.returns-clause-controls
returns-clause-controls g c = exact_cert_path_controls

pub returns-clause-info : goal.returns-clause-info
returns-clause-info g c = exact_trust_anchor_info

pub returns-clause-anchor : goal.returns-clause-anchor
returns-clause-anchor g c =
    exact_cases (anchors g.row.P g.P.Profile g.P.PartialEq g.P.PartialOrd g.P.Ord g.P.Debug g.P.Default) _
    (exact_last exact_certificate, (exact_last exact_tbs_certificate, (exact_last exact_trust_anchor_info, tt)))
