-- What laws say of trust anchors that are written.
use Rattle.std.specs.Prelude.{◌≡◌, None}
use Rattle.x509_cert.specs.CertPathControls.{cert_path_controls}
use Rattle.x509_cert.specs.TrustAnchorChoice.{trust_anchor_choice}
use Rattle.x509_cert.specs.TrustAnchorInfo.{trust_anchor_info}
use Rattle.x509_cert.specs.declared.anchor.cert_path_controls.CertPathControls.{CertPathControls}
use Rattle.x509_cert.specs.declared.anchor.trust_anchor_choice.TrustAnchorChoice.{TrustAnchorChoice}
use Rattle.x509_cert.specs.declared.anchor.trust_anchor_info.TrustAnchorInfo.{TrustAnchorInfo}
use Rattle.x509_cert.specs.Respelling.{no_check}
use Rattle.x509_der.specs.Form.{Form}
use Rattle.x509_der.specs.Writing.{Writing, writes}

-- each good value is written, and as it is
abbrev pub GoodStay : {X : Type 0} → (X → Type 0) → Writing X → Type 0
GoodStay {X} good writing = (v : X) → good v → writes writing v ≡ record { value = v; refusal = None }

-- ---- anchors with certificates whose serial numbers may have any content octets

abbrev pub any_cert_path_controls : {P : Type 0} → Form (CertPathControls P)
any_cert_path_controls = cert_path_controls no_check

abbrev pub any_trust_anchor_info : {P : Type 0} → Form (TrustAnchorInfo P)
any_trust_anchor_info = trust_anchor_info no_check

abbrev pub any_trust_anchor_choice : {P : Type 0} → Form (TrustAnchorChoice P)
any_trust_anchor_choice = trust_anchor_choice no_check
