-- CrlReason: why a certificate was revoked, as an ENUMERATED (RFC 5280 5.3.1)
use Rattle.std.specs.Prelude.{◌≡◌, ℕ, List, [], ◌∷◌, Some, refl}
use Rattle.x509_prim.specs.Names.{with_number, Names, named_form}
use Rattle.x509_ext.specs.declared.pkix.crl_reason.CrlReason.{CrlReason}
use Rattle.x509_ext.specs.declared.pkix.crl_reason.CrlReason.TheVariants.{Unspecified, KeyCompromise, CaCompromise, AffiliationChanged, Superseded, CessationOfOperation, CertificateHold, RemoveFromCRL, PrivilegeWithdrawn, AaCompromise}
use Rattle.x509_der.specs.declared.tag.Tag.TheVariants.{Enumerated}
use Rattle.x509_der.specs.Form.{Form}

abbrev pub crl_reason_number : CrlReason → ℕ
crl_reason_number Unspecified = 0
crl_reason_number KeyCompromise = 1
crl_reason_number CaCompromise = 2
crl_reason_number AffiliationChanged = 3
crl_reason_number Superseded = 4
crl_reason_number CessationOfOperation = 5
crl_reason_number CertificateHold = 6
crl_reason_number RemoveFromCRL = 8
crl_reason_number PrivilegeWithdrawn = 9
crl_reason_number AaCompromise = 10

abbrev pub crl_reason_values : List CrlReason
crl_reason_values =
    Unspecified ∷ KeyCompromise ∷ CaCompromise ∷ AffiliationChanged ∷ Superseded ∷ CessationOfOperation ∷ CertificateHold
    ∷ RemoveFromCRL ∷ PrivilegeWithdrawn ∷ AaCompromise ∷ []

pub crl_reason_found : (reason : CrlReason) → with_number crl_reason_number crl_reason_values (crl_reason_number reason) ≡ Some reason
crl_reason_found Unspecified = refl
crl_reason_found reason = refl

abbrev pub crl_reason_names : Names CrlReason
crl_reason_names = record { values = crl_reason_values; number = crl_reason_number; found = crl_reason_found; small = refl }

abbrev pub crl_reason : Form CrlReason
crl_reason = named_form Enumerated crl_reason_names
