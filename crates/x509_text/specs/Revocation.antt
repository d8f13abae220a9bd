-- Lines of the extensions of CRLs and of their entries (RFC 5280 5.2.3, 5.2.4, 5.2.5, 5.3).
use Rattle.std.specs.Prelude.{ℕ, List, ◌++◌, codes}
use Rattle.x509_base.specs.CivilTime.{CivilTime}
use Rattle.x509_ext.specs.declared.pkix.crl_number.BaseCrlNumber.{BaseCrlNumber}
use Rattle.x509_ext.specs.declared.pkix.crl_number.CrlNumber.{CrlNumber}
use Rattle.x509_ext.specs.declared.pkix.crl_reason.CrlReason.{CrlReason}
use Rattle.x509_ext.specs.declared.pkix.crl_reason.CrlReason.TheVariants.{Unspecified, KeyCompromise, CaCompromise, AffiliationChanged, Superseded, CessationOfOperation, CertificateHold, RemoveFromCRL, PrivilegeWithdrawn, AaCompromise}
use Rattle.x509_ext.specs.declared.pkix.issuing_distribution_point.IssuingDistributionPoint.{IssuingDistributionPoint}
use Rattle.x509_text.specs.declared.line.Place.{Place}
use Rattle.x509_text.specs.GeneralNames.{point_name_lines}
use Rattle.x509_text.specs.Lines.{line, line_where}
use Rattle.x509_text.specs.Payloads.{optional}
use Rattle.x509_text.specs.Points.{reasons_lines}
use Rattle.x509_text.specs.Values.{moment_line, uint_line}

-- ---- CRLs

-- CRLNumber (RFC 5280 5.2.3)
abbrev pub crl_number_line : Place → CrlNumber → List ℕ
crl_number_line at number = uint_line at (codes "CRL number") number.0

-- BaseCRLNumber (RFC 5280 5.2.4)
abbrev pub base_number_line : Place → BaseCrlNumber → List ℕ
base_number_line at number = uint_line at (codes "base CRL number") number.0

-- of which certificates a CRL has entries, where it isn't of all
unfoldable pub coverage_lines : Place → IssuingDistributionPoint → List ℕ
coverage_lines at point =
    line_where at (codes "only contains") (codes "user certificates") point.only_contains_user_certs
    ++ (line_where at (codes "only contains") (codes "CA certificates") point.only_contains_ca_certs
    ++ line_where at (codes "only contains") (codes "attribute certificates") point.only_contains_attribute_certs)

-- IssuingDistributionPoint (RFC 5280 5.2.5): where the CRL is found, and what it covers
unfoldable pub issuing_point_lines : Place → IssuingDistributionPoint → List ℕ
issuing_point_lines at point =
    optional (point_name_lines at) point.distribution_point
    ++ (coverage_lines at point
    ++ (optional (reasons_lines at) point.only_some_reasons
    ++ line_where at (codes "indirect CRL") (codes "yes") point.indirect_crl))

-- ---- entries

-- the names of RFC 5280 5.3.1
abbrev pub reason_text : CrlReason → List ℕ
reason_text Unspecified = codes "unspecified"
reason_text KeyCompromise = codes "keyCompromise"
reason_text CaCompromise = codes "cACompromise"
reason_text AffiliationChanged = codes "affiliationChanged"
reason_text Superseded = codes "superseded"
reason_text CessationOfOperation = codes "cessationOfOperation"
reason_text CertificateHold = codes "certificateHold"
reason_text RemoveFromCRL = codes "removeFromCRL"
reason_text PrivilegeWithdrawn = codes "privilegeWithdrawn"
reason_text AaCompromise = codes "aACompromise"

-- CRLReason (RFC 5280 5.3.1)
abbrev pub crl_reason_line : Place → CrlReason → List ℕ
crl_reason_line at reason = line at (codes "reason") (reason_text reason)

-- InvalidityDate (RFC 5280 5.3.2)
abbrev pub invalidity_line : Place → CivilTime → List ℕ
invalidity_line at moment = moment_line at (codes "invalidity date") moment
