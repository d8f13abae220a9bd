-- The rules on the extensions of a CRL's entries (RFC 5280 5.3): what breaks each, their order, and how each is told.
use Rattle.std.specs.Prelude.{◌≡◌, ◌&&◌, ◌||◌, ℕ, Bool, true, not, List, [], ◌∷◌, Option, bytes_eq, codes, is_some, length, nat_le, take, drop, ◌==◌}
use Rattle.std.specs.List.{list_all, list_any}
use Rattle.x509_base.specs.CivilTime.{CivilTime, days_in_month}
use Rattle.x509_base.specs.TimeReading.{is_in_range, named_generalized_time}
use Rattle.x509_base.specs.declared.profile.Raw.{Raw}
use Rattle.x509_cert.specs.declared.crl.revoked_cert.RevokedCert.{RevokedCert}
use Rattle.x509_ext.specs.Identifiers.{id_ce}
use Rattle.x509_ext.specs.LookUp.{members}
use Rattle.x509_ext.specs.declared.extension.Extension.{Extension}
use Rattle.x509_ext.specs.declared.pkix.issuing_distribution_point.IssuingDistributionPoint.{IssuingDistributionPoint}
use Rattle.x509_lint.specs.Text.{is_digit}
use Rattle.x509_lint.specs.Words.{Crl, crl_extensions_of, has, is_early_general, is_empty, is_of, passes}
use Rattle.x509_lint.specs.declared.entries.EntryFindings.{EntryFindings}
use Rattle.x509_lint.specs.declared.entries.EntryFault.{EntryFault}
use Rattle.x509_lint.specs.declared.entries.EntryFault.TheVariants.{ReasonCritical, ReasonUnspecified, ReasonRemoveFromCrl, ReasonInvalid, InvalidityDateCritical, InvalidityDateInvalid, IssuerNotCritical, Issuer}
use Rattle.x509_lint.specs.declared.entries.EntryTest.{EntryTest}
use Rattle.x509_lint.specs.declared.entries.EntryTest.TheVariants.{There, Extended, WithoutExtensions, EarlyGeneral, Faulty}
use Rattle.x509_lint.specs.declared.crl.CrlParts.{CrlParts}
use Rattle.x509_lint.specs.declared.rule.crl_entry.CrlEntryRule.{CrlEntryRule}
use Rattle.x509_lint.specs.declared.rule.crl_entry.CrlEntryRule.TheVariants as rules
use Rattle.x509_lint.specs.Sentence.{Sentence, must, should}

-- the DER of the reason with this number, an ENUMERATED (RFC 5280 5.3.1)
abbrev pub reason_octets : ℕ → List ℕ
reason_octets n = 0x0A ∷ 0x01 ∷ n ∷ []

-- the numbers of CRLReason; 7 isn't used
abbrev pub reason_numbers : List ℕ
reason_numbers = 0 ∷ 1 ∷ 2 ∷ 3 ∷ 4 ∷ 5 ∷ 6 ∷ 8 ∷ 9 ∷ 10 ∷ []

-- the octets are the DER of a CRLReason
abbrev pub is_reason : List ℕ → Bool
is_reason octets = list_any (λ n. bytes_eq octets (reason_octets n)) reason_numbers

-- the calendar has the day, of any year, and a clock shows the time; there are no leap seconds (RFC 5280 4.1.2.5.2, ISO 8601 4.3.2)
abbrev pub is_moment : CivilTime → Bool
is_moment c =
    is_in_range 1 12 c.month && (is_in_range 1 (days_in_month c.year c.month) c.day && (nat_le c.hour 23 && (nat_le c.minutes 59 && nat_le c.seconds 59)))

-- the DER of a GeneralizedTime YYYYMMDDHHMMSSZ, as a time in GMT with seconds is written (RFC 5280 4.1.2.5.2), that names a moment
abbrev pub is_date : List ℕ → Bool
is_date octets =
    (length octets == 17) && (bytes_eq (take 2 octets) (0x18 ∷ 15 ∷ []) && (list_all is_digit (take 14 (drop 2 octets))
    && (bytes_eq (drop 16 octets) (90 ∷ []) && is_moment (named_generalized_time (drop 2 octets)))))

-- what is wrong with an extension of an entry: reasonCode is 2.5.29.21, invalidityDate 2.5.29.24, certificateIssuer 2.5.29.29
abbrev pub is_faulty : EntryFault → Extension → Bool
is_faulty ReasonCritical e = is_of (id_ce 21) e && e.critical
is_faulty ReasonUnspecified e = is_of (id_ce 21) e && bytes_eq e.extn_value (reason_octets 0)
is_faulty ReasonRemoveFromCrl e = is_of (id_ce 21) e && bytes_eq e.extn_value (reason_octets 8)
is_faulty ReasonInvalid e = is_of (id_ce 21) e && not (is_reason e.extn_value)
is_faulty InvalidityDateCritical e = is_of (id_ce 24) e && e.critical
is_faulty InvalidityDateInvalid e = is_of (id_ce 24) e && not (is_date e.extn_value)
is_faulty IssuerNotCritical e = is_of (id_ce 29) e && not e.critical
is_faulty Issuer e = is_of (id_ce 29) e

-- the entry passes the test
abbrev pub entry_passes : EntryTest → RevokedCert Raw → Bool
entry_passes There e = true
entry_passes Extended e = is_some e.crl_entry_extensions
entry_passes WithoutExtensions e = passes is_empty e.crl_entry_extensions
entry_passes EarlyGeneral e = is_early_general e.revocation_date
entry_passes (Faulty fault) e = list_any (is_faulty fault) (members e.crl_entry_extensions)

-- what was noted of the test
abbrev pub is_noted : EntryFindings → EntryTest → Bool
is_noted f There = f.is_there
is_noted f Extended = f.is_extended
is_noted f WithoutExtensions = f.is_without_extensions
is_noted f EarlyGeneral = f.is_early_general
is_noted f (Faulty ReasonCritical) = f.is_reason_critical
is_noted f (Faulty ReasonUnspecified) = f.is_reason_unspecified
is_noted f (Faulty ReasonRemoveFromCrl) = f.is_reason_remove_from_crl
is_noted f (Faulty ReasonInvalid) = f.is_reason_invalid
is_noted f (Faulty InvalidityDateCritical) = f.is_invalidity_date_critical
is_noted f (Faulty InvalidityDateInvalid) = f.is_invalidity_date_invalid
is_noted f (Faulty IssuerNotCritical) = f.is_issuer_not_critical
is_noted f (Faulty Issuer) = f.is_issuer

-- what is noted of entries: of each test whether one of them passes it
unfoldable pub AreNoted : List (RevokedCert Raw) → EntryFindings → Type 0
AreNoted entries found = (test : EntryTest) → is_noted found test ≡ list_any (entry_passes test) entries

-- an extension of an entry has the fault
abbrev pub has_fault : CrlParts → EntryFault → Bool
has_fault parts fault = is_noted parts.facts.entries.found (Faulty fault)

-- there is no IssuingDistributionPoint, or the one that there is is read and doesn't set indirectCRL
abbrev pub is_direct : List Extension → Option IssuingDistributionPoint → Bool
is_direct extensions point = not (has (id_ce 28) extensions) || passes (λ p. not p.indirect_crl) point

-- ---- the rules, in their order

abbrev pub crl_entry_rules : List CrlEntryRule
crl_entry_rules =
    rules.EntryReasonCritical
    ∷ rules.EntryReasonUnspecified
    ∷ rules.EntryReasonRemoveFromCrl
    ∷ rules.EntryReasonInvalid
    ∷ rules.EntryInvalidityDateCritical
    ∷ rules.EntryInvalidityDateInvalid
    ∷ rules.EntryCertificateIssuerNotCritical
    ∷ rules.EntryCertificateIssuerNotIndirect ∷ []

abbrev pub crl_entry_sentence : CrlEntryRule → Sentence Crl CrlParts
crl_entry_sentence rules.EntryReasonCritical =
    must (codes "entry_reason_critical") (codes "5.3.1") (codes "tbsCertList.revokedCertificates.crlEntryExtensions.reasonCode")
    (λ l parts. has_fault parts ReasonCritical)
crl_entry_sentence rules.EntryReasonUnspecified =
    should (codes "entry_reason_unspecified") (codes "5.3.1") (codes "tbsCertList.revokedCertificates.crlEntryExtensions.reasonCode")
    (λ l parts. has_fault parts ReasonUnspecified)
crl_entry_sentence rules.EntryReasonRemoveFromCrl =
    must (codes "entry_reason_remove_from_crl") (codes "5.3.1") (codes "tbsCertList.revokedCertificates.crlEntryExtensions.reasonCode")
    (λ l parts. has_fault parts ReasonRemoveFromCrl && not (has (id_ce 27) (crl_extensions_of l)))
crl_entry_sentence rules.EntryReasonInvalid =
    must (codes "entry_reason_invalid") (codes "5.3.1") (codes "tbsCertList.revokedCertificates.crlEntryExtensions.reasonCode")
    (λ l parts. has_fault parts ReasonInvalid)
crl_entry_sentence rules.EntryInvalidityDateCritical =
    must (codes "entry_invalidity_date_critical") (codes "5.3.2") (codes "tbsCertList.revokedCertificates.crlEntryExtensions.invalidityDate")
    (λ l parts. has_fault parts InvalidityDateCritical)
crl_entry_sentence rules.EntryInvalidityDateInvalid =
    must (codes "entry_invalidity_date_invalid") (codes "5.3.2") (codes "tbsCertList.revokedCertificates.crlEntryExtensions.invalidityDate")
    (λ l parts. has_fault parts InvalidityDateInvalid)
crl_entry_sentence rules.EntryCertificateIssuerNotCritical =
    must (codes "entry_certificate_issuer_not_critical") (codes "5.3.3") (codes "tbsCertList.revokedCertificates.crlEntryExtensions.certificateIssuer")
    (λ l parts. has_fault parts IssuerNotCritical)
crl_entry_sentence rules.EntryCertificateIssuerNotIndirect =
    must (codes "entry_certificate_issuer_not_indirect") (codes "5.3.3") (codes "tbsCertList.revokedCertificates.crlEntryExtensions.certificateIssuer")
    (λ l parts. has_fault parts Issuer && is_direct (crl_extensions_of l) parts.values.issuing_distribution_point)
