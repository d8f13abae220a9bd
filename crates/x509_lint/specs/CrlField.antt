-- The rules on the fields of a CRL (RFC 5280 5.1): what breaks each, their order, and how each is told.
use Rattle.std.specs.Prelude.{◌&&◌, ◌||◌, ℕ, Bool, true, false, not, List, [], ◌∷◌, codes, is_some}
use Rattle.x509_cert.specs.declared.certificate.version.Version.{Version}
use Rattle.x509_cert.specs.declared.certificate.version.Version.TheVariants.{V1, V2, V3}
use Rattle.x509_lint.specs.CrlEntry.{is_noted}
use Rattle.x509_lint.specs.Name.{has_empty_rdn, has_no_country}
use Rattle.x509_lint.specs.Read.{is_crl_read}
use Rattle.x509_lint.specs.Text.{has_faulty_text}
use Rattle.x509_lint.specs.declared.texts.TextFault.TheVariants.{OtherType, OldType, OtherCharacter, Size, Label}
use Rattle.x509_lint.specs.Words.{Crl, is_before, is_early_general, is_empty, passes}
use Rattle.x509_lint.specs.declared.entries.EntryFault.TheVariants.{Issuer}
use Rattle.x509_lint.specs.declared.entries.EntryTest.{EntryTest}
use Rattle.x509_lint.specs.declared.entries.EntryTest.TheVariants.{There, Extended, WithoutExtensions, EarlyGeneral, Faulty}
use Rattle.x509_lint.specs.declared.facts.CrlFacts.{CrlFacts}
use Rattle.x509_lint.specs.declared.rule.crl_field.CrlExtensionKind.{CrlExtensionKind}
use Rattle.x509_lint.specs.declared.rule.crl_field.CrlExtensionKind.TheVariants as kinds
use Rattle.x509_lint.specs.declared.rule.crl_field.CrlFieldRule.{CrlFieldRule}
use Rattle.x509_lint.specs.declared.rule.crl_field.CrlFieldRule.TheVariants as rules
use Rattle.x509_lint.specs.declared.rule.crl_field.CrlEntryListRule.{CrlEntryListRule}
use Rattle.x509_lint.specs.declared.rule.crl_field.CrlEntryListRule.TheVariants as lists
use Rattle.x509_lint.specs.Sentence.{Sentence, must, should, must_of}

abbrev pub is_v2 : Version → Bool
is_v2 V1 = false
is_v2 V2 = true
is_v2 V3 = false

-- an entry passes the test
abbrev pub has_entry : EntryTest → CrlFacts → Bool
has_entry test facts = is_noted facts.entries.found test

abbrev pub has_extensions : Crl → CrlFacts → Bool
has_extensions l facts = is_some l.tbs_cert_list.crl_extensions || has_entry Extended facts

-- ---- the rules, in their order

abbrev pub crl_field_rules : List CrlFieldRule
crl_field_rules =
    rules.SignatureAlgorithmsDiffer
    ∷ rules.ExtensionsWithoutV2
    ∷ rules.VersionNotV2
    ∷ rules.IssuerEmpty
    ∷ rules.IssuerRdnEmpty
    ∷ rules.IssuerRdnTypeRepeated
    ∷ rules.IssuerCountryNameInvalid
    ∷ rules.IssuerTextType
    ∷ rules.IssuerTextOldType
    ∷ rules.IssuerTextCharacters
    ∷ rules.IssuerTextSize
    ∷ rules.IssuerDomainComponentInvalid
    ∷ rules.ThisUpdateNotUtcTime
    ∷ rules.NextUpdateAbsent
    ∷ rules.NextUpdateNotUtcTime
    ∷ rules.NextUpdateBeforeThisUpdate
    ∷ rules.RevokedCertificatesEmpty
    ∷ rules.SerialNumberRepeated
    ∷ rules.RevocationDateNotUtcTime
    ∷ rules.ExtensionsEmpty
    ∷ rules.ExtensionRepeated ∷ []

abbrev pub crl_field_sentence : CrlFieldRule → Sentence Crl CrlFacts
crl_field_sentence rules.SignatureAlgorithmsDiffer =
    must (codes "signature_algorithms_differ") (codes "5.1.1.2") (codes "signatureAlgorithm")
    (λ l facts. facts.algorithms_differ)
crl_field_sentence rules.ExtensionsWithoutV2 =
    must (codes "extensions_without_v2") (codes "5.1.2.1") (codes "tbsCertList.version")
    (λ l facts. has_extensions l facts && not (passes is_v2 l.tbs_cert_list.version))
crl_field_sentence rules.VersionNotV2 =
    must (codes "version_not_v2") (codes "5.1.2.1") (codes "tbsCertList.version")
    (λ l facts. passes (λ version. not (is_v2 version)) l.tbs_cert_list.version)
crl_field_sentence rules.IssuerEmpty =
    must (codes "issuer_empty") (codes "5.1.2.3") (codes "tbsCertList.issuer")
    (λ l facts. is_empty l.tbs_cert_list.issuer)
crl_field_sentence rules.IssuerRdnEmpty =
    must (codes "issuer_rdn_empty") (codes "5.1.2.3") (codes "tbsCertList.issuer")
    (λ l facts. has_empty_rdn l.tbs_cert_list.issuer)
crl_field_sentence rules.IssuerRdnTypeRepeated =
    must_of (codes "X.501") (codes "issuer_rdn_type_repeated") (codes "9.3") (codes "tbsCertList.issuer")
    (λ l facts. not facts.is_issuer_distinct)
crl_field_sentence rules.IssuerCountryNameInvalid =
    must (codes "issuer_country_name_invalid") (codes "A.1") (codes "tbsCertList.issuer")
    (λ l facts. has_no_country l.tbs_cert_list.issuer)
crl_field_sentence rules.IssuerTextType =
    must (codes "issuer_text_type") (codes "A.1") (codes "tbsCertList.issuer")
    (λ l facts. has_faulty_text OtherType l.tbs_cert_list.issuer)
crl_field_sentence rules.IssuerTextOldType =
    should (codes "issuer_text_old_type") (codes "5.1.2.3") (codes "tbsCertList.issuer")
    (λ l facts. has_faulty_text OldType l.tbs_cert_list.issuer)
crl_field_sentence rules.IssuerTextCharacters =
    must (codes "issuer_text_characters") (codes "5.1.2.3") (codes "tbsCertList.issuer")
    (λ l facts. has_faulty_text OtherCharacter l.tbs_cert_list.issuer)
crl_field_sentence rules.IssuerTextSize =
    must (codes "issuer_text_size") (codes "A.1") (codes "tbsCertList.issuer")
    (λ l facts. has_faulty_text Size l.tbs_cert_list.issuer)
crl_field_sentence rules.IssuerDomainComponentInvalid =
    must_of (codes "RFC 4519") (codes "issuer_domain_component_invalid") (codes "2.4") (codes "tbsCertList.issuer")
    (λ l facts. has_faulty_text Label l.tbs_cert_list.issuer)
crl_field_sentence rules.ThisUpdateNotUtcTime =
    must (codes "this_update_not_utc_time") (codes "5.1.2.4") (codes "tbsCertList.thisUpdate")
    (λ l facts. is_early_general l.tbs_cert_list.this_update)
crl_field_sentence rules.NextUpdateAbsent =
    must (codes "next_update_absent") (codes "5.1.2.5") (codes "tbsCertList.nextUpdate")
    (λ l facts. not (is_some l.tbs_cert_list.next_update))
crl_field_sentence rules.NextUpdateNotUtcTime =
    must (codes "next_update_not_utc_time") (codes "5.1.2.5") (codes "tbsCertList.nextUpdate")
    (λ l facts. passes is_early_general l.tbs_cert_list.next_update)
crl_field_sentence rules.NextUpdateBeforeThisUpdate =
    must (codes "next_update_before_this_update") (codes "5.1.2.5") (codes "tbsCertList.nextUpdate")
    (λ l facts. passes (λ next. is_before next l.tbs_cert_list.this_update) l.tbs_cert_list.next_update)
crl_field_sentence rules.RevokedCertificatesEmpty =
    must (codes "revoked_certificates_empty") (codes "5.1.2.6") (codes "tbsCertList.revokedCertificates")
    (λ l facts. is_some l.tbs_cert_list.revoked_certificates && not (has_entry There facts))
crl_field_sentence rules.SerialNumberRepeated =
    must (codes "serial_number_repeated") (codes "5.1.2.6") (codes "tbsCertList.revokedCertificates.userCertificate")
    (λ l facts. not facts.entries.are_serials_distinct && not (has_entry (Faulty Issuer) facts))
crl_field_sentence rules.RevocationDateNotUtcTime =
    must (codes "revocation_date_not_utc_time") (codes "5.1.2.6") (codes "tbsCertList.revokedCertificates.revocationDate")
    (λ l facts. has_entry EarlyGeneral facts)
crl_field_sentence rules.ExtensionsEmpty =
    must (codes "extensions_empty") (codes "5.1.2.7") (codes "tbsCertList.crlExtensions")
    (λ l facts. passes is_empty l.tbs_cert_list.crl_extensions)
crl_field_sentence rules.ExtensionRepeated =
    must (codes "extension_repeated") (codes "5.2") (codes "tbsCertList.crlExtensions")
    (λ l facts. facts.is_repeated)

-- ---- of each type of extension, that one of it is malformed

abbrev pub crl_extension_kinds : List CrlExtensionKind
crl_extension_kinds = kinds.AuthorityKeyIdentifier ∷ kinds.IssuerAltName ∷ kinds.CrlNumber ∷ kinds.DeltaCrlIndicator ∷ kinds.IssuingDistributionPoint ∷ kinds.FreshestCrl ∷ kinds.AuthorityInfoAccess ∷ []

-- where in a CRL an extension of the type stands
abbrev pub crl_extension_place : CrlExtensionKind → List ℕ
crl_extension_place kinds.AuthorityKeyIdentifier = codes "tbsCertList.crlExtensions.authorityKeyIdentifier"
crl_extension_place kinds.IssuerAltName = codes "tbsCertList.crlExtensions.issuerAltName"
crl_extension_place kinds.CrlNumber = codes "tbsCertList.crlExtensions.cRLNumber"
crl_extension_place kinds.DeltaCrlIndicator = codes "tbsCertList.crlExtensions.deltaCRLIndicator"
crl_extension_place kinds.IssuingDistributionPoint = codes "tbsCertList.crlExtensions.issuingDistributionPoint"
crl_extension_place kinds.FreshestCrl = codes "tbsCertList.crlExtensions.freshestCRL"
crl_extension_place kinds.AuthorityInfoAccess = codes "tbsCertList.crlExtensions.authorityInfoAccess"

abbrev pub crl_malformed_sentence : CrlExtensionKind → Sentence Crl CrlFacts
crl_malformed_sentence kind =
    must (codes "extension_malformed") (codes "5.2") (crl_extension_place kind)
    (λ l facts. not (is_crl_read facts.read kind))

-- ---- the rules on the lists of the entries' extensions, in their order

abbrev pub crl_entry_list_rules : List CrlEntryListRule
crl_entry_list_rules =
    lists.EntryExtensionsEmpty
    ∷ lists.EntryExtensionRepeated ∷ []

abbrev pub crl_entry_list_sentence : CrlEntryListRule → Sentence Crl CrlFacts
crl_entry_list_sentence lists.EntryExtensionsEmpty =
    must (codes "entry_extensions_empty") (codes "5.3") (codes "tbsCertList.revokedCertificates.crlEntryExtensions")
    (λ l facts. has_entry WithoutExtensions facts)
crl_entry_list_sentence lists.EntryExtensionRepeated =
    must (codes "entry_extension_repeated") (codes "5.3") (codes "tbsCertList.revokedCertificates.crlEntryExtensions")
    (λ l facts. not facts.entries.are_distinct)
