-- The rules on the issuer and the subject of a certificate (RFC 5280 4.1.2.4, 4.1.2.6): what breaks each, their order, and how each is told.
use Rattle.std.specs.Prelude.{◌&&◌, ◌==◌, Bool, true, false, not, List, [], ◌∷◌, length, bytes_eq, codes}
use Rattle.std.specs.Char.{is_ascii_alphabetic}
use Rattle.std.specs.List.{list_all, list_any}
use Rattle.x509_der.specs.declared.tag.Tag.{Tag}
use Rattle.x509_der.specs.declared.tag.Tag.TheVariants.{PrintableString}
use Rattle.x509_der.specs.declared.any.Any.{Any}
use Rattle.x509_ext.specs.Identifiers.{id_ce}
use Rattle.x509_name.specs.AttributeTypes.{country_name}
use Rattle.x509_name.specs.declared.attr.type_and_value.AttributeTypeAndValue.{AttributeTypeAndValue}
use Rattle.x509_lint.specs.Text.{has_faulty_text}
use Rattle.x509_lint.specs.declared.texts.TextFault.TheVariants.{OtherType, OldType, OtherCharacter, Size, Label}
use Rattle.x509_lint.specs.Words.{Certificate, extensions_of, has_critical, is_empty}
use Rattle.x509_lint.specs.declared.facts.CertificateFacts.{CertificateFacts}
use Rattle.x509_lint.specs.declared.rule.name.NameRule.{NameRule}
use Rattle.x509_lint.specs.declared.rule.name.NameRule.TheVariants as rules
use Rattle.x509_lint.specs.Sentence.{Sentence, must, should, must_of}

abbrev pub is_printable : Tag → Bool
is_printable PrintableString = true
is_printable other = false

-- a PrintableString of two letters (X520countryName, RFC 5280 A.1)
abbrev pub is_country : Any → Bool
is_country value = is_printable value.tag && (length value.value == 2) && list_all is_ascii_alphabetic value.value

-- a countryName whose value is none
abbrev pub is_no_country : AttributeTypeAndValue → Bool
is_no_country attribute = bytes_eq attribute.oid country_name && not (is_country attribute.value)

abbrev pub has_no_country : List (List AttributeTypeAndValue) → Bool
has_no_country rdns = list_any (λ rdn. list_any is_no_country rdn) rdns

-- an RDN is SET SIZE (1..MAX) (RFC 5280 4.1.2.4)
abbrev pub has_empty_rdn : List (List AttributeTypeAndValue) → Bool
has_empty_rdn rdns = list_any (λ rdn. is_empty rdn) rdns

-- ---- the rules, in their order

abbrev pub name_rules : List NameRule
name_rules =
    rules.IssuerRdnEmpty
    ∷ rules.IssuerRdnTypeRepeated
    ∷ rules.IssuerCountryNameInvalid
    ∷ rules.IssuerTextType
    ∷ rules.IssuerTextOldType
    ∷ rules.IssuerTextCharacters
    ∷ rules.IssuerTextSize
    ∷ rules.IssuerDomainComponentInvalid
    ∷ rules.SubjectRdnEmpty
    ∷ rules.SubjectRdnTypeRepeated
    ∷ rules.SubjectCountryNameInvalid
    ∷ rules.SubjectTextType
    ∷ rules.SubjectTextOldType
    ∷ rules.SubjectTextCharacters
    ∷ rules.SubjectTextSize
    ∷ rules.SubjectDomainComponentInvalid
    ∷ rules.SubjectEmptyWithoutCriticalAltName ∷ []

abbrev pub name_sentence : NameRule → Sentence Certificate CertificateFacts
name_sentence rules.IssuerRdnEmpty =
    must (codes "issuer_rdn_empty") (codes "4.1.2.4") (codes "tbsCertificate.issuer")
    (λ c facts. has_empty_rdn c.tbs_certificate.issuer)
name_sentence rules.IssuerRdnTypeRepeated =
    must_of (codes "X.501") (codes "issuer_rdn_type_repeated") (codes "9.3") (codes "tbsCertificate.issuer")
    (λ c facts. not facts.is_issuer_distinct)
name_sentence rules.IssuerCountryNameInvalid =
    must (codes "issuer_country_name_invalid") (codes "A.1") (codes "tbsCertificate.issuer")
    (λ c facts. has_no_country c.tbs_certificate.issuer)
name_sentence rules.IssuerTextType =
    must (codes "issuer_text_type") (codes "A.1") (codes "tbsCertificate.issuer")
    (λ c facts. has_faulty_text OtherType c.tbs_certificate.issuer)
name_sentence rules.IssuerTextOldType =
    should (codes "issuer_text_old_type") (codes "4.1.2.4") (codes "tbsCertificate.issuer")
    (λ c facts. has_faulty_text OldType c.tbs_certificate.issuer)
name_sentence rules.IssuerTextCharacters =
    must (codes "issuer_text_characters") (codes "4.1.2.4") (codes "tbsCertificate.issuer")
    (λ c facts. has_faulty_text OtherCharacter c.tbs_certificate.issuer)
name_sentence rules.IssuerTextSize =
    must (codes "issuer_text_size") (codes "A.1") (codes "tbsCertificate.issuer")
    (λ c facts. has_faulty_text Size c.tbs_certificate.issuer)
name_sentence rules.IssuerDomainComponentInvalid =
    must_of (codes "RFC 4519") (codes "issuer_domain_component_invalid") (codes "2.4") (codes "tbsCertificate.issuer")
    (λ c facts. has_faulty_text Label c.tbs_certificate.issuer)
name_sentence rules.SubjectRdnEmpty =
    must (codes "subject_rdn_empty") (codes "4.1.2.6") (codes "tbsCertificate.subject")
    (λ c facts. has_empty_rdn c.tbs_certificate.subject)
name_sentence rules.SubjectRdnTypeRepeated =
    must_of (codes "X.501") (codes "subject_rdn_type_repeated") (codes "9.3") (codes "tbsCertificate.subject")
    (λ c facts. not facts.is_subject_distinct)
name_sentence rules.SubjectCountryNameInvalid =
    must (codes "subject_country_name_invalid") (codes "A.1") (codes "tbsCertificate.subject")
    (λ c facts. has_no_country c.tbs_certificate.subject)
name_sentence rules.SubjectTextType =
    must (codes "subject_text_type") (codes "A.1") (codes "tbsCertificate.subject")
    (λ c facts. has_faulty_text OtherType c.tbs_certificate.subject)
name_sentence rules.SubjectTextOldType =
    should (codes "subject_text_old_type") (codes "4.1.2.6") (codes "tbsCertificate.subject")
    (λ c facts. has_faulty_text OldType c.tbs_certificate.subject)
name_sentence rules.SubjectTextCharacters =
    must (codes "subject_text_characters") (codes "4.1.2.6") (codes "tbsCertificate.subject")
    (λ c facts. has_faulty_text OtherCharacter c.tbs_certificate.subject)
name_sentence rules.SubjectTextSize =
    must (codes "subject_text_size") (codes "A.1") (codes "tbsCertificate.subject")
    (λ c facts. has_faulty_text Size c.tbs_certificate.subject)
name_sentence rules.SubjectDomainComponentInvalid =
    must_of (codes "RFC 4519") (codes "subject_domain_component_invalid") (codes "2.4") (codes "tbsCertificate.subject")
    (λ c facts. has_faulty_text Label c.tbs_certificate.subject)
name_sentence rules.SubjectEmptyWithoutCriticalAltName =
    must (codes "subject_empty_without_critical_alt_name") (codes "4.1.2.6") (codes "tbsCertificate.subject")
    (λ c facts. is_empty c.tbs_certificate.subject && not (has_critical (id_ce 17) (extensions_of c)))
