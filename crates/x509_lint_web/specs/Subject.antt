-- The rules on the attributes of the subject of certificates of TLS servers (TLS BR 7.1.2.7, 7.1.4).
use Rattle.std.specs.Prelude.{◌&&◌, ◌||◌, ◌==◌, ℕ, Bool, false, not, max, nat_lt, length, List, [], ◌∷◌, bytes_eq, codes, if◌then◌else◌}
use Rattle.std.specs.List.{list_all, list_any}
use Rattle.x509_lint.specs.Text.{id_at}
use Rattle.x509_lint.specs.Words.{is_empty}
use Rattle.x509_lint_web.specs.Country.{is_country}
use Rattle.x509_lint_web.specs.Policy.{extended_validation, individual_validated, organization_validated}
use Rattle.x509_lint_web.specs.Words.{count_of, has_attribute, has_policy}
use Rattle.x509_name.specs.declared.attr.type_and_value.AttributeTypeAndValue.{AttributeTypeAndValue}
use Rattle.x509_lint_web.specs.Sentence.{Sentence, from_day, must, should}
use Rattle.x509_lint_web.specs.declared.rule.subject.WebSubjectRule.{WebSubjectRule}
use Rattle.x509_lint_web.specs.declared.rule.subject.WebSubjectRule.TheVariants as rules

-- ---- attributes

-- 1.3.6.1.4.1.311.60.2.1.3 (EV Guidelines 7.1.4.2.4)
abbrev pub jurisdiction_country : List ℕ
jurisdiction_country = 0x2B ∷ 0x06 ∷ 0x01 ∷ 0x04 ∷ 0x01 ∷ 0x82 ∷ 0x37 ∷ 0x3C ∷ 0x02 ∷ 0x01 ∷ 0x03 ∷ []

-- localityName or stateOrProvinceName
abbrev pub has_place : List (List AttributeTypeAndValue) → Bool
has_place name = has_attribute (id_at 7) name || has_attribute (id_at 8) name

-- surname or givenName
abbrev pub has_personal_name : List (List AttributeTypeAndValue) → Bool
has_personal_name name = has_attribute (id_at 4) name || has_attribute (id_at 42) name

-- not both of them
abbrev pub lacks_personal_name : List (List AttributeTypeAndValue) → Bool
lacks_personal_name name = not (has_attribute (id_at 4) name) || not (has_attribute (id_at 42) name)

-- some attribute of the name passes the test
abbrev pub has_some : (AttributeTypeAndValue → Bool) → List (List AttributeTypeAndValue) → Bool
has_some test name = list_any (λ rdn. list_any test rdn) name

-- countryName or jurisdictionCountryName
abbrev pub is_country_attribute : AttributeTypeAndValue → Bool
is_country_attribute a = bytes_eq a.oid (id_at 6) || bytes_eq a.oid jurisdiction_country

abbrev pub is_unknown_country : AttributeTypeAndValue → Bool
is_unknown_country a = is_country_attribute a && not (is_country a.value.value)

-- a full stop, a hyphen or a space
abbrev pub is_mark : ℕ → Bool
is_mark octet = (octet == 46) || ((octet == 45) || (octet == 32))

-- these alone, one or more
abbrev pub is_without_text : AttributeTypeAndValue → Bool
is_without_text a = not (is_empty a.value.value) && list_all is_mark a.value.value

-- countryName, stateOrProvinceName, localityName, postalCode, organizationName, surname, givenName, serialNumber, businessCategory, jurisdictionCountryName
abbrev pub single_attributes : List (List ℕ)
single_attributes =
    id_at 6 ∷ id_at 8 ∷ id_at 7 ∷ id_at 17 ∷ id_at 10 ∷ id_at 4 ∷ id_at 42 ∷ id_at 5 ∷ id_at 15 ∷ jurisdiction_country ∷ []

-- ---- order (TLS BR 7.1.4.2)

-- domainComponent, 0.9.2342.19200300.100.1.25 (RFC 4519 2.4)
abbrev pub domain_component : List ℕ
domain_component = 0x09 ∷ 0x92 ∷ 0x26 ∷ 0x89 ∷ 0x93 ∷ 0xF2 ∷ 0x2C ∷ 0x64 ∷ 0x01 ∷ 0x19 ∷ []

-- the place of a type: domainComponent, countryName, stateOrProvinceName, localityName, postalCode, streetAddress, organizationName, surname, givenName,
-- organizationalUnitName, commonName; 0 for any other
abbrev pub place_of : List ℕ → ℕ
place_of oid =
    if bytes_eq oid domain_component then 1 else if bytes_eq oid (id_at 6) then 2 else if bytes_eq oid (id_at 8) then 3
    else if bytes_eq oid (id_at 7) then 4 else if bytes_eq oid (id_at 17) then 5 else if bytes_eq oid (id_at 9) then 6
    else if bytes_eq oid (id_at 10) then 7 else if bytes_eq oid (id_at 4) then 8 else if bytes_eq oid (id_at 42) then 9
    else if bytes_eq oid (id_at 11) then 10 else if bytes_eq oid (id_at 3) then 11 else 0

-- the type has a place, and it is below this one
abbrev pub is_below : ℕ → AttributeTypeAndValue → Bool
is_below place a = nat_lt 0 (place_of a.oid) && nat_lt (place_of a.oid) place

-- the highest place: this one, or that of an attribute
abbrev pub highest : ℕ → List AttributeTypeAndValue → ℕ
highest place [] = place
highest place (a ∷ attributes) = highest (max place (place_of a.oid)) attributes

-- an attribute stands behind one in an earlier RDN whose type has a higher place, or this place
abbrev pub is_disordered : ℕ → List (List AttributeTypeAndValue) → Bool
is_disordered place [] = false
is_disordered place (rdn ∷ rdns) = list_any (is_below place) rdn || is_disordered (highest place rdn) rdns

-- ---- the rules

abbrev pub subject_rules : List WebSubjectRule
subject_rules =
    rules.OrganizationValidatedWithoutPlace
    ∷ rules.OrganizationValidatedPersonalName
    ∷ rules.IndividualValidatedWithoutName
    ∷ rules.IndividualValidatedWithoutCountry
    ∷ rules.IndividualValidatedWithoutPlace
    ∷ rules.ExtendedValidationWithoutOrganization
    ∷ rules.ExtendedValidationWithoutCountry
    ∷ rules.ExtendedValidationWithoutPlace
    ∷ rules.ExtendedValidationWithoutCategory
    ∷ rules.ExtendedValidationWithoutNumber
    ∷ rules.ExtendedValidationWithoutJurisdiction
    ∷ rules.CountryUnknown
    ∷ rules.AttributeWithoutText
    ∷ rules.AttributeRepeated
    ∷ rules.RdnOfSeveralAttributes
    ∷ rules.AttributeOrder ∷ []

abbrev pub subject_sentence : WebSubjectRule → Sentence
subject_sentence rules.OrganizationValidatedWithoutPlace =
    must (codes "organization_validated_without_place") (codes "7.1.2.7.4") (from_day 2023 9 15) (codes "tbsCertificate.subject")
    (λ c v. has_policy organization_validated v && not (has_place c.tbs_certificate.subject))
subject_sentence rules.OrganizationValidatedPersonalName =
    must (codes "organization_validated_personal_name") (codes "7.1.2.7.4") (from_day 2023 9 15) (codes "tbsCertificate.subject")
    (λ c v. has_policy organization_validated v && has_personal_name c.tbs_certificate.subject)
subject_sentence rules.IndividualValidatedWithoutName =
    must (codes "individual_validated_without_name") (codes "7.1.2.7.3") (from_day 2023 9 15) (codes "tbsCertificate.subject")
    (λ c v. has_policy individual_validated v && lacks_personal_name c.tbs_certificate.subject)
subject_sentence rules.IndividualValidatedWithoutCountry =
    must (codes "individual_validated_without_country") (codes "7.1.2.7.3") (from_day 2023 9 15) (codes "tbsCertificate.subject")
    (λ c v. has_policy individual_validated v && not (has_attribute (id_at 6) c.tbs_certificate.subject))
subject_sentence rules.IndividualValidatedWithoutPlace =
    must (codes "individual_validated_without_place") (codes "7.1.2.7.3") (from_day 2023 9 15) (codes "tbsCertificate.subject")
    (λ c v. has_policy individual_validated v && not (has_place c.tbs_certificate.subject))
subject_sentence rules.ExtendedValidationWithoutOrganization =
    must (codes "extended_validation_without_organization") (codes "7.1.2.7.5") (from_day 2023 9 15) (codes "tbsCertificate.subject")
    (λ c v. has_policy extended_validation v && not (has_attribute (id_at 10) c.tbs_certificate.subject))
subject_sentence rules.ExtendedValidationWithoutCountry =
    must (codes "extended_validation_without_country") (codes "7.1.2.7.5") (from_day 2023 9 15) (codes "tbsCertificate.subject")
    (λ c v. has_policy extended_validation v && not (has_attribute (id_at 6) c.tbs_certificate.subject))
subject_sentence rules.ExtendedValidationWithoutPlace =
    must (codes "extended_validation_without_place") (codes "7.1.2.7.5") (from_day 2023 9 15) (codes "tbsCertificate.subject")
    (λ c v. has_policy extended_validation v && not (has_place c.tbs_certificate.subject))
subject_sentence rules.ExtendedValidationWithoutCategory =
    must (codes "extended_validation_without_category") (codes "7.1.2.7.5") (from_day 2023 9 15) (codes "tbsCertificate.subject")
    (λ c v. has_policy extended_validation v && not (has_attribute (id_at 15) c.tbs_certificate.subject))
subject_sentence rules.ExtendedValidationWithoutNumber =
    must (codes "extended_validation_without_number") (codes "7.1.2.7.5") (from_day 2023 9 15) (codes "tbsCertificate.subject")
    (λ c v. has_policy extended_validation v && not (has_attribute (id_at 5) c.tbs_certificate.subject))
subject_sentence rules.ExtendedValidationWithoutJurisdiction =
    must (codes "extended_validation_without_jurisdiction") (codes "7.1.2.7.5") (from_day 2023 9 15) (codes "tbsCertificate.subject")
    (λ c v. has_policy extended_validation v && not (has_attribute jurisdiction_country c.tbs_certificate.subject))
subject_sentence rules.CountryUnknown =
    must (codes "country_unknown") (codes "7.1.2.7") (from_day 2012 7 1) (codes "tbsCertificate.subject")
    (λ c v. has_some is_unknown_country c.tbs_certificate.subject)
subject_sentence rules.AttributeWithoutText =
    must (codes "attribute_without_text") (codes "7.1.4.2") (from_day 2023 9 15) (codes "tbsCertificate.subject")
    (λ c v. has_some is_without_text c.tbs_certificate.subject)
subject_sentence rules.AttributeRepeated =
    should (codes "attribute_repeated") (codes "7.1.4.1") (from_day 2023 9 15) (codes "tbsCertificate.subject")
    (λ c v. list_any (λ oid. nat_lt 1 (count_of oid c.tbs_certificate.subject)) single_attributes)
subject_sentence rules.RdnOfSeveralAttributes =
    must (codes "rdn_of_several_attributes") (codes "7.1.4.1") (from_day 2023 9 15) (codes "tbsCertificate.subject")
    (λ c v. list_any (λ rdn. nat_lt 1 (length rdn)) c.tbs_certificate.subject)
subject_sentence rules.AttributeOrder =
    must (codes "attribute_order") (codes "7.1.4.2") (from_day 2023 9 15) (codes "tbsCertificate.subject")
    (λ c v. is_disordered 0 c.tbs_certificate.subject)
