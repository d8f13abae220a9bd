-- The rules on the SAN and the subject of certificates of TLS servers (TLS BR 7.1.2.7, 7.1.2.7.12, 7.1.4.3).
use Rattle.std.specs.Prelude.{◌&&◌, ℕ, Bool, true, false, not, nat_lt, List, [], ◌∷◌, codes, None}
use Rattle.std.specs.List.{list_any}
use Rattle.x509_ext.specs.Identifiers.{id_ce}
use Rattle.x509_ext.specs.declared.pkix.name.general_name.GeneralName.{GeneralName}
use Rattle.x509_ext.specs.declared.pkix.name.general_name.GeneralName.TheVariants.{DnsName, IpAddress}
use Rattle.x509_lint.specs.Text.{id_at}
use Rattle.x509_lint.specs.Words.{extensions_of, has, has_critical, is_empty, passes}
use Rattle.x509_lint_web.specs.Address.{is_reserved_address}
use Rattle.x509_lint_web.specs.Host.{has_underscore, has_reserved_label, has_other_wildcard, has_one_label, is_internal, is_numeric, is_other_onion, is_reverse}
use Rattle.x509_lint_web.specs.Words.{count_of, has_attribute}
use Rattle.x509_lint_web.specs.declared.names.NameFault.{NameFault}
use Rattle.x509_lint_web.specs.declared.names.NameFault.TheVariants.{OtherName, Underscore, ReservedLabel, Wildcard, OneLabel, Internal, Numeric, Reverse, OtherOnion, Reserved}
use Rattle.x509_lint_web.specs.Sentence.{Sentence, from_day, must, should}
use Rattle.x509_lint_web.specs.declared.rule.name.WebNameRule.{WebNameRule}
use Rattle.x509_lint_web.specs.declared.rule.name.WebNameRule.TheVariants as rules

-- ---- names of the SAN

-- a dNSName or an iPAddress
abbrev pub is_host_name : GeneralName → Bool
is_host_name (DnsName text) = true
is_host_name (IpAddress octets) = true
is_host_name other = false

abbrev pub is_faulty_host : NameFault → List ℕ → Bool
is_faulty_host Underscore text = has_underscore text
is_faulty_host ReservedLabel text = has_reserved_label text
is_faulty_host Wildcard text = has_other_wildcard text
is_faulty_host OneLabel text = has_one_label text
is_faulty_host Internal text = is_internal text
is_faulty_host Numeric text = is_numeric text
is_faulty_host Reverse text = is_reverse text
is_faulty_host OtherOnion text = is_other_onion text
is_faulty_host other text = false

abbrev pub is_faulty_address : NameFault → List ℕ → Bool
is_faulty_address Reserved octets = is_reserved_address octets
is_faulty_address other octets = false

abbrev pub is_other : NameFault → Bool
is_other OtherName = true
is_other other = false

-- what is wrong with a name
abbrev pub has_fault : NameFault → GeneralName → Bool
has_fault fault (DnsName text) = is_faulty_host fault text
has_fault fault (IpAddress octets) = is_faulty_address fault octets
has_fault fault name = is_other fault

-- ---- the rules

abbrev pub name_rules : List WebNameRule
name_rules =
    rules.SubjectAltNameAbsent
    ∷ rules.SubjectAltNameWithoutHost
    ∷ rules.SubjectAltNameOther
    ∷ rules.SubjectAltNameCritical
    ∷ rules.DnsNameUnderscore
    ∷ rules.DnsNameReservedLabel
    ∷ rules.DnsNameXnLabelOther
    ∷ rules.DnsNameWildcard
    ∷ rules.DnsNameOneLabel
    ∷ rules.DnsNameInternal
    ∷ rules.DnsNameNumeric
    ∷ rules.DnsNameReverse
    ∷ rules.DnsNameOnionOther
    ∷ rules.AddressReserved
    ∷ rules.CommonNamePresent
    ∷ rules.CommonNameNotInAltName
    ∷ rules.CommonNameNotAsInAltName
    ∷ rules.OrganizationalUnitPresent
    ∷ rules.CommonNameRepeated ∷ []

abbrev pub name_sentence : WebNameRule → Sentence
name_sentence rules.SubjectAltNameAbsent =
    must (codes "subject_alt_name_absent") (codes "7.1.2.7.12") None (codes "tbsCertificate.extensions.subjectAltName")
    (λ c v. not (has (id_ce 17) (extensions_of c)))
name_sentence rules.SubjectAltNameWithoutHost =
    must (codes "subject_alt_name_without_host") (codes "7.1.2.7.12") None (codes "tbsCertificate.extensions.subjectAltName")
    (λ c v. passes (λ s. not (list_any is_host_name s.0)) v.subject_alt_name)
name_sentence rules.SubjectAltNameOther =
    must (codes "subject_alt_name_other") (codes "7.1.2.7.12") None (codes "tbsCertificate.extensions.subjectAltName")
    (λ c v. passes (λ s. list_any (has_fault OtherName) s.0) v.subject_alt_name)
name_sentence rules.SubjectAltNameCritical =
    must (codes "subject_alt_name_critical") (codes "7.1.2.7.12") (from_day 2023 9 15) (codes "tbsCertificate.extensions.subjectAltName")
    (λ c v. has_critical (id_ce 17) (extensions_of c) && not (is_empty c.tbs_certificate.subject))
name_sentence rules.DnsNameUnderscore =
    must (codes "dns_name_underscore") (codes "7.1.2.7.12") (from_day 2019 4 1) (codes "tbsCertificate.extensions.subjectAltName")
    (λ c v. passes (λ s. list_any (has_fault Underscore) s.0) v.subject_alt_name)
name_sentence rules.DnsNameReservedLabel =
    must (codes "dns_name_reserved_label") (codes "7.1.2.7.12") (from_day 2021 10 1) (codes "tbsCertificate.extensions.subjectAltName")
    (λ c v. passes (λ s. list_any (has_fault ReservedLabel) s.0) v.subject_alt_name)
name_sentence rules.DnsNameXnLabelOther =
    must (codes "dns_name_xn_label_other") (codes "7.1.2.7.12") (from_day 2021 10 1) (codes "tbsCertificate.extensions.subjectAltName")
    (λ c v. v.has_other_labels)
name_sentence rules.DnsNameWildcard =
    must (codes "dns_name_wildcard") (codes "7.1.2.7.12") None (codes "tbsCertificate.extensions.subjectAltName")
    (λ c v. passes (λ s. list_any (has_fault Wildcard) s.0) v.subject_alt_name)
name_sentence rules.DnsNameOneLabel =
    must (codes "dns_name_one_label") (codes "7.1.2.7.12") (from_day 2015 11 1) (codes "tbsCertificate.extensions.subjectAltName")
    (λ c v. passes (λ s. list_any (has_fault OneLabel) s.0) v.subject_alt_name)
name_sentence rules.DnsNameInternal =
    must (codes "dns_name_internal") (codes "7.1.2.7.12") (from_day 2015 11 1) (codes "tbsCertificate.extensions.subjectAltName")
    (λ c v. passes (λ s. list_any (has_fault Internal) s.0) v.subject_alt_name)
name_sentence rules.DnsNameNumeric =
    must (codes "dns_name_numeric") (codes "7.1.2.7.12") (from_day 2015 11 1) (codes "tbsCertificate.extensions.subjectAltName")
    (λ c v. passes (λ s. list_any (has_fault Numeric) s.0) v.subject_alt_name)
name_sentence rules.DnsNameReverse =
    should (codes "dns_name_reverse") (codes "7.1.2.7.12") (from_day 2026 3 15) (codes "tbsCertificate.extensions.subjectAltName")
    (λ c v. passes (λ s. list_any (has_fault Reverse) s.0) v.subject_alt_name)
name_sentence rules.DnsNameOnionOther =
    must (codes "dns_name_onion_other") (codes "7.1.2.7.12") (from_day 2023 9 15) (codes "tbsCertificate.extensions.subjectAltName")
    (λ c v. passes (λ s. list_any (has_fault OtherOnion) s.0) v.subject_alt_name)
name_sentence rules.AddressReserved =
    must (codes "address_reserved") (codes "7.1.2.7.12") (from_day 2015 11 1) (codes "tbsCertificate.extensions.subjectAltName")
    (λ c v. passes (λ s. list_any (has_fault Reserved) s.0) v.subject_alt_name)
name_sentence rules.CommonNamePresent =
    should (codes "common_name_present") (codes "7.1.2.7") (from_day 2023 9 15) (codes "tbsCertificate.subject")
    (λ c v. has_attribute (id_at 3) c.tbs_certificate.subject)
name_sentence rules.CommonNameNotInAltName =
    must (codes "common_name_not_in_alt_name") (codes "7.1.4.3") (from_day 2012 7 1) (codes "tbsCertificate.subject")
    (λ c v. v.has_stray_name)
name_sentence rules.CommonNameNotAsInAltName =
    must (codes "common_name_not_as_in_alt_name") (codes "7.1.4.3") (from_day 2021 8 25) (codes "tbsCertificate.subject")
    (λ c v. v.has_rewritten_name)
name_sentence rules.OrganizationalUnitPresent =
    must (codes "organizational_unit_present") (codes "7.1.2.7") (from_day 2022 9 1) (codes "tbsCertificate.subject")
    (λ c v. has_attribute (id_at 11) c.tbs_certificate.subject)
name_sentence rules.CommonNameRepeated =
    must (codes "common_name_repeated") (codes "7.1.4.3") (from_day 2021 8 25) (codes "tbsCertificate.subject")
    (λ c v. nat_lt 1 (count_of (id_at 3) c.tbs_certificate.subject))
