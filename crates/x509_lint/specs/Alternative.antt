-- The rules on the alternative names of the subject and the issuer (RFC 5280 4.2.1.6, 4.2.1.7): what breaks each, their order, and how each is told.
use Rattle.std.specs.Prelude.{Option, ◌&&◌, ◌||◌, ◌==◌, ℕ, Bool, true, false, not, nat_le, nat_lt, List, [], ◌∷◌, length, bytes_eq, codes, is_some, if◌then◌else◌}
use Rattle.std.specs.Char.{is_ascii_alphanumeric}
use Rattle.std.specs.List.{list_all, list_any, slice_get}
use Rattle.std.specs.Str.{is_utf8}
use Rattle.x509_der.specs.declared.any.Any.{Any}
use Rattle.x509_ext.specs.declared.pkix.name.general_name.GeneralName.{GeneralName}
use Rattle.x509_ext.specs.declared.pkix.name.general_name.GeneralName.TheVariants.{OtherName, Rfc822Name, DnsName, DirectoryName, EdiPartyName, UniformResourceIdentifier, IpAddress, RegisteredId}
use Rattle.x509_ext.specs.Identifiers.{id_ce, id_pkix}
use Rattle.x509_ext.specs.declared.extension.Extension.{Extension}
use Rattle.x509_ext.specs.declared.pkix.alternative_names.SubjectAltName.{SubjectAltName}
use Rattle.x509_host.specs.Host.{are_ldh_labels, is_preferred_name}
use Rattle.x509_lint.specs.Beyond.{is_unjudged}
use Rattle.x509_lint.specs.declared.beyond.Beyond.TheVariants.{Names}
use Rattle.x509_lint.specs.Name.{has_empty_rdn, has_no_country}
use Rattle.x509_lint.specs.Text.{has_email, has_faulty_text, is_ia5_string, is_utf8_string}
use Rattle.x509_lint.specs.declared.texts.TextFault.TheVariants.{OtherType, OtherCharacter, Size, Label}
use Rattle.x509_lint.specs.Uri.{before, behind, contains, has_other_host, is_absolute, is_uri}
use Rattle.x509_lint.specs.Words.{Certificate, extensions_of, has, is_empty, passes}
use Rattle.x509_lint.specs.declared.values.AlternativeValues.{AlternativeValues}
use Rattle.x509_lint.specs.declared.rule.alternative.AlternativeRule.{AlternativeRule}
use Rattle.x509_lint.specs.declared.rule.alternative.AlternativeRule.TheVariants as rules
use Rattle.x509_lint.specs.Sentence.{Sentence, must, not_judged, must_of}

-- ---- general names (RFC 5280 4.2.1.6)

-- an empty text, the empty distinguished name, or an address of no octets
abbrev pub is_empty_name : GeneralName → Bool
is_empty_name (OtherName other) = false
is_empty_name (Rfc822Name text) = is_empty text
is_empty_name (DnsName text) = is_empty text
is_empty_name (DirectoryName rdns) = is_empty rdns
is_empty_name (EdiPartyName party) = false
is_empty_name (UniformResourceIdentifier text) = is_empty text
is_empty_name (IpAddress octets) = is_empty octets
is_empty_name (RegisteredId oid) = false

-- a dNSName that isn't empty, and isn't a DNS name
abbrev pub is_no_dns_name : GeneralName → Bool
is_no_dns_name (DnsName text) = not (is_empty text) && not (is_preferred_name text)
is_no_dns_name other = false

-- an iPAddress that isn't empty, and has neither 4 nor 16 octets
abbrev pub is_no_address : GeneralName → Bool
is_no_address (IpAddress octets) = not (is_empty octets) && not (length octets == 4) && not (length octets == 16)
is_no_address other = false

-- ---- mailboxes (RFC 2821 4.1.2, RFC 2822 3.2.4, RFC 5321 4.1.2)

-- ! # $ % & ' * + - / = ? ^ _ ` { | } ~
abbrev pub atom_marks : List ℕ
atom_marks = 33 ∷ 35 ∷ 36 ∷ 37 ∷ 38 ∷ 39 ∷ 42 ∷ 43 ∷ 45 ∷ 47 ∷ 61 ∷ 63 ∷ 94 ∷ 95 ∷ 96 ∷ 123 ∷ 124 ∷ 125 ∷ 126 ∷ []

-- the octets of an atom: letters, digits and these marks
abbrev pub is_atom_octet : ℕ → Bool
is_atom_octet octet = is_ascii_alphanumeric octet || list_any (λ mark. mark == octet) atom_marks

-- the text begins with the octet
abbrev pub begins_with : ℕ → List ℕ → Bool
begins_with octet text = passes (λ first. first == octet) (slice_get text 0)

-- a domain: labels between dots, or an address in brackets, which isn't looked at
abbrev pub is_domain : List ℕ → Bool
is_domain text = are_ldh_labels text || begins_with 91 text

-- atoms between dots, the sign @, and a domain; the octets before these end in an atom, or they end in a dot or are none
abbrev pub is_mailbox_behind : Bool → List ℕ → Bool
is_mailbox_behind in_atom [] = false
is_mailbox_behind in_atom (octet ∷ octets) =
    if octet == 64 then in_atom && is_domain octets
    else if octet == 46 then in_atom && is_mailbox_behind false octets
    else is_atom_octet octet && is_mailbox_behind true octets

-- a printed character of ASCII, or a space
abbrev pub is_printed : ℕ → Bool
is_printed octet = nat_le 32 octet && nat_le octet 126

-- the sign @ and a domain
abbrev pub is_at_domain : List ℕ → Bool
is_at_domain [] = false
is_at_domain (first ∷ octets) = (first == 64) && is_domain octets

-- what stands behind the quote that opens a quoted string (RFC 5321 4.1.2): printed characters, among which a quote or a backslash has a backslash in front, the quote
-- that closes it, the sign @ and a domain; the octet before these is such a backslash, or it isn't
abbrev pub is_quoted_behind : Bool → List ℕ → Bool
is_quoted_behind escaped [] = false
is_quoted_behind escaped (octet ∷ octets) =
    if (octet == 34) && not escaped then is_at_domain octets
    else is_printed octet && is_quoted_behind ((octet == 92) && not escaped) octets

-- a quoted string or atoms, the sign @, and a domain
abbrev pub is_mailbox : List ℕ → Bool
is_mailbox [] = false
is_mailbox (first ∷ octets) = if first == 34 then is_quoted_behind false octets else is_mailbox_behind false (first ∷ octets)

-- an rfc822Name that isn't empty, and isn't a mailbox
abbrev pub is_no_mailbox : GeneralName → Bool
is_no_mailbox (Rfc822Name text) = not (is_empty text) && not (is_mailbox text)
is_no_mailbox other = false

abbrev pub is_rfc822_name : GeneralName → Bool
is_rfc822_name (Rfc822Name text) = true
is_rfc822_name other = false

-- there is no SAN, or the one that there is is read and has no rfc822Name
abbrev pub lacks_mailbox : List Extension → Option SubjectAltName → Bool
lacks_mailbox extensions names = not (has (id_ce 17) extensions) || passes (λ s. not (list_any is_rfc822_name s.0)) names

-- ---- URIs (RFC 3986)

-- a URI that isn't empty, and isn't absolute
abbrev pub is_relative : GeneralName → Bool
is_relative (UniformResourceIdentifier text) = not (is_empty text) && not (is_absolute text)
is_relative other = false

-- an absolute URI of other syntax
abbrev pub is_no_uri : GeneralName → Bool
is_no_uri (UniformResourceIdentifier text) = is_absolute text && not (is_uri text)
is_no_uri other = false

-- an absolute URI whose authority has another host than a fully qualified name or an address
abbrev pub is_at_other_host : GeneralName → Bool
is_at_other_host (UniformResourceIdentifier text) = is_absolute text && has_other_host text
is_at_other_host other = false

-- ---- distinguished names (RFC 5280 4.2.1.6), whose encoding is that of an issuer (4.1.2.4, A.1)

abbrev pub is_odd_directory_name : GeneralName → Bool
is_odd_directory_name (DirectoryName rdns) =
    has_empty_rdn rdns || (has_no_country rdns || (has_faulty_text OtherType rdns || (has_faulty_text OtherCharacter rdns || (has_faulty_text Size rdns || has_faulty_text Label rdns))))
is_odd_directory_name other = false

-- ---- names of services (RFC 4985 2)

-- id-on-dnsSRV
abbrev pub srv_name : List ℕ
srv_name = id_pkix 8 7

-- an underscore, a service, a dot, and a domain name, as a dNSName may be
abbrev pub is_service_of_domain : List ℕ → Bool
is_service_of_domain [] = false
is_service_of_domain (first ∷ octets) = (first == 95) && (not (is_empty (before 46 octets)) && is_preferred_name (behind 46 octets))

-- SRVName, an IA5String
abbrev pub is_srv_name : Any → Bool
is_srv_name value = is_ia5_string value.tag && (list_all (λ octet. nat_lt octet 128) value.value && is_service_of_domain value.value)

abbrev pub is_no_srv_name : GeneralName → Bool
is_no_srv_name (OtherName name) = bytes_eq name.type_id srv_name && not (is_srv_name name.value)
is_no_srv_name other = false

-- ---- mailboxes that rfc822Names can't be (RFC 9598 3)

-- id-on-SmtpUTF8Mailbox
abbrev pub smtp_mailbox : List ℕ
smtp_mailbox = id_pkix 8 9

-- a quoted string, which isn't looked at, and the sign @ behind some of it; or a local part with a character above U+007F, the sign @ and a domain without such
abbrev pub is_wide_mailbox : List ℕ → Bool
is_wide_mailbox text =
    if begins_with 34 text then contains 64 text
    else list_any (λ octet. nat_le 128 octet) (before 64 text) && is_domain (behind 64 text)

-- SmtpUTF8Mailbox, a UTF8String
abbrev pub is_smtp_mailbox : Any → Bool
is_smtp_mailbox value = is_utf8_string value.tag && (is_utf8 value.value && is_wide_mailbox value.value)

abbrev pub is_no_smtp_mailbox : GeneralName → Bool
is_no_smtp_mailbox (OtherName name) = bytes_eq name.type_id smtp_mailbox && not (is_smtp_mailbox name.value)
is_no_smtp_mailbox other = false

-- ---- the rules, in their order

abbrev pub alternative_rules : List AlternativeRule
alternative_rules =
    rules.SubjectEmailNotInAltName
    ∷ rules.SubjectAltNameEmpty
    ∷ rules.SubjectAltNameEmptyName
    ∷ rules.SubjectAltNameDnsNameInvalid
    ∷ rules.SubjectAltNameDnsNameUnnormalized
    ∷ rules.SubjectAltNameAddressLength
    ∷ rules.SubjectAltNameMailboxInvalid
    ∷ rules.SubjectAltNameUriRelative
    ∷ rules.SubjectAltNameUriInvalid
    ∷ rules.SubjectAltNameUriHostInvalid
    ∷ rules.SubjectAltNameDirectoryNameInvalid
    ∷ rules.SubjectAltNameSrvNameInvalid
    ∷ rules.SubjectAltNameSmtpUtf8MailboxInvalid
    ∷ rules.SubjectAltNameNotJudged
    ∷ rules.IssuerAltNameEmpty
    ∷ rules.IssuerAltNameEmptyName
    ∷ rules.IssuerAltNameDnsNameInvalid
    ∷ rules.IssuerAltNameDnsNameUnnormalized
    ∷ rules.IssuerAltNameAddressLength
    ∷ rules.IssuerAltNameMailboxInvalid
    ∷ rules.IssuerAltNameUriRelative
    ∷ rules.IssuerAltNameUriInvalid
    ∷ rules.IssuerAltNameUriHostInvalid
    ∷ rules.IssuerAltNameDirectoryNameInvalid
    ∷ rules.IssuerAltNameSrvNameInvalid
    ∷ rules.IssuerAltNameSmtpUtf8MailboxInvalid
    ∷ rules.IssuerAltNameNotJudged ∷ []

abbrev pub alternative_sentence : AlternativeRule → Sentence Certificate AlternativeValues
alternative_sentence rules.SubjectEmailNotInAltName =
    must (codes "subject_email_not_in_alt_name") (codes "4.1.2.6") (codes "tbsCertificate.extensions.subjectAltName")
    (λ c v. has_email c.tbs_certificate.subject && lacks_mailbox (extensions_of c) v.subject_alt_name)
alternative_sentence rules.SubjectAltNameEmpty =
    must (codes "subject_alt_name_empty") (codes "4.2.1.6") (codes "tbsCertificate.extensions.subjectAltName")
    (λ c v. passes (λ s. is_empty s.0) v.subject_alt_name)
alternative_sentence rules.SubjectAltNameEmptyName =
    must (codes "subject_alt_name_empty_name") (codes "4.2.1.6") (codes "tbsCertificate.extensions.subjectAltName")
    (λ c v. passes (λ s. list_any is_empty_name s.0) v.subject_alt_name)
alternative_sentence rules.SubjectAltNameDnsNameInvalid =
    must (codes "subject_alt_name_dns_name_invalid") (codes "4.2.1.6") (codes "tbsCertificate.extensions.subjectAltName")
    (λ c v. passes (λ s. list_any is_no_dns_name s.0) v.subject_alt_name)
alternative_sentence rules.SubjectAltNameDnsNameUnnormalized =
    must_of (codes "RFC 5891") (codes "subject_alt_name_dns_name_not_normalized") (codes "5.4") (codes "tbsCertificate.extensions.subjectAltName")
    (λ c v. v.has_unnormalized_subject)
alternative_sentence rules.SubjectAltNameAddressLength =
    must (codes "subject_alt_name_address_length") (codes "4.2.1.6") (codes "tbsCertificate.extensions.subjectAltName")
    (λ c v. passes (λ s. list_any is_no_address s.0) v.subject_alt_name)
alternative_sentence rules.SubjectAltNameMailboxInvalid =
    must (codes "subject_alt_name_mailbox_invalid") (codes "4.2.1.6") (codes "tbsCertificate.extensions.subjectAltName")
    (λ c v. passes (λ s. list_any is_no_mailbox s.0) v.subject_alt_name)
alternative_sentence rules.SubjectAltNameUriRelative =
    must (codes "subject_alt_name_uri_relative") (codes "4.2.1.6") (codes "tbsCertificate.extensions.subjectAltName")
    (λ c v. passes (λ s. list_any is_relative s.0) v.subject_alt_name)
alternative_sentence rules.SubjectAltNameUriInvalid =
    must (codes "subject_alt_name_uri_invalid") (codes "4.2.1.6") (codes "tbsCertificate.extensions.subjectAltName")
    (λ c v. passes (λ s. list_any is_no_uri s.0) v.subject_alt_name)
alternative_sentence rules.SubjectAltNameUriHostInvalid =
    must (codes "subject_alt_name_uri_host_invalid") (codes "4.2.1.6") (codes "tbsCertificate.extensions.subjectAltName")
    (λ c v. passes (λ s. list_any is_at_other_host s.0) v.subject_alt_name)
alternative_sentence rules.SubjectAltNameDirectoryNameInvalid =
    must (codes "subject_alt_name_directory_name_invalid") (codes "4.2.1.6") (codes "tbsCertificate.extensions.subjectAltName")
    (λ c v. passes (λ s. list_any is_odd_directory_name s.0) v.subject_alt_name)
alternative_sentence rules.SubjectAltNameSrvNameInvalid =
    must_of (codes "RFC 4985") (codes "subject_alt_name_srv_name_invalid") (codes "2") (codes "tbsCertificate.extensions.subjectAltName")
    (λ c v. passes (λ s. list_any is_no_srv_name s.0) v.subject_alt_name)
alternative_sentence rules.SubjectAltNameSmtpUtf8MailboxInvalid =
    must_of (codes "RFC 9598") (codes "subject_alt_name_smtp_utf8_mailbox_invalid") (codes "3") (codes "tbsCertificate.extensions.subjectAltName")
    (λ c v. passes (λ s. list_any is_no_smtp_mailbox s.0) v.subject_alt_name)
alternative_sentence rules.SubjectAltNameNotJudged =
    not_judged (codes "subject_alt_name_not_read") (codes "4.2.1.6") (codes "tbsCertificate.extensions.subjectAltName")
    (λ c v. is_unjudged (id_ce 17) Names (extensions_of c) (is_some v.subject_alt_name))
alternative_sentence rules.IssuerAltNameEmpty =
    must (codes "issuer_alt_name_empty") (codes "4.2.1.7") (codes "tbsCertificate.extensions.issuerAltName")
    (λ c v. passes (λ s. is_empty s.0) v.issuer_alt_name)
alternative_sentence rules.IssuerAltNameEmptyName =
    must (codes "issuer_alt_name_empty_name") (codes "4.2.1.7") (codes "tbsCertificate.extensions.issuerAltName")
    (λ c v. passes (λ s. list_any is_empty_name s.0) v.issuer_alt_name)
alternative_sentence rules.IssuerAltNameDnsNameInvalid =
    must (codes "issuer_alt_name_dns_name_invalid") (codes "4.2.1.7") (codes "tbsCertificate.extensions.issuerAltName")
    (λ c v. passes (λ s. list_any is_no_dns_name s.0) v.issuer_alt_name)
alternative_sentence rules.IssuerAltNameDnsNameUnnormalized =
    must_of (codes "RFC 5891") (codes "issuer_alt_name_dns_name_not_normalized") (codes "5.4") (codes "tbsCertificate.extensions.issuerAltName")
    (λ c v. v.has_unnormalized_issuer)
alternative_sentence rules.IssuerAltNameAddressLength =
    must (codes "issuer_alt_name_address_length") (codes "4.2.1.7") (codes "tbsCertificate.extensions.issuerAltName")
    (λ c v. passes (λ s. list_any is_no_address s.0) v.issuer_alt_name)
alternative_sentence rules.IssuerAltNameMailboxInvalid =
    must (codes "issuer_alt_name_mailbox_invalid") (codes "4.2.1.7") (codes "tbsCertificate.extensions.issuerAltName")
    (λ c v. passes (λ s. list_any is_no_mailbox s.0) v.issuer_alt_name)
alternative_sentence rules.IssuerAltNameUriRelative =
    must (codes "issuer_alt_name_uri_relative") (codes "4.2.1.7") (codes "tbsCertificate.extensions.issuerAltName")
    (λ c v. passes (λ s. list_any is_relative s.0) v.issuer_alt_name)
alternative_sentence rules.IssuerAltNameUriInvalid =
    must (codes "issuer_alt_name_uri_invalid") (codes "4.2.1.7") (codes "tbsCertificate.extensions.issuerAltName")
    (λ c v. passes (λ s. list_any is_no_uri s.0) v.issuer_alt_name)
alternative_sentence rules.IssuerAltNameUriHostInvalid =
    must (codes "issuer_alt_name_uri_host_invalid") (codes "4.2.1.7") (codes "tbsCertificate.extensions.issuerAltName")
    (λ c v. passes (λ s. list_any is_at_other_host s.0) v.issuer_alt_name)
alternative_sentence rules.IssuerAltNameDirectoryNameInvalid =
    must (codes "issuer_alt_name_directory_name_invalid") (codes "4.2.1.7") (codes "tbsCertificate.extensions.issuerAltName")
    (λ c v. passes (λ s. list_any is_odd_directory_name s.0) v.issuer_alt_name)
alternative_sentence rules.IssuerAltNameSrvNameInvalid =
    must_of (codes "RFC 4985") (codes "issuer_alt_name_srv_name_invalid") (codes "2") (codes "tbsCertificate.extensions.issuerAltName")
    (λ c v. passes (λ s. list_any is_no_srv_name s.0) v.issuer_alt_name)
alternative_sentence rules.IssuerAltNameSmtpUtf8MailboxInvalid =
    must_of (codes "RFC 9598") (codes "issuer_alt_name_smtp_utf8_mailbox_invalid") (codes "3") (codes "tbsCertificate.extensions.issuerAltName")
    (λ c v. passes (λ s. list_any is_no_smtp_mailbox s.0) v.issuer_alt_name)
alternative_sentence rules.IssuerAltNameNotJudged =
    not_judged (codes "issuer_alt_name_not_read") (codes "4.2.1.7") (codes "tbsCertificate.extensions.issuerAltName")
    (λ c v. is_unjudged (id_ce 18) Names (extensions_of c) (is_some v.issuer_alt_name))
