-- The rules on CSRs (RFC 2986 4.1, RFC 2985 5.4, RFC 5280 4.1.2.6, 4.2): what breaks each, their order, and how each is told.
use Rattle.std.specs.Prelude.{◌≡◌, ◌↔◌, ◌&&◌, ◌||◌, IsTrue, ℕ, Bool, not, nat_lt, List, [], ◌∷◌, ◌++◌, length, Option, Some, None, bytes_eq, codes, is_some, map, refl}
use Rattle.std.specs.List.{All, list_all, list_any}
use Rattle.x509_cert.specs.AttributeLookUp.{with_type}
use Rattle.x509_cert.specs.ChallengePassword.{challenge_password}
use Rattle.x509_cert.specs.Identifiers.{pkcs_9}
use Rattle.x509_cert.specs.declared.request.cert_req.CertReq.{CertReq}
use Rattle.x509_cert.specs.declared.request.extension_req.ExtensionReq.{ExtensionReq}
use Rattle.x509_der.specs.Form.{Form}
use Rattle.x509_der.specs.Round.{Round, rounded}
use Rattle.x509_der.specs.Set.{AreDistinct}
use Rattle.x509_der.specs.Tag.{octet_of}
use Rattle.x509_der.specs.declared.any.Any.{Any}
use Rattle.x509_der.specs.declared.tag.Tag.TheVariants.{Sequence}
use Rattle.x509_ext.specs.AlternativeNames.{subject_alt_name}
use Rattle.x509_ext.specs.Extension.{extensions}
use Rattle.x509_ext.specs.Identifiers.{id_ce}
use Rattle.x509_ext.specs.LookUp.{IsRepeated}
use Rattle.x509_ext.specs.declared.extension.Extension.{Extension}
use Rattle.x509_lint.specs.Alternative.{is_at_other_host, is_empty_name, is_no_address, is_no_dns_name, is_no_mailbox, is_no_smtp_mailbox, is_no_srv_name, is_no_uri, is_odd_directory_name, is_relative}
use Rattle.x509_lint.specs.Beyond.{is_unjudged}
use Rattle.x509_lint.specs.declared.beyond.Beyond.TheVariants.{Names}
use Rattle.x509_lint.specs.List.{extension_text}
use Rattle.x509_lint.specs.Label.{is_unnormalized_name}
use Rattle.x509_lint.specs.Name.{has_empty_rdn, has_no_country}
use Rattle.x509_lint.specs.Notices.{value_read}
use Rattle.x509_lint.specs.Read.{AreExtensionsRead, is_read}
use Rattle.x509_lint.specs.Text.{char_count, has_faulty_text, is_new_string, is_old_string, is_outside, is_printable_octet, is_utf8_string}
use Rattle.x509_lint.specs.Values.{HasDistinctTypes}
use Rattle.x509_lint.specs.Words.{IsValue, has, is_empty, passes}
use Rattle.x509_lint.specs.declared.request.passwords.PasswordFault.{PasswordFault}
use Rattle.x509_lint.specs.declared.request.passwords.PasswordFault.TheVariants as passwords
use Rattle.x509_lint.specs.declared.request.values.RequestValues.{RequestValues}
use Rattle.x509_lint.specs.declared.rule.list.ExtensionKind.{ExtensionKind}
use Rattle.x509_lint.specs.declared.rule.request.RequestRule.{RequestRule}
use Rattle.x509_lint.specs.declared.rule.request.RequestRule.TheVariants as rules
use Rattle.x509_lint.specs.declared.rule.request.RequestNameRule.{RequestNameRule}
use Rattle.x509_lint.specs.declared.rule.request.RequestNameRule.TheVariants as names
use Rattle.x509_lint.specs.declared.texts.TextFault.TheVariants.{OtherType, OldType, OtherCharacter, Size, Label}
use Rattle.x509_lint.specs.Sentence.{Sentence, must, must_of, should, should_of, not_judged}
use Rattle.x509_name.specs.declared.attr.attribute.Attribute.{Attribute}

-- ---- attributes (RFC 2986 4.1)

abbrev pub attribute_types : List Attribute → List (List ℕ)
attribute_types attributes = map (λ (a : Attribute). a.oid) attributes

-- an attribute of the type has two values or more
abbrev pub has_several_values : List ℕ → List Attribute → Bool
has_several_values oid attributes = list_any (λ a. bytes_eq a.oid oid && nat_lt 1 (length a.values)) attributes

-- the value that the element is the encoding of
abbrev pub element_value : {T : Type 0} → Form T → Any → Option T
element_value form element = value_read (form.reading (octet_of element.tag) element.value)

-- the element is the encoding of no value
unfoldable pub is_unread : {T : Type 0} → Form T → Any → Bool
is_unread form element = not (is_some (element_value form element))

-- an attribute of the type, and a value of it that is the encoding of none
abbrev pub is_malformed_as : {T : Type 0} → Form T → List ℕ → Attribute → Bool
is_malformed_as form oid a = bytes_eq a.oid oid && list_any (is_unread form) a.values

-- some attribute is
abbrev pub has_malformed : {T : Type 0} → Form T → List ℕ → List Attribute → Bool
has_malformed form oid attributes = list_any (is_malformed_as form oid) attributes

-- ---- challenge passwords (RFC 2985 5.4.1)

-- a DirectoryString outside of 1 to 255 characters
abbrev pub has_odd_size : Any → Bool
has_odd_size value = (is_new_string value.tag || is_old_string value.tag) && is_outside 255 (char_count value.tag value.value)

-- of an old type, or a UTF8String of characters that a PrintableString has
abbrev pub has_other_type : Any → Bool
has_other_type value = is_old_string value.tag || (is_utf8_string value.tag && list_all is_printable_octet value.value)

abbrev pub is_faulty_password : PasswordFault → Any → Bool
is_faulty_password passwords.Size value = has_odd_size value
is_faulty_password passwords.OtherType value = has_other_type value

-- a value of a challengePassword has the fault
abbrev pub has_faulty_password : PasswordFault → List Attribute → Bool
has_faulty_password fault attributes = list_any (λ a. bytes_eq a.oid (pkcs_9 7) && list_any (is_faulty_password fault) a.values) attributes

-- ---- the extensions that are asked for (RFC 2985 5.4.2)

abbrev extension_req_round : Round ExtensionReq (List Extension)
extension_req_round = record { to = λ requested. requested.0; from = λ members. record { 0 = members }; back = λ requested. refl; there = λ members. refl }

abbrev pub extension_req : Form ExtensionReq
extension_req = rounded extension_req_round Sequence extensions

abbrev pub one_value : Form ExtensionReq → List Any → Option ExtensionReq
one_value form [] = None
one_value form (value ∷ []) = element_value form value
one_value form (first ∷ second ∷ values) = None

-- those of the one value of the one extensionRequest; None where there isn't one of both, or it can't be read
abbrev pub requested_in : Form ExtensionReq → List Attribute → Option ExtensionReq
requested_in form [] = None
requested_in form (attribute ∷ []) = one_value form attribute.values
requested_in form (first ∷ second ∷ attributes) = None

abbrev pub requested_of : CertReq → Option ExtensionReq
requested_of r = requested_in extension_req (with_type (pkcs_9 14) r.info.attributes)

abbrev pub requested_extensions : Option ExtensionReq → List Extension
requested_extensions None = []
requested_extensions (Some requested) = requested.0

abbrev pub AreRequestValues : CertReq → RequestValues → Type 0
AreRequestValues r v =
    (IsTrue v.are_types_distinct ↔ AreDistinct (attribute_types r.info.attributes))
    × (v.is_password_malformed ≡ has_malformed challenge_password (pkcs_9 7) r.info.attributes)
    × (v.is_request_malformed ≡ has_malformed extension_req (pkcs_9 14) r.info.attributes)
    × (v.requested ≡ requested_of r)
    × (IsTrue v.is_repeated ↔ IsRepeated (requested_extensions v.requested))
    × AreExtensionsRead (requested_extensions v.requested) v.read
    × IsValue subject_alt_name (id_ce 17) (requested_extensions v.requested) v.subject_alt_name
    × (v.has_unnormalized_name ≡ passes (λ s. list_any is_unnormalized_name s.0) v.subject_alt_name)
    × (IsTrue v.is_subject_distinct ↔ All HasDistinctTypes r.info.subject)

-- ---- the rules, in their order

abbrev pub request_rules : List RequestRule
request_rules =
    rules.SubjectRdnEmpty
    ∷ rules.SubjectRdnTypeRepeated
    ∷ rules.SubjectCountryNameInvalid
    ∷ rules.SubjectTextType
    ∷ rules.SubjectTextOldType
    ∷ rules.SubjectTextCharacters
    ∷ rules.SubjectTextSize
    ∷ rules.SubjectDomainComponentInvalid
    ∷ rules.SubjectEmptyWithoutAltName
    ∷ rules.AttributeRepeated
    ∷ rules.AttributeValuesEmpty
    ∷ rules.ChallengePasswordValues
    ∷ rules.ChallengePasswordMalformed
    ∷ rules.ChallengePasswordSize
    ∷ rules.ChallengePasswordType
    ∷ rules.ExtensionRequestValues
    ∷ rules.ExtensionRequestMalformed
    ∷ rules.ExtensionsEmpty
    ∷ rules.ExtensionRepeated ∷ []

abbrev pub request_sentence : RequestRule → Sentence CertReq RequestValues
request_sentence rules.SubjectRdnEmpty =
    must (codes "subject_rdn_empty") (codes "4.1.2.6") (codes "certificationRequestInfo.subject")
    (λ r v. has_empty_rdn r.info.subject)
request_sentence rules.SubjectRdnTypeRepeated =
    must_of (codes "X.501") (codes "subject_rdn_type_repeated") (codes "9.3") (codes "certificationRequestInfo.subject")
    (λ r v. not v.is_subject_distinct)
request_sentence rules.SubjectCountryNameInvalid =
    must (codes "subject_country_name_invalid") (codes "A.1") (codes "certificationRequestInfo.subject")
    (λ r v. has_no_country r.info.subject)
request_sentence rules.SubjectTextType =
    must (codes "subject_text_type") (codes "A.1") (codes "certificationRequestInfo.subject")
    (λ r v. has_faulty_text OtherType r.info.subject)
request_sentence rules.SubjectTextOldType =
    should (codes "subject_text_old_type") (codes "4.1.2.6") (codes "certificationRequestInfo.subject")
    (λ r v. has_faulty_text OldType r.info.subject)
request_sentence rules.SubjectTextCharacters =
    must (codes "subject_text_characters") (codes "4.1.2.6") (codes "certificationRequestInfo.subject")
    (λ r v. has_faulty_text OtherCharacter r.info.subject)
request_sentence rules.SubjectTextSize =
    must (codes "subject_text_size") (codes "A.1") (codes "certificationRequestInfo.subject")
    (λ r v. has_faulty_text Size r.info.subject)
request_sentence rules.SubjectDomainComponentInvalid =
    must_of (codes "RFC 4519") (codes "subject_domain_component_invalid") (codes "2.4") (codes "certificationRequestInfo.subject")
    (λ r v. has_faulty_text Label r.info.subject)
request_sentence rules.SubjectEmptyWithoutAltName =
    must (codes "subject_empty_without_alt_name") (codes "4.1.2.6") (codes "certificationRequestInfo.subject")
    (λ r v. is_empty r.info.subject && not (has (id_ce 17) (requested_extensions v.requested)))
request_sentence rules.AttributeRepeated =
    should_of (codes "RFC 2986") (codes "attribute_repeated") (codes "4.1") (codes "certificationRequestInfo.attributes")
    (λ r v. not v.are_types_distinct)
request_sentence rules.AttributeValuesEmpty =
    must_of (codes "RFC 2986") (codes "attribute_values_empty") (codes "4.1") (codes "certificationRequestInfo.attributes")
    (λ r v. list_any (λ a. is_empty a.values) r.info.attributes)
request_sentence rules.ChallengePasswordValues =
    must_of (codes "RFC 2985") (codes "challenge_password_several_values") (codes "5.4.1") (codes "certificationRequestInfo.attributes.challengePassword")
    (λ r v. has_several_values (pkcs_9 7) r.info.attributes)
request_sentence rules.ChallengePasswordMalformed =
    must_of (codes "RFC 2985") (codes "challenge_password_malformed") (codes "5.4.1") (codes "certificationRequestInfo.attributes.challengePassword")
    (λ r v. v.is_password_malformed)
request_sentence rules.ChallengePasswordSize =
    must_of (codes "RFC 2985") (codes "challenge_password_size") (codes "5.4.1") (codes "certificationRequestInfo.attributes.challengePassword")
    (λ r v. has_faulty_password passwords.Size r.info.attributes)
request_sentence rules.ChallengePasswordType =
    should_of (codes "RFC 2985") (codes "challenge_password_type") (codes "5.4.1") (codes "certificationRequestInfo.attributes.challengePassword")
    (λ r v. has_faulty_password passwords.OtherType r.info.attributes)
request_sentence rules.ExtensionRequestValues =
    must_of (codes "RFC 2985") (codes "extension_request_several_values") (codes "5.4.2") (codes "certificationRequestInfo.attributes.extensionRequest")
    (λ r v. has_several_values (pkcs_9 14) r.info.attributes)
request_sentence rules.ExtensionRequestMalformed =
    must_of (codes "RFC 2985") (codes "extension_request_malformed") (codes "5.4.2") (codes "certificationRequestInfo.attributes.extensionRequest")
    (λ r v. v.is_request_malformed)
request_sentence rules.ExtensionsEmpty =
    must (codes "extensions_empty") (codes "4.1.2.9") (codes "certificationRequestInfo.attributes.extensionRequest")
    (λ r v. passes (λ q. is_empty q.0) v.requested)
request_sentence rules.ExtensionRepeated =
    must (codes "extension_repeated") (codes "4.2") (codes "certificationRequestInfo.attributes.extensionRequest")
    (λ r v. v.is_repeated)

-- ---- of each type of extension, that one of it that is asked for is malformed

-- where in a CSR an extension of the type that is asked for stands
abbrev pub request_extension_place : ExtensionKind → List ℕ
request_extension_place kind = codes "certificationRequestInfo.attributes.extensionRequest." ++ extension_text kind

abbrev pub request_malformed_sentence : ExtensionKind → Sentence CertReq RequestValues
request_malformed_sentence kind =
    must (codes "extension_malformed") (codes "4.2") (request_extension_place kind)
    (λ r v. not (is_read v.read kind))

-- ---- the rules on the SAN that is asked for, in their order

abbrev pub request_name_rules : List RequestNameRule
request_name_rules =
    names.SubjectAltNameEmpty
    ∷ names.SubjectAltNameEmptyName
    ∷ names.SubjectAltNameDnsNameInvalid
    ∷ names.SubjectAltNameDnsNameUnnormalized
    ∷ names.SubjectAltNameAddressLength
    ∷ names.SubjectAltNameMailboxInvalid
    ∷ names.SubjectAltNameUriRelative
    ∷ names.SubjectAltNameUriInvalid
    ∷ names.SubjectAltNameUriHostInvalid
    ∷ names.SubjectAltNameDirectoryNameInvalid
    ∷ names.SubjectAltNameSrvNameInvalid
    ∷ names.SubjectAltNameSmtpUtf8MailboxInvalid
    ∷ names.SubjectAltNameNotJudged ∷ []

abbrev pub request_name_sentence : RequestNameRule → Sentence CertReq RequestValues
request_name_sentence names.SubjectAltNameEmpty =
    must (codes "subject_alt_name_empty") (codes "4.2.1.6") (codes "certificationRequestInfo.attributes.extensionRequest.subjectAltName")
    (λ r v. passes (λ s. is_empty s.0) v.subject_alt_name)
request_name_sentence names.SubjectAltNameEmptyName =
    must (codes "subject_alt_name_empty_name") (codes "4.2.1.6") (codes "certificationRequestInfo.attributes.extensionRequest.subjectAltName")
    (λ r v. passes (λ s. list_any is_empty_name s.0) v.subject_alt_name)
request_name_sentence names.SubjectAltNameDnsNameInvalid =
    must (codes "subject_alt_name_dns_name_invalid") (codes "4.2.1.6") (codes "certificationRequestInfo.attributes.extensionRequest.subjectAltName")
    (λ r v. passes (λ s. list_any is_no_dns_name s.0) v.subject_alt_name)
request_name_sentence names.SubjectAltNameDnsNameUnnormalized =
    must_of (codes "RFC 5891") (codes "subject_alt_name_dns_name_not_normalized") (codes "5.4") (codes "certificationRequestInfo.attributes.extensionRequest.subjectAltName")
    (λ r v. v.has_unnormalized_name)
request_name_sentence names.SubjectAltNameAddressLength =
    must (codes "subject_alt_name_address_length") (codes "4.2.1.6") (codes "certificationRequestInfo.attributes.extensionRequest.subjectAltName")
    (λ r v. passes (λ s. list_any is_no_address s.0) v.subject_alt_name)
request_name_sentence names.SubjectAltNameMailboxInvalid =
    must (codes "subject_alt_name_mailbox_invalid") (codes "4.2.1.6") (codes "certificationRequestInfo.attributes.extensionRequest.subjectAltName")
    (λ r v. passes (λ s. list_any is_no_mailbox s.0) v.subject_alt_name)
request_name_sentence names.SubjectAltNameUriRelative =
    must (codes "subject_alt_name_uri_relative") (codes "4.2.1.6") (codes "certificationRequestInfo.attributes.extensionRequest.subjectAltName")
    (λ r v. passes (λ s. list_any is_relative s.0) v.subject_alt_name)
request_name_sentence names.SubjectAltNameUriInvalid =
    must (codes "subject_alt_name_uri_invalid") (codes "4.2.1.6") (codes "certificationRequestInfo.attributes.extensionRequest.subjectAltName")
    (λ r v. passes (λ s. list_any is_no_uri s.0) v.subject_alt_name)
request_name_sentence names.SubjectAltNameUriHostInvalid =
    must (codes "subject_alt_name_uri_host_invalid") (codes "4.2.1.6") (codes "certificationRequestInfo.attributes.extensionRequest.subjectAltName")
    (λ r v. passes (λ s. list_any is_at_other_host s.0) v.subject_alt_name)
request_name_sentence names.SubjectAltNameDirectoryNameInvalid =
    must (codes "subject_alt_name_directory_name_invalid") (codes "4.2.1.6") (codes "certificationRequestInfo.attributes.extensionRequest.subjectAltName")
    (λ r v. passes (λ s. list_any is_odd_directory_name s.0) v.subject_alt_name)
request_name_sentence names.SubjectAltNameSrvNameInvalid =
    must_of (codes "RFC 4985") (codes "subject_alt_name_srv_name_invalid") (codes "2") (codes "certificationRequestInfo.attributes.extensionRequest.subjectAltName")
    (λ r v. passes (λ s. list_any is_no_srv_name s.0) v.subject_alt_name)
request_name_sentence names.SubjectAltNameSmtpUtf8MailboxInvalid =
    must_of (codes "RFC 9598") (codes "subject_alt_name_smtp_utf8_mailbox_invalid") (codes "3") (codes "certificationRequestInfo.attributes.extensionRequest.subjectAltName")
    (λ r v. passes (λ s. list_any is_no_smtp_mailbox s.0) v.subject_alt_name)
request_name_sentence names.SubjectAltNameNotJudged =
    not_judged (codes "subject_alt_name_not_read") (codes "4.2.1.6") (codes "certificationRequestInfo.attributes.extensionRequest.subjectAltName")
    (λ r v. is_unjudged (id_ce 17) Names (requested_extensions v.requested) (is_some v.subject_alt_name))
