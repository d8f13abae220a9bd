-- The rules on trust anchors (RFC 5914 2, RFC 5280 4.1.2.4, 4.2): what breaks each, their order, and how each is told.
use Rattle.std.specs.Prelude.{◌≢◌, ◌↔◌, ◌&&◌, ◌==◌, IsTrue, ℕ, Bool, not, List, [], ◌∷◌, ◌++◌, length, Option, Some, None, bytes_eq, codes, is_some}
use Rattle.std.specs.Char.{is_ascii_alphanumeric}
use Rattle.std.specs.List.{All, list_all, list_any, slice_split}
use Rattle.std.specs.Str.{chars}
use Rattle.x509_base.specs.declared.profile.Raw.{Raw}
use Rattle.x509_base.specs.declared.subject_public_key_info.SubjectPublicKeyInfo.{SubjectPublicKeyInfo}
use Rattle.x509_cert.specs.declared.anchor.cert_path_controls.CertPathControls.{CertPathControls}
use Rattle.x509_cert.specs.declared.anchor.trust_anchor_info.TrustAnchorInfo.{TrustAnchorInfo}
use Rattle.x509_cert.specs.declared.certificate.tbs_certificate.TbsCertificateInner.{TbsCertificateInner}
use Rattle.x509_der.specs.Set.{AreDistinct}
use Rattle.x509_ext.specs.Identifiers.{id_ce}
use Rattle.x509_ext.specs.LookUp.{IsRepeated, members}
use Rattle.x509_ext.specs.SubjectKeyIdentifier.{subject_key_identifier}
use Rattle.x509_ext.specs.declared.extension.Extension.{Extension}
use Rattle.x509_ext.specs.declared.pkix.policy_information.PolicyInformation.{PolicyInformation}
use Rattle.x509_lint.specs.Constraint.{breaks_name_constraints, constraint_wording}
use Rattle.x509_lint.specs.List.{extension_text}
use Rattle.x509_lint.specs.Name.{has_empty_rdn, has_no_country}
use Rattle.x509_lint.specs.Read.{AreExtensionsRead, is_read}
use Rattle.x509_lint.specs.Text.{has_faulty_text, is_outside}
use Rattle.x509_lint.specs.Values.{HasDistinctTypes, policies_of, policy_identifiers}
use Rattle.x509_lint.specs.Words.{Certificate, IsValue, extensions_of, has, is_empty, passes}
use Rattle.x509_lint.specs.declared.anchor.values.AnchorValues.{AnchorValues}
use Rattle.x509_lint.specs.declared.rule.anchor.AnchorRule.{AnchorRule}
use Rattle.x509_lint.specs.declared.rule.anchor.AnchorRule.TheVariants as rules
use Rattle.x509_lint.specs.declared.rule.anchor.AnchorExtensionRule.{AnchorExtensionRule}
use Rattle.x509_lint.specs.declared.rule.anchor.AnchorExtensionRule.TheVariants as extensions
use Rattle.x509_lint.specs.declared.rule.constraint.ConstraintRule.{ConstraintRule}
use Rattle.x509_lint.specs.declared.rule.list.ExtensionKind.{ExtensionKind}
use Rattle.x509_lint.specs.declared.texts.TextFault.TheVariants.{OtherType, OldType, OtherCharacter, Size, Label}
use Rattle.x509_lint.specs.Sentence.{Sentence, must, must_of, should, should_of}
use Rattle.x509_name.specs.declared.attr.type_and_value.AttributeTypeAndValue.{AttributeTypeAndValue}
use Rattle.x509_prim.specs.BitString.{parts_of}

abbrev pub Controls : Type 0
Controls = CertPathControls Raw

abbrev pub Info : Type 0
Info = TrustAnchorInfo Raw

-- ---- an anchor that is a certificate without a signature (RFC 5914 3)

-- the certificate of a signed part, with its algorithm outside too, and a signature of no bits
abbrev pub unsigned : TbsCertificateInner Raw → Certificate
unsigned signed = record { tbs_certificate = signed; signature_algorithm = signed.signature; signature = parts_of 0 [] }

-- ---- the title (RFC 5914 2.4)

-- one to eight letters and digits (RFC 5646 2.1)
abbrev pub is_subtag : List ℕ → Bool
is_subtag octets = list_all is_ascii_alphanumeric octets && not (is_outside 8 (length octets))

-- such subtags with a hyphen between two of them
abbrev pub are_subtags : List ℕ → Bool
are_subtags text = list_all is_subtag (slice_split (λ octet. octet == 45) text)

-- ---- the controls (RFC 5914 2.5)

abbrev pub policy_set : Option Controls → List PolicyInformation
policy_set None = []
policy_set (Some controls) = policies_of controls.policy_set

-- the RDNs of the name in them
abbrev pub ta_rdns : Option Controls → List (List AttributeTypeAndValue)
ta_rdns None = []
ta_rdns (Some controls) = controls.ta_name

abbrev certificate_extensions : Option Certificate → List Extension
certificate_extensions None = []
certificate_extensions (Some c) = extensions_of c

-- of the certificate in them; none where there is no certificate
abbrev pub own_extensions : Option Controls → List Extension
own_extensions None = []
own_extensions (Some controls) = certificate_extensions controls.certificate

-- there is a certificate, and this of it isn't what it has to be
abbrev pub Differs : {X : Type 0} → (Certificate → X) → X → Option Certificate → Type 0
Differs field own None = ⊥
Differs field own (Some c) = field c ≢ own

abbrev pub SubjectDiffers : Option Controls → Type 0
SubjectDiffers None = ⊥
SubjectDiffers (Some controls) = Differs (λ c. c.tbs_certificate.subject) controls.ta_name controls.certificate

abbrev pub KeyDiffers : SubjectPublicKeyInfo → Option Controls → Type 0
KeyDiffers key None = ⊥
KeyDiffers key (Some controls) = Differs (λ c. c.tbs_certificate.subject_public_key_info) key controls.certificate

abbrev pub AreAnchorValues : Info → AnchorValues → Type 0
AreAnchorValues t v =
    (IsTrue v.subject_differs ↔ SubjectDiffers t.cert_path)
    × (IsTrue v.key_differs ↔ KeyDiffers t.pub_key t.cert_path)
    × IsValue subject_key_identifier (id_ce 14) (own_extensions t.cert_path) v.key_identifier
    × (IsTrue v.are_policies_distinct ↔ AreDistinct (policy_identifiers (policy_set t.cert_path)))
    × (IsTrue v.is_repeated ↔ IsRepeated (members t.extensions))
    × AreExtensionsRead (members t.extensions) v.read
    × (IsTrue v.is_name_distinct ↔ All HasDistinctTypes (ta_rdns t.cert_path))

-- ---- the rules, in their order

abbrev pub anchor_rules : List AnchorRule
anchor_rules =
    rules.TaTitleSize
    ∷ rules.TaTitleLangTagInvalid
    ∷ rules.TaNameEmpty
    ∷ rules.TaNameRdnEmpty
    ∷ rules.TaNameRdnTypeRepeated
    ∷ rules.TaNameCountryNameInvalid
    ∷ rules.TaNameTextType
    ∷ rules.TaNameTextOldType
    ∷ rules.TaNameTextCharacters
    ∷ rules.TaNameTextSize
    ∷ rules.TaNameDomainComponentInvalid
    ∷ rules.CertificateSubjectDiffers
    ∷ rules.CertificateKeyDiffers
    ∷ rules.CertificateKeyIdentifierDiffers
    ∷ rules.PolicySetEmpty
    ∷ rules.PolicySetRepeated
    ∷ rules.PolicySetQualifiers ∷ []

abbrev pub anchor_sentence : AnchorRule → Sentence Info AnchorValues
anchor_sentence rules.TaTitleSize =
    must_of (codes "RFC 5914") (codes "ta_title_size") (codes "2.4") (codes "taInfo.taTitle")
    (λ t v. passes (λ title. is_outside 64 (length (chars title))) t.ta_title)
anchor_sentence rules.TaTitleLangTagInvalid =
    should_of (codes "RFC 5914") (codes "ta_title_lang_tag_invalid") (codes "2.4") (codes "taInfo.taTitleLangTag")
    (λ t v. passes (λ tag. not (are_subtags tag)) t.ta_title_lang_tag)
anchor_sentence rules.TaNameEmpty =
    must_of (codes "RFC 5914") (codes "ta_name_empty") (codes "2.5") (codes "taInfo.certPath.taName")
    (λ t v. passes (λ c. is_empty c.ta_name) t.cert_path)
anchor_sentence rules.TaNameRdnEmpty =
    must (codes "ta_name_rdn_empty") (codes "4.1.2.4") (codes "taInfo.certPath.taName")
    (λ t v. passes (λ c. has_empty_rdn c.ta_name) t.cert_path)
anchor_sentence rules.TaNameRdnTypeRepeated =
    must_of (codes "X.501") (codes "ta_name_rdn_type_repeated") (codes "9.3") (codes "taInfo.certPath.taName")
    (λ t v. not v.is_name_distinct)
anchor_sentence rules.TaNameCountryNameInvalid =
    must (codes "ta_name_country_name_invalid") (codes "A.1") (codes "taInfo.certPath.taName")
    (λ t v. passes (λ c. has_no_country c.ta_name) t.cert_path)
anchor_sentence rules.TaNameTextType =
    must (codes "ta_name_text_type") (codes "A.1") (codes "taInfo.certPath.taName")
    (λ t v. passes (λ c. has_faulty_text OtherType c.ta_name) t.cert_path)
anchor_sentence rules.TaNameTextOldType =
    should (codes "ta_name_text_old_type") (codes "4.1.2.4") (codes "taInfo.certPath.taName")
    (λ t v. passes (λ c. has_faulty_text OldType c.ta_name) t.cert_path)
anchor_sentence rules.TaNameTextCharacters =
    must (codes "ta_name_text_characters") (codes "4.1.2.4") (codes "taInfo.certPath.taName")
    (λ t v. passes (λ c. has_faulty_text OtherCharacter c.ta_name) t.cert_path)
anchor_sentence rules.TaNameTextSize =
    must (codes "ta_name_text_size") (codes "A.1") (codes "taInfo.certPath.taName")
    (λ t v. passes (λ c. has_faulty_text Size c.ta_name) t.cert_path)
anchor_sentence rules.TaNameDomainComponentInvalid =
    must_of (codes "RFC 4519") (codes "ta_name_domain_component_invalid") (codes "2.4") (codes "taInfo.certPath.taName")
    (λ t v. passes (λ c. has_faulty_text Label c.ta_name) t.cert_path)
anchor_sentence rules.CertificateSubjectDiffers =
    must_of (codes "RFC 5914") (codes "certificate_subject_differs") (codes "2.5") (codes "taInfo.certPath.certificate.tbsCertificate.subject")
    (λ t v. v.subject_differs)
anchor_sentence rules.CertificateKeyDiffers =
    must_of (codes "RFC 5914") (codes "certificate_key_differs") (codes "2.5") (codes "taInfo.certPath.certificate.tbsCertificate.subjectPublicKeyInfo")
    (λ t v. v.key_differs)
anchor_sentence rules.CertificateKeyIdentifierDiffers =
    must_of (codes "RFC 5914") (codes "certificate_key_identifier_differs") (codes "2.5") (codes "taInfo.certPath.certificate.tbsCertificate.extensions.subjectKeyIdentifier")
    (λ t v. passes (λ k. not (bytes_eq k.0 t.key_id)) v.key_identifier)
anchor_sentence rules.PolicySetEmpty =
    must (codes "policy_set_empty") (codes "4.2.1.4") (codes "taInfo.certPath.policySet")
    (λ t v. passes (λ c. passes (λ p. is_empty p.0) c.policy_set) t.cert_path)
anchor_sentence rules.PolicySetRepeated =
    must (codes "policy_set_repeated") (codes "4.2.1.4") (codes "taInfo.certPath.policySet")
    (λ t v. not v.are_policies_distinct)
anchor_sentence rules.PolicySetQualifiers =
    must_of (codes "RFC 5914") (codes "policy_set_qualifiers") (codes "2.5") (codes "taInfo.certPath.policySet")
    (λ t v. list_any (λ p. is_some p.policy_qualifiers) (policy_set t.cert_path))

-- ---- the rules on name constraints, at their place in the controls

abbrev pub anchor_constraint_sentence : ConstraintRule → Sentence Info AnchorValues
anchor_constraint_sentence rule = record {
  wording = record (constraint_wording rule) { place = codes "taInfo.certPath.nameConstr" };
  breaks = λ t v. passes (λ c. passes (breaks_name_constraints rule) c.name_constr) t.cert_path;
}

-- ---- the rules on the list of extensions, in their order

abbrev pub anchor_extension_rules : List AnchorExtensionRule
anchor_extension_rules =
    extensions.ExtensionsEmpty
    ∷ extensions.ExtensionRepeated
    ∷ extensions.CertificatePoliciesInExts
    ∷ extensions.PolicyConstraintsInExts
    ∷ extensions.InhibitAnyPolicyInExts
    ∷ extensions.NameConstraintsInExts ∷ []

abbrev pub anchor_extension_sentence : AnchorExtensionRule → Sentence Info AnchorValues
anchor_extension_sentence extensions.ExtensionsEmpty =
    must (codes "extensions_empty") (codes "4.1.2.9") (codes "taInfo.exts")
    (λ t v. passes is_empty t.extensions)
anchor_extension_sentence extensions.ExtensionRepeated =
    must (codes "extension_repeated") (codes "4.2") (codes "taInfo.exts")
    (λ t v. v.is_repeated)
anchor_extension_sentence extensions.CertificatePoliciesInExts =
    must_of (codes "RFC 5914") (codes "certificate_policies_in_exts") (codes "2.6") (codes "taInfo.exts.certificatePolicies")
    (λ t v. has (id_ce 32) (members t.extensions))
anchor_extension_sentence extensions.PolicyConstraintsInExts =
    must_of (codes "RFC 5914") (codes "policy_constraints_in_exts") (codes "2.6") (codes "taInfo.exts.policyConstraints")
    (λ t v. has (id_ce 36) (members t.extensions))
anchor_extension_sentence extensions.InhibitAnyPolicyInExts =
    must_of (codes "RFC 5914") (codes "inhibit_any_policy_in_exts") (codes "2.6") (codes "taInfo.exts.inhibitAnyPolicy")
    (λ t v. has (id_ce 54) (members t.extensions))
anchor_extension_sentence extensions.NameConstraintsInExts =
    must_of (codes "RFC 5914") (codes "name_constraints_in_exts") (codes "2.6") (codes "taInfo.exts.nameConstraints")
    (λ t v. has (id_ce 30) (members t.extensions))

-- ---- of each type of extension, that one of it is malformed

-- where in an anchor an extension of the type stands
abbrev pub anchor_extension_place : ExtensionKind → List ℕ
anchor_extension_place kind = codes "taInfo.exts." ++ extension_text kind

abbrev pub anchor_malformed_sentence : ExtensionKind → Sentence Info AnchorValues
anchor_malformed_sentence kind =
    must (codes "extension_malformed") (codes "4.2") (anchor_extension_place kind)
    (λ t v. not (is_read v.read kind))
