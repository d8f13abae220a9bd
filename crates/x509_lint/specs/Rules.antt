-- All rules: which of them are asked of certificates, of CRLs, of CSRs and of trust anchors, in which order, and what breaks each.
use Rattle.std.specs.Prelude.{◌≡◌, Bool, false, List, ◌++◌, map, filter}
use Rattle.x509_base.specs.declared.profile.Raw.{Raw}
use Rattle.x509_cert.specs.declared.anchor.trust_anchor_choice.TrustAnchorChoice.{TrustAnchorChoice}
use Rattle.x509_cert.specs.declared.anchor.trust_anchor_choice.TrustAnchorChoice.TheVariants as anchors
use Rattle.x509_cert.specs.declared.request.cert_req.CertReq.{CertReq}
use Rattle.x509_crl_index.specs.Split.{without_entries}
use Rattle.x509_lint.specs.Alternative as alternative
use Rattle.x509_lint.specs.Anchor as anchor
use Rattle.x509_lint.specs.Authority as authority
use Rattle.x509_lint.specs.Constraint as constraint
use Rattle.x509_lint.specs.Critical as critical
use Rattle.x509_lint.specs.CrlEntry as crl_entry
use Rattle.x509_lint.specs.CrlExtension as crl_extension
use Rattle.x509_lint.specs.CrlField as crl_field
use Rattle.x509_lint.specs.Field as field
use Rattle.x509_lint.specs.Key as key
use Rattle.x509_lint.specs.List as list
use Rattle.x509_lint.specs.Name as name
use Rattle.x509_lint.specs.Point as point
use Rattle.x509_lint.specs.Policy as policy
use Rattle.x509_lint.specs.PublicKey as public_key
use Rattle.x509_lint.specs.Request as request
use Rattle.x509_lint.specs.Values.{AreCertificateParts, AreCrlParts, CertificateParts}
use Rattle.x509_lint.specs.Words.{Certificate, Crl}
use Rattle.x509_lint.specs.declared.crl.CrlParts.{CrlParts}
use Rattle.x509_lint.specs.Wording.{Wording}
use Rattle.x509_lint.specs.declared.anchor.values.AnchorValues.{AnchorValues}
use Rattle.x509_lint.specs.declared.request.values.RequestValues.{RequestValues}
use Rattle.x509_lint.specs.declared.rule.Rule.{Rule}
use Rattle.x509_lint.specs.declared.rule.Rule.TheVariants.{Field, Name, ExtensionList, ExtensionMalformed, Critical, Authority, Key, Alternative, Policy, Constraint, Point, PublicKey, CrlField, CrlExtensionMalformed, CrlEntryList, CrlExtension, CrlEntry, Request, RequestExtensionMalformed, RequestName, Anchor, AnchorConstraint, AnchorExtension, AnchorExtensionMalformed}

abbrev pub rule_wording : Rule → Wording
rule_wording (Field rule) = (field.field_sentence rule).wording
rule_wording (Name rule) = (name.name_sentence rule).wording
rule_wording (ExtensionList rule) = (list.list_sentence rule).wording
rule_wording (ExtensionMalformed rule) = (list.malformed_sentence rule).wording
rule_wording (Critical rule) = (critical.critical_sentence rule).wording
rule_wording (Authority rule) = (authority.authority_sentence rule).wording
rule_wording (Key rule) = (key.key_sentence rule).wording
rule_wording (Alternative rule) = (alternative.alternative_sentence rule).wording
rule_wording (Policy rule) = (policy.policy_sentence rule).wording
rule_wording (Constraint rule) = (constraint.constraint_sentence rule).wording
rule_wording (Point rule) = (point.point_sentence rule).wording
rule_wording (PublicKey rule) = (public_key.public_key_sentence rule).wording
rule_wording (CrlField rule) = (crl_field.crl_field_sentence rule).wording
rule_wording (CrlExtensionMalformed rule) = (crl_field.crl_malformed_sentence rule).wording
rule_wording (CrlEntryList rule) = (crl_field.crl_entry_list_sentence rule).wording
rule_wording (CrlExtension rule) = (crl_extension.crl_extension_sentence rule).wording
rule_wording (CrlEntry rule) = (crl_entry.crl_entry_sentence rule).wording
rule_wording (Request rule) = (request.request_sentence rule).wording
rule_wording (RequestExtensionMalformed rule) = (request.request_malformed_sentence rule).wording
rule_wording (RequestName rule) = (request.request_name_sentence rule).wording
rule_wording (Anchor rule) = (anchor.anchor_sentence rule).wording
rule_wording (AnchorConstraint rule) = (anchor.anchor_constraint_sentence rule).wording
rule_wording (AnchorExtension rule) = (anchor.anchor_extension_sentence rule).wording
rule_wording (AnchorExtensionMalformed rule) = (anchor.anchor_malformed_sentence rule).wording

-- ---- certificates (RFC 5280 4.1, 4.2, and what PublicKey.antt names)

abbrev pub certificate_rules : List Rule
certificate_rules =
    map Field field.field_rules ++ map Name name.name_rules ++ map ExtensionList list.list_rules
    ++ map ExtensionMalformed list.extension_kinds ++ map Critical critical.critical_rules ++ map Authority authority.authority_rules
    ++ map Key key.key_rules ++ map Alternative alternative.alternative_rules ++ map Policy policy.policy_rules
    ++ map Constraint constraint.constraint_rules ++ map Point point.point_rules ++ map PublicKey public_key.public_key_rules

-- whether the certificate, of which these are the parts, breaks the rule
abbrev pub breaks : Certificate → CertificateParts → Rule → Bool
breaks c parts (Field rule) = (field.field_sentence rule).breaks c parts.facts
breaks c parts (Name rule) = (name.name_sentence rule).breaks c parts.facts
breaks c parts (ExtensionList rule) = (list.list_sentence rule).breaks c parts.facts
breaks c parts (ExtensionMalformed rule) = (list.malformed_sentence rule).breaks c parts.facts
breaks c parts (Critical rule) = (critical.critical_sentence rule).breaks c parts.facts
breaks c parts (Authority rule) = (authority.authority_sentence rule).breaks c parts.authority
breaks c parts (Key rule) = (key.key_sentence rule).breaks c parts.key
breaks c parts (Alternative rule) = (alternative.alternative_sentence rule).breaks c parts.alternative
breaks c parts (Policy rule) = (policy.policy_sentence rule).breaks c parts.policy
breaks c parts (Constraint rule) = (constraint.constraint_sentence rule).breaks c parts.constraint
breaks c parts (Point rule) = (point.point_sentence rule).breaks c parts.point
breaks c parts (PublicKey rule) = (public_key.public_key_sentence rule).breaks c parts.public_key
breaks c parts _ = false

-- the findings are those of the rules that the certificate breaks, in the order of the rules
abbrev pub AreFindings : Certificate → List Rule → Type 0
AreFindings c findings = (parts : CertificateParts) × AreCertificateParts c parts × (findings ≡ filter (breaks c parts) certificate_rules)

-- ---- CRLs (RFC 5280 5.1 to 5.3)

abbrev pub crl_rules : List Rule
crl_rules =
    map CrlField crl_field.crl_field_rules ++ map CrlExtensionMalformed crl_field.crl_extension_kinds ++ map CrlEntryList crl_field.crl_entry_list_rules
    ++ map CrlExtension crl_extension.crl_extension_rules ++ map CrlEntry crl_entry.crl_entry_rules

abbrev pub crl_breaks : Crl → CrlParts → Rule → Bool
crl_breaks l parts (CrlField rule) = (crl_field.crl_field_sentence rule).breaks l parts.facts
crl_breaks l parts (CrlExtensionMalformed rule) = (crl_field.crl_malformed_sentence rule).breaks l parts.facts
crl_breaks l parts (CrlEntryList rule) = (crl_field.crl_entry_list_sentence rule).breaks l parts.facts
crl_breaks l parts (CrlExtension rule) = (crl_extension.crl_extension_sentence rule).breaks l parts.values
crl_breaks l parts (CrlEntry rule) = (crl_entry.crl_entry_sentence rule).breaks l parts
crl_breaks l parts _ = false

-- no rule looks at the entries but by what was asked of them once
abbrev pub AreCrlFindings : Crl → List Rule → Type 0
AreCrlFindings l findings = (parts : CrlParts) × AreCrlParts l parts × (findings ≡ filter (crl_breaks (without_entries l) parts) crl_rules)

-- ---- CSRs (RFC 2986 4.1, RFC 2985 5.4)

abbrev pub request_rules : List Rule
request_rules =
    map Request request.request_rules ++ map RequestExtensionMalformed list.extension_kinds ++ map RequestName request.request_name_rules

abbrev pub request_breaks : CertReq → RequestValues → Rule → Bool
request_breaks r v (Request rule) = (request.request_sentence rule).breaks r v
request_breaks r v (RequestExtensionMalformed rule) = (request.request_malformed_sentence rule).breaks r v
request_breaks r v (RequestName rule) = (request.request_name_sentence rule).breaks r v
request_breaks r v _ = false

abbrev pub AreRequestFindings : CertReq → List Rule → Type 0
AreRequestFindings r findings = (values : RequestValues) × request.AreRequestValues r values × (findings ≡ filter (request_breaks r values) request_rules)

-- ---- trust anchors (RFC 5914 2, 3)

abbrev pub info_rules : List Rule
info_rules =
    map Anchor anchor.anchor_rules ++ map AnchorConstraint constraint.constraint_rules ++ map AnchorExtension anchor.anchor_extension_rules
    ++ map AnchorExtensionMalformed list.extension_kinds

abbrev pub info_breaks : anchor.Info → AnchorValues → Rule → Bool
info_breaks t v (Anchor rule) = (anchor.anchor_sentence rule).breaks t v
info_breaks t v (AnchorConstraint rule) = (anchor.anchor_constraint_sentence rule).breaks t v
info_breaks t v (AnchorExtension rule) = (anchor.anchor_extension_sentence rule).breaks t v
info_breaks t v (AnchorExtensionMalformed rule) = (anchor.anchor_malformed_sentence rule).breaks t v
info_breaks t v _ = false

abbrev pub AreInfoFindings : anchor.Info → List Rule → Type 0
AreInfoFindings info findings = (values : AnchorValues) × anchor.AreAnchorValues info values × (findings ≡ filter (info_breaks info values) info_rules)

-- of a certificate, also of one without a signature, those on certificates
abbrev pub AreAnchorFindings : TrustAnchorChoice Raw → List Rule → Type 0
AreAnchorFindings (anchors.Certificate c) findings = AreFindings c findings
AreAnchorFindings (anchors.TbsCertificate signed) findings = AreFindings (anchor.unsigned signed) findings
AreAnchorFindings (anchors.TaInfo info) findings = AreInfoFindings info findings
