-- Lines of trust anchors (RFC 5914).
use Rattle.std.specs.Prelude.{ℕ, ◌^◌, ◌==◌, List, [], ◌++◌, Bool, Option, codes}
use Rattle.std.specs.Int.RustNames.{bit_and}
use Rattle.x509_cert.specs.declared.anchor.cert_path_controls.CertPathControls.{CertPathControls}
use Rattle.x509_cert.specs.declared.anchor.cert_policies.CertPolicies.{CertPolicies}
use Rattle.x509_cert.specs.declared.anchor.trust_anchor_choice.TrustAnchorChoice.{TrustAnchorChoice}
use Rattle.x509_cert.specs.declared.anchor.trust_anchor_choice.TrustAnchorChoice.TheVariants.{Certificate, TbsCertificate, TaInfo}
use Rattle.x509_cert.specs.declared.anchor.trust_anchor_info.TrustAnchorInfo.{TrustAnchorInfo}
use Rattle.x509_cert.specs.declared.anchor.version.Version.{Version}
use Rattle.x509_cert.specs.declared.anchor.version.Version.TheVariants.{V1}
use Rattle.x509_cert.specs.declared.certificate.certificate.CertificateInner.{CertificateInner}
use Rattle.x509_ext.specs.declared.pkix.certificate_policies.CertificatePolicies.{CertificatePolicies}
use Rattle.x509_ext.specs.declared.pkix.name_constraints.NameConstraints.{NameConstraints}
use Rattle.x509_text.specs.declared.line.Place.{Place}
use Rattle.x509_text.specs.Algorithms.{key_lines}
use Rattle.x509_text.specs.Certificates as certificates
use Rattle.x509_text.specs.Extensions.{optional_extensions}
use Rattle.x509_text.specs.Lines.{line, line_where, below}
use Rattle.x509_text.specs.Payloads.{octets_line, optional}
use Rattle.x509_text.specs.Policies.{policies_lines, name_constraints_lines}
use Rattle.x509_text.specs.Values.{name_line, optional_number}

-- ---- what is asked of paths (RFC 5914 2.5)

-- CertPolicyFlags: the name of each bit that is set
abbrev pub has_flag : CertPolicies → ℕ → Bool
has_flag flags n = bit_and flags.0 (2 ^ n) == 2 ^ n

abbrev pub flag_line : Place → List ℕ → Bool → List ℕ
flag_line at name is_set = line_where at (codes "policy flag") name is_set

unfoldable pub flags_lines : Place → CertPolicies → List ℕ
flags_lines at flags =
    flag_line at (codes "inhibitPolicyMapping") (has_flag flags 0)
    ++ (flag_line at (codes "requireExplicitPolicy") (has_flag flags 1)
    ++ flag_line at (codes "inhibitAnyPolicy") (has_flag flags 2))

-- lines under a label
abbrev pub labelled : {X : Type 0} → (Place → X → List ℕ) → List ℕ → Place → X → List ℕ
labelled lines label at value = line at label [] ++ lines (below at) value

abbrev pub certificate_below : {P : Type 0} → Place → CertificateInner P → List ℕ
certificate_below at c = labelled certificates.certificate_lines (codes "certificate") at c

abbrev pub policies_below : Place → CertificatePolicies → List ℕ
policies_below at p = labelled (λ at x. policies_lines at x.0) (codes "policy set") at p

abbrev pub constraints_below : Place → NameConstraints → List ℕ
constraints_below at n = labelled name_constraints_lines (codes "name constraints") at n

-- the limits of paths: policies, names, their length
unfoldable pub limits_lines : {P : Type 0} → Place → CertPathControls P → List ℕ
limits_lines at c =
    optional (policies_below at) c.policy_set
    ++ (optional (flags_lines at) c.policy_flags
    ++ (optional (constraints_below at) c.name_constr
    ++ optional_number at (codes "path length") c.path_len_constraint))

-- CertPathControls: the name of the anchor, its certificate, the limits
unfoldable pub controls_lines : {P : Type 0} → Place → CertPathControls P → List ℕ
controls_lines at c =
    name_line at (codes "name") c.ta_name
    ++ (optional (certificate_below at) c.certificate
    ++ limits_lines at c)

-- ---- anchors

abbrev pub version_text : Version → List ℕ
version_text V1 = codes "v1"

abbrev pub optional_text : Place → List ℕ → Option (List ℕ) → List ℕ
optional_text at label text = optional (line at label) text

-- the version, the key and its identifier, the title and its language
unfoldable pub head_lines : {P : Type 0} → Place → TrustAnchorInfo P → List ℕ
head_lines at info =
    line at (codes "version") (version_text info.version)
    ++ (key_lines at info.pub_key
    ++ (octets_line at (codes "key identifier") info.key_id
    ++ (optional_text at (codes "title") info.ta_title
    ++ optional_text at (codes "title language") info.ta_title_lang_tag)))

-- a TrustAnchorInfo (RFC 5914 2)
unfoldable pub info_lines : {P : Type 0} → Place → TrustAnchorInfo P → List ℕ
info_lines at info =
    head_lines at info
    ++ (optional (controls_lines at) info.cert_path
    ++ optional_extensions at info.extensions)

abbrev pub choice_line : Place → List ℕ → List ℕ
choice_line at name = line at (codes "choice") name

-- a TrustAnchorChoice, by the names of RFC 5914 3
unfoldable pub anchor_lines : {P : Type 0} → Place → TrustAnchorChoice P → List ℕ
anchor_lines at (Certificate c) = choice_line at (codes "certificate") ++ certificates.certificate_lines at c
anchor_lines at (TbsCertificate part) = choice_line at (codes "tbsCert") ++ certificates.part_lines at part
anchor_lines at (TaInfo info) = choice_line at (codes "taInfo") ++ info_lines at info
