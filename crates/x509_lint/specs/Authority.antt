-- The rules on what makes a certificate one of a certification authority (RFC 5280 4.2.1.3, 4.2.1.9): what breaks each, their order, and how each is told.
use Rattle.std.specs.Prelude.{◌&&◌, ◌||◌, ◌==◌, length, nat_lt, Bool, not, List, [], ◌∷◌, Option, codes, is_some}
use Rattle.x509_ext.specs.KeyUsage.{has_bit}
use Rattle.x509_ext.specs.declared.extension.Extension.{Extension}
use Rattle.x509_prim.specs.Integer.{without_zeros}
use Rattle.x509_ext.specs.declared.pkix.key_usage.KeyUsage.{KeyUsage}
use Rattle.x509_ext.specs.Identifiers.{id_ce}
use Rattle.x509_lint.specs.Beyond.{is_unjudged}
use Rattle.x509_lint.specs.declared.beyond.Beyond.TheVariants.{Names}
use Rattle.x509_lint.specs.Field.{is_v3}
use Rattle.x509_lint.specs.Words.{Certificate, extensions_of, has, has_uncritical, is_empty, passes}
use Rattle.x509_lint.specs.declared.basic_constraints.AnyBasicConstraints.{AnyBasicConstraints}
use Rattle.x509_lint.specs.declared.values.AuthorityValues.{AuthorityValues}
use Rattle.x509_lint.specs.declared.rule.authority.AuthorityRule.{AuthorityRule}
use Rattle.x509_lint.specs.declared.rule.authority.AuthorityRule.TheVariants as rules
use Rattle.x509_lint.specs.Sentence.{Sentence, must, should, not_judged}

-- cA is set
abbrev pub is_ca : Option AnyBasicConstraints → Bool
is_ca constraints = passes (λ b. b.ca) constraints

-- there is no BasicConstraints, or the one that there is is read and doesn't set cA
abbrev pub is_no_ca : List Extension → Option AnyBasicConstraints → Bool
is_no_ca extensions constraints = not (has (id_ce 19) extensions) || passes (λ b. not b.ca) constraints

-- no bit is set
abbrev pub has_no_bit : KeyUsage → Bool
has_no_bit usage = usage.0.0 == 0

abbrev pub has_path_len : Option AnyBasicConstraints → Bool
has_path_len constraints = passes (λ b. is_some b.path_len_constraint) constraints

-- a path length of two octets or more, which is above 255
abbrev pub is_long_path : AnyBasicConstraints → Bool
is_long_path constraints = passes (λ number. nat_lt 1 (length (without_zeros number))) constraints.path_len_constraint

-- ---- the rules, in their order

abbrev pub authority_rules : List AuthorityRule
authority_rules =
    rules.CaSubjectEmpty
    ∷ rules.CrlIssuerSubjectEmpty
    ∷ rules.CaWithoutSubjectKeyIdentifier
    ∷ rules.SubjectKeyIdentifierAbsent
    ∷ rules.CaWithoutKeyUsage
    ∷ rules.KeyUsageEmpty
    ∷ rules.CaWithoutKeyCertSign
    ∷ rules.KeyCertSignWithoutCa
    ∷ rules.CaBasicConstraintsNotCritical
    ∷ rules.PathLenWithoutCa
    ∷ rules.PathLenNotJudged
    ∷ rules.NameConstraintsInLeaf
    ∷ rules.NameConstraintsNotJudged ∷ []

abbrev pub authority_sentence : AuthorityRule → Sentence Certificate AuthorityValues
authority_sentence rules.CaSubjectEmpty =
    must (codes "ca_subject_empty") (codes "4.1.2.6") (codes "tbsCertificate.subject")
    (λ c v. is_ca v.basic_constraints && is_empty c.tbs_certificate.subject)
authority_sentence rules.CrlIssuerSubjectEmpty =
    must (codes "crl_issuer_subject_empty") (codes "4.1.2.6") (codes "tbsCertificate.subject")
    (λ c v. passes (λ u. has_bit u 6) v.key_usage && is_empty c.tbs_certificate.subject)
authority_sentence rules.CaWithoutSubjectKeyIdentifier =
    must (codes "ca_without_subject_key_identifier") (codes "4.2.1.2") (codes "tbsCertificate.extensions.subjectKeyIdentifier")
    (λ c v. is_ca v.basic_constraints && not (has (id_ce 14) (extensions_of c)))
authority_sentence rules.SubjectKeyIdentifierAbsent =
    should (codes "subject_key_identifier_absent") (codes "4.2.1.2") (codes "tbsCertificate.extensions.subjectKeyIdentifier")
    (λ c v. is_v3 c.tbs_certificate.version && is_no_ca (extensions_of c) v.basic_constraints && not (has (id_ce 14) (extensions_of c)))
authority_sentence rules.CaWithoutKeyUsage =
    must (codes "ca_without_key_usage") (codes "4.2.1.3") (codes "tbsCertificate.extensions.keyUsage")
    (λ c v. is_ca v.basic_constraints && not (has (id_ce 15) (extensions_of c)))
authority_sentence rules.KeyUsageEmpty =
    must (codes "key_usage_empty") (codes "4.2.1.3") (codes "tbsCertificate.extensions.keyUsage")
    (λ c v. passes has_no_bit v.key_usage)
authority_sentence rules.CaWithoutKeyCertSign =
    must (codes "ca_without_key_cert_sign") (codes "4.2.1.3") (codes "tbsCertificate.extensions.keyUsage")
    (λ c v. is_ca v.basic_constraints && passes (λ u. not (has_no_bit u) && not (has_bit u 5)) v.key_usage)
authority_sentence rules.KeyCertSignWithoutCa =
    must (codes "key_cert_sign_without_ca") (codes "4.2.1.9") (codes "tbsCertificate.extensions.keyUsage")
    (λ c v. is_no_ca (extensions_of c) v.basic_constraints && passes (λ u. has_bit u 5) v.key_usage)
authority_sentence rules.CaBasicConstraintsNotCritical =
    must (codes "ca_basic_constraints_not_critical") (codes "4.2.1.9") (codes "tbsCertificate.extensions.basicConstraints")
    (λ c v. is_ca v.basic_constraints && has_uncritical (id_ce 19) (extensions_of c))
authority_sentence rules.PathLenWithoutCa =
    must (codes "path_len_without_ca") (codes "4.2.1.9") (codes "tbsCertificate.extensions.basicConstraints")
    (λ c v. not (is_ca v.basic_constraints) && has_path_len v.basic_constraints)
authority_sentence rules.PathLenNotJudged =
    not_judged (codes "path_len_above_255") (codes "4.2.1.9") (codes "tbsCertificate.extensions.basicConstraints")
    (λ c v. passes is_long_path v.basic_constraints)
authority_sentence rules.NameConstraintsInLeaf =
    must (codes "name_constraints_in_leaf") (codes "4.2.1.10") (codes "tbsCertificate.extensions.nameConstraints")
    (λ c v. is_no_ca (extensions_of c) v.basic_constraints && has (id_ce 30) (extensions_of c))
authority_sentence rules.NameConstraintsNotJudged =
    not_judged (codes "name_constraints_not_read") (codes "4.2.1.10") (codes "tbsCertificate.extensions.nameConstraints")
    (λ c v. is_unjudged (id_ce 30) Names (extensions_of c) (is_some v.name_constraints))
