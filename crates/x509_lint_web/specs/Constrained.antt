-- The rules on certificates of authorities that are constrained by their EKU or by name constraints (TLS BR 7.1.2.3, 7.1.2.5).
use Rattle.std.specs.Prelude.{◌&&◌, ◌||◌, ◌==◌, ℕ, Bool, true, false, not, length, List, [], ◌∷◌, Option, bytes_eq, codes}
use Rattle.std.specs.List.{list_all, list_any}
use Rattle.x509_ext.specs.declared.pkix.general_subtree.GeneralSubtree.{GeneralSubtree}
use Rattle.x509_ext.specs.declared.pkix.name.general_name.GeneralName.{GeneralName}
use Rattle.x509_ext.specs.declared.pkix.name.general_name.GeneralName.TheVariants as names
use Rattle.x509_ext.specs.declared.pkix.name_constraints.NameConstraints.{NameConstraints}
use Rattle.x509_lint.specs.Key.{any_extended_key_usage}
use Rattle.x509_lint.specs.Words.{passes}
use Rattle.x509_lint_web.specs.Precertificate.{is_signer}
use Rattle.x509_lint_web.specs.Words.{has_purpose, is_authority, is_subordinate, ocsp_signing, server_auth}
use Rattle.x509_lint_web.specs.Sentence.{Sentence, from_day, must, should}
use Rattle.x509_lint_web.specs.declared.constraints.Base.{Base}
use Rattle.x509_lint_web.specs.declared.constraints.Base.TheVariants as bases
use Rattle.x509_lint_web.specs.declared.rule.constrained.WebConstrainedRule.{WebConstrainedRule}
use Rattle.x509_lint_web.specs.declared.rule.constrained.WebConstrainedRule.TheVariants as rules
use Rattle.x509_lint_web.specs.declared.values.WebValues.{WebValues}

-- ---- by the EKU

-- one of an authority that has neither the purpose of TLS servers nor that of those who sign precertificates
abbrev pub is_apart : WebValues → Bool
is_apart v = is_authority v && (not (has_purpose (λ purpose. bytes_eq purpose server_auth) v) && not (is_signer v))

-- ---- by name constraints

-- so many octets, and each is 0
abbrev pub are_zeros : ℕ → List ℕ → Bool
are_zeros count octets = (length octets == count) && list_all (λ octet. octet == 0) octets

abbrev pub is_dns : Base → Bool
is_dns bases.DnsName = true
is_dns other = false

abbrev pub is_directory : Base → Bool
is_directory bases.DirectoryName = true
is_directory other = false

-- all addresses are an address of zeros under a mask of zeros (RFC 5280 4.2.1.10)
abbrev pub is_address : Base → List ℕ → Bool
is_address bases.Address octets = true
is_address bases.AllIpv4 octets = are_zeros 8 octets
is_address bases.AllIpv6 octets = are_zeros 32 octets
is_address other octets = false

-- the name is a base of this kind
abbrev pub is_base : Base → GeneralName → Bool
is_base base (names.DnsName text) = is_dns base
is_base base (names.DirectoryName name) = is_directory base
is_base base (names.IpAddress octets) = is_address base octets
is_base base other = false

-- the list is there, and a subtree has such a base
abbrev pub has_base : Base → Option (List GeneralSubtree) → Bool
has_base base subtrees = passes (λ subtrees. list_any (λ subtree. is_base base subtree.base) subtrees) subtrees

-- some addresses are permitted, or all are excluded
abbrev pub constrains_addresses : NameConstraints → Bool
constrains_addresses n =
    has_base bases.Address n.permitted_subtrees
    || (has_base bases.AllIpv4 n.excluded_subtrees && has_base bases.AllIpv6 n.excluded_subtrees)

-- a dNSName is permitted, and addresses are neither permitted nor all excluded
abbrev pub lacks_addresses : NameConstraints → Bool
lacks_addresses n = has_base bases.DnsName n.permitted_subtrees && not (constrains_addresses n)

-- a dNSName is permitted, and no directoryName
abbrev pub lacks_directory_names : NameConstraints → Bool
lacks_directory_names n = has_base bases.DnsName n.permitted_subtrees && not (has_base bases.DirectoryName n.permitted_subtrees)

-- ---- the rules

abbrev pub constrained_rules : List WebConstrainedRule
constrained_rules = rules.ConstrainedPurposeForbidden ∷ rules.ConstrainedWithoutAddresses ∷ rules.ConstrainedWithoutDirectoryNames ∷ []

abbrev pub constrained_sentence : WebConstrainedRule → Sentence
constrained_sentence rules.ConstrainedPurposeForbidden =
    must (codes "constrained_purpose_forbidden") (codes "7.1.2.3.2") (from_day 2023 9 15) (codes "tbsCertificate.extensions.extKeyUsage")
    (λ c v. is_apart v && (has_purpose (λ purpose. bytes_eq purpose any_extended_key_usage) v || has_purpose (λ purpose. bytes_eq purpose ocsp_signing) v))
constrained_sentence rules.ConstrainedWithoutAddresses =
    should (codes "constrained_without_addresses") (codes "7.1.2.5.2") (from_day 2023 9 15) (codes "tbsCertificate.extensions.nameConstraints")
    (λ c v. is_subordinate c v && passes lacks_addresses v.name_constraints)
constrained_sentence rules.ConstrainedWithoutDirectoryNames =
    should (codes "constrained_without_directory_names") (codes "7.1.2.5.2") (from_day 2023 9 15) (codes "tbsCertificate.extensions.nameConstraints")
    (λ c v. is_subordinate c v && passes lacks_directory_names v.name_constraints)
