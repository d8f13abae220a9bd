-- The rules on name constraints (RFC 5280 4.2.1.10): what breaks each, their order, and how each is told.
use Rattle.std.specs.Prelude.{◌&&◌, ◌||◌, ◌==◌, ◌/◌, ℕ, Bool, true, false, not, List, [], ◌∷◌, length, drop, codes, is_some, if◌then◌else◌}
use Rattle.std.specs.List.{list_all, list_any}
use Rattle.x509_ext.specs.declared.pkix.general_subtree.GeneralSubtree.{GeneralSubtree}
use Rattle.x509_ext.specs.declared.pkix.name_constraints.NameConstraints.{NameConstraints}
use Rattle.x509_ext.specs.declared.pkix.name.general_name.GeneralName.{GeneralName}
use Rattle.x509_ext.specs.declared.pkix.name.general_name.GeneralName.TheVariants.{EdiPartyName, UniformResourceIdentifier, IpAddress, RegisteredId}
use Rattle.x509_host.specs.Host.{are_ldh_labels}
use Rattle.x509_lint.specs.declared.names.BaseFault.{BaseFault}
use Rattle.x509_lint.specs.declared.names.BaseFault.TheVariants.{OtherForm, NoHost, NoRange, OddMask}
use Rattle.x509_lint.specs.Words.{Certificate, is_empty, passes}
use Rattle.x509_lint.specs.declared.values.ConstraintValues.{ConstraintValues}
use Rattle.x509_lint.specs.declared.rule.constraint.ConstraintRule.{ConstraintRule}
use Rattle.x509_lint.specs.declared.rule.constraint.ConstraintRule.TheVariants.{NameConstraintsEmpty, NameConstraintsOtherForm, NameConstraintsSubtreesEmpty, NameConstraintsMinimum, NameConstraintsMaximum, NameConstraintsUriInvalid, NameConstraintsAddressLength, NameConstraintsAddressMask}
use Rattle.x509_lint.specs.Sentence.{Sentence}
use Rattle.x509_lint.specs.Wording.{Wording, must, should}

-- a subtree of either list passes the test
abbrev pub has_subtree : (GeneralSubtree → Bool) → NameConstraints → Bool
has_subtree test constraints =
    passes (λ subtrees. list_any test subtrees) constraints.permitted_subtrees || passes (λ subtrees. list_any test subtrees) constraints.excluded_subtrees

abbrev pub has_empty_subtrees : NameConstraints → Bool
has_empty_subtrees constraints = passes is_empty constraints.permitted_subtrees || passes is_empty constraints.excluded_subtrees

-- ---- bases of subtrees

abbrev pub is_other_form : GeneralName → Bool
is_other_form (EdiPartyName party) = true
is_other_form (RegisteredId oid) = true
is_other_form other = false

-- what follows the dot, where the text begins with one
abbrev pub behind_dot : List ℕ → List ℕ
behind_dot [] = []
behind_dot (first ∷ octets) = if first == 46 then octets else first ∷ octets

-- a URI whose text is neither the DNS name of a host, nor that of a domain behind a dot
abbrev pub is_no_host : GeneralName → Bool
is_no_host (UniformResourceIdentifier text) = not (are_ldh_labels (behind_dot text))
is_no_host other = false

-- an address and a mask, of version 4 or of version 6
abbrev pub is_range : List ℕ → Bool
is_range octets = (length octets == 8) || (length octets == 32)

-- some ones, and zeros behind them
abbrev pub is_partial : ℕ → Bool
is_partial octet = list_any (λ part. part == octet) (0 ∷ 128 ∷ 192 ∷ 224 ∷ 240 ∷ 248 ∷ 252 ∷ 254 ∷ [])

-- ones, and zeros behind them (RFC 4632 3.1)
abbrev pub is_mask : List ℕ → Bool
is_mask [] = true
is_mask (octet ∷ octets) = if octet == 255 then is_mask octets else is_partial octet && list_all (λ other. other == 0) octets

abbrev pub is_no_range : GeneralName → Bool
is_no_range (IpAddress octets) = not (is_range octets)
is_no_range other = false

abbrev pub has_odd_mask : GeneralName → Bool
has_odd_mask (IpAddress octets) = is_range octets && not (is_mask (drop (length octets / 2) octets))
has_odd_mask other = false

-- what is wrong with a base
abbrev pub has_fault : BaseFault → GeneralName → Bool
has_fault OtherForm base = is_other_form base
has_fault NoHost base = is_no_host base
has_fault NoRange base = is_no_range base
has_fault OddMask base = has_odd_mask base

-- the name constraints break the rule
abbrev pub breaks_name_constraints : ConstraintRule → NameConstraints → Bool
breaks_name_constraints NameConstraintsEmpty n = not (is_some n.permitted_subtrees) && not (is_some n.excluded_subtrees)
breaks_name_constraints NameConstraintsOtherForm n = has_subtree (λ s. has_fault OtherForm s.base) n
breaks_name_constraints NameConstraintsSubtreesEmpty n = has_empty_subtrees n
breaks_name_constraints NameConstraintsMinimum n = has_subtree (λ s. not (s.minimum == 0)) n
breaks_name_constraints NameConstraintsMaximum n = has_subtree (λ s. is_some s.maximum) n
breaks_name_constraints NameConstraintsUriInvalid n = has_subtree (λ s. has_fault NoHost s.base) n
breaks_name_constraints NameConstraintsAddressLength n = has_subtree (λ s. has_fault NoRange s.base) n
breaks_name_constraints NameConstraintsAddressMask n = has_subtree (λ s. has_fault OddMask s.base) n

-- ---- the order, and how each is told

abbrev pub constraint_rules : List ConstraintRule
constraint_rules = NameConstraintsEmpty ∷ NameConstraintsOtherForm ∷ NameConstraintsSubtreesEmpty ∷ NameConstraintsMinimum ∷ NameConstraintsMaximum ∷ NameConstraintsUriInvalid ∷ NameConstraintsAddressLength ∷ NameConstraintsAddressMask ∷ []

abbrev pub constraint_wording : ConstraintRule → Wording
constraint_wording NameConstraintsEmpty = must (codes "name_constraints_empty") (codes "4.2.1.10") (codes "tbsCertificate.extensions.nameConstraints")
constraint_wording NameConstraintsOtherForm = should (codes "name_constraints_other_form") (codes "4.2.1.10") (codes "tbsCertificate.extensions.nameConstraints")
constraint_wording NameConstraintsSubtreesEmpty = must (codes "name_constraints_subtrees_empty") (codes "4.2.1.10") (codes "tbsCertificate.extensions.nameConstraints")
constraint_wording NameConstraintsMinimum = must (codes "name_constraints_minimum") (codes "4.2.1.10") (codes "tbsCertificate.extensions.nameConstraints")
constraint_wording NameConstraintsMaximum = must (codes "name_constraints_maximum") (codes "4.2.1.10") (codes "tbsCertificate.extensions.nameConstraints")
constraint_wording NameConstraintsUriInvalid = must (codes "name_constraints_uri_invalid") (codes "4.2.1.10") (codes "tbsCertificate.extensions.nameConstraints")
constraint_wording NameConstraintsAddressLength = must (codes "name_constraints_address_length") (codes "4.2.1.10") (codes "tbsCertificate.extensions.nameConstraints")
constraint_wording NameConstraintsAddressMask = must (codes "name_constraints_address_mask") (codes "4.2.1.10") (codes "tbsCertificate.extensions.nameConstraints")

abbrev pub constraint_sentence : ConstraintRule → Sentence Certificate ConstraintValues
constraint_sentence rule = record { wording = constraint_wording rule; breaks = λ c v. passes (breaks_name_constraints rule) v.name_constraints }
