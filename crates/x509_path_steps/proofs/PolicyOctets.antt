-- The octets of CertificatePolicies and PolicyMappings, as sequences of OIDs.
use Rattle.std.proofs.Common.{◌≡◌, ◌∙◌, ℕ, List, [], ◌∷◌, ◌++◌, map, refl, sym, ap, append-nil}
use Rattle.x509_der.specs.Element.{element}
use Rattle.x509_der.specs.Form.{Spells, spelling, universal}
use Rattle.x509_der.specs.Frames.{fields_octets, optional_octets}
use Rattle.x509_der.specs.List.{joined, list_of}
use Rattle.x509_der.specs.declared.tag.Tag.TheVariants.{Sequence}
use Rattle.x509_ext.specs.CertificatePolicies.{certificate_policies}
use Rattle.x509_ext.specs.PolicyInformation.{policy_information, policy_information_fields}
use Rattle.x509_ext.specs.PolicyMapping.{policy_mapping, policy_mapping_fields, policy_mappings}
use Rattle.x509_ext.specs.PolicyQualifierInfo.{policy_qualifier_info}
use Rattle.x509_ext.specs.declared.pkix.certificate_policies.CertificatePolicies.{CertificatePolicies}
use Rattle.x509_ext.specs.declared.pkix.policy_information.PolicyInformation.{PolicyInformation}
use Rattle.x509_ext.specs.declared.pkix.policy_mapping.PolicyMapping.{PolicyMapping}
use Rattle.x509_ext.specs.declared.pkix.policy_mapping.PolicyMappings.{PolicyMappings}
use Rattle.x509_path_steps.specs.Oids.{item, pair}
use Rattle.x509_policy.specs.Values.{Mapping}

-- ---- policies

abbrev pub item_of : PolicyInformation → List ℕ × List ℕ
item_of p = (p.policy_identifier, optional_octets (spelling (universal Sequence (list_of policy_qualifier_info))) p.policy_qualifiers)

one_item : (p : PolicyInformation) → spelling policy_information p ≡ item (item_of p)
unfolding fields_octets policy_information_fields
one_item p = refl

joined_items : (ps : List PolicyInformation) → joined (spelling policy_information) ps ≡ joined item (map item_of ps)
unfolding joined
joined_items [] = refl
joined_items (p ∷ ps) = ap (λ x. x ++ joined (spelling policy_information) ps) (one_item p) ∙ ap (λ y. item (item_of p) ++ y) (joined_items ps)

pub first_items : (ps : List PolicyInformation) → map (λ (i : List ℕ × List ℕ). i.0) (map item_of ps) ≡ map (λ (p : PolicyInformation). p.policy_identifier) ps
first_items [] = refl
first_items (p ∷ ps) = ap (λ is. p.policy_identifier ∷ is) (first_items ps)

pub policy_octets : (value : CertificatePolicies) (octets : List ℕ) → Spells certificate_policies value octets → octets ≡ element 48 (joined item (map item_of value.0)) ++ []
policy_octets value octets spells = spells.1 ∙ ap (λ x. element 48 x) (joined_items value.0) ∙ sym (append-nil (element 48 (joined item (map item_of value.0))))

-- ---- mappings

abbrev pub pair_of : PolicyMapping → List ℕ × List ℕ
pair_of m = (m.issuer_domain_policy, m.subject_domain_policy)

one_pair : (m : PolicyMapping) → spelling policy_mapping m ≡ pair (pair_of m)
unfolding fields_octets policy_mapping_fields
one_pair m = refl

joined_pairs : (ms : List PolicyMapping) → joined (spelling policy_mapping) ms ≡ joined pair (map pair_of ms)
unfolding joined
joined_pairs [] = refl
joined_pairs (m ∷ ms) = ap (λ x. x ++ joined (spelling policy_mapping) ms) (one_pair m) ∙ ap (λ y. pair (pair_of m) ++ y) (joined_pairs ms)

abbrev mapping : List ℕ × List ℕ → Mapping
mapping p = record { issuer_domain_policy = p.0; subject_domain_policy = p.1 }

abbrev own_mapping : PolicyMapping → Mapping
own_mapping m = record { issuer_domain_policy = m.issuer_domain_policy; subject_domain_policy = m.subject_domain_policy }

pub each_pair : (ms : List PolicyMapping) → map mapping (map pair_of ms) ≡ map own_mapping ms
each_pair [] = refl
each_pair (m ∷ ms) = ap (λ is. own_mapping m ∷ is) (each_pair ms)

pub mapping_octets : (value : PolicyMappings) (octets : List ℕ) → Spells policy_mappings value octets → octets ≡ element 48 (joined pair (map pair_of value.0)) ++ []
mapping_octets value octets spells = spells.1 ∙ ap (λ x. element 48 x) (joined_pairs value.0) ∙ sym (append-nil (element 48 (joined pair (map pair_of value.0))))
