-- The policies of a CertificatePolicies are OIDs.
use Rattle.std.proofs.Common.{◌≡◌, true, List, [], ◌∷◌, ℕ, None, Some, Option, refl}
use Rattle.std.proofs.lemmas.List.Elements.{All-cons, All-nil}
use Rattle.x509_c_calls.specs.PathValidation.{AreNamed, set_of}
use Rattle.x509_der.specs.Frames.{fields_good}
use Rattle.x509_der.specs.List.{all_good}
use Rattle.x509_der.specs.ObjectIdentifier.{is_object_identifier}
use Rattle.x509_der.specs.ObjectIdentifierForm.{arcs_pass}
use Rattle.x509_ext.specs.PolicyInformation.{policy_information, policy_information_fields}
use Rattle.x509_ext.specs.declared.pkix.certificate_policies.CertificatePolicies.{CertificatePolicies}
use Rattle.x509_ext.specs.declared.pkix.policy_information.PolicyInformation.{PolicyInformation}
use Rattle.x509_path_steps.specs.Inputs.{AreOids}
use Rattle.x509_path_steps.specs.Says.{identifiers}
use Rattle.x509_policy.specs.Values.{any_policy}

abbrev IsOid : List ℕ → Type 0
IsOid octets = is_object_identifier octets ≡ true

one_oid : (p : PolicyInformation) → policy_information.good p → is_object_identifier p.policy_identifier ≡ true
unfolding fields_good policy_information_fields
one_oid p good = arcs_pass p.policy_identifier good.0

each_oid : (ps : List PolicyInformation) → all_good policy_information.good ps → AreOids (identifiers (record { 0 = ps }))
unfolding all_good
each_oid [] good = All-nil IsOid
each_oid (p ∷ ps) good = All-cons IsOid p.policy_identifier (identifiers (record { 0 = ps })) (one_oid p good.0) (each_oid ps good.1)

-- those that a caller names are
pub are_oids : (octets : List ℕ) (named : Option CertificatePolicies) → AreNamed octets named → AreOids (set_of named)
are_oids octets None none = All-cons IsOid any_policy [] refl (All-nil IsOid)
are_oids octets (Some policies) spells = each_oid policies.0 spells.0
