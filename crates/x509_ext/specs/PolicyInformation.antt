-- PolicyInformation: policy_identifier: OBJECT IDENTIFIER, policy_qualifiers: (list PolicyQualifierInfo)? (RFC 5280 4.2.1.4)
use Rattle.std.specs.Prelude.{ℕ, List, Option}
use Rattle.x509_der.specs.declared.error.ErrorKind.{ErrorKind}
use Rattle.x509_der.specs.declared.tag.Tag.TheVariants.{Sequence}
use Rattle.x509_der.specs.Form.{Form, IsForm, Contents, IsContents, universal}
use Rattle.x509_der.specs.FormLaws.{universal_lawful}
use Rattle.x509_der.specs.Frames.{Part, required, optional, ◌⊗◌, fields}
use Rattle.x509_der.specs.List.{list_of}
use Rattle.x509_der.specs.PartRules.{part_rules}
use Rattle.x509_der.specs.ObjectIdentifierForm.{object_identifier, object_identifier_lawful}
use Rattle.x509_ext.specs.PolicyQualifierInfo.{policy_qualifier_info, policy_qualifier_info_lawful}
use Rattle.x509_ext.specs.declared.pkix.policy_information.PolicyQualifierInfo.{PolicyQualifierInfo}
use Rattle.x509_ext.specs.declared.pkix.policy_information.PolicyInformation.{PolicyInformation}

unfoldable pub policy_information_fields : Part (List ℕ × Option (List PolicyQualifierInfo))
policy_information_fields = required object_identifier ⊗ optional (universal Sequence (list_of policy_qualifier_info))

abbrev pub policy_information_contents : Contents PolicyInformation
policy_information_contents = fields (λ p. (p.policy_identifier, p.policy_qualifiers)) (λ (policy_identifier, policy_qualifiers). record { policy_identifier = policy_identifier; policy_qualifiers = policy_qualifiers }) policy_information_fields

abbrev pub policy_information : Form PolicyInformation
policy_information = universal Sequence policy_information_contents

pub policy_information_contents_lawful : {R : ErrorKind → Type 0} → IsContents R policy_information_contents
unfolding policy_information_fields
policy_information_contents_lawful = search (part_rules, object_identifier_lawful, policy_qualifier_info_lawful) depth 20

pub policy_information_lawful : {R : ErrorKind → Type 0} → IsForm R policy_information
policy_information_lawful = universal_lawful Sequence policy_information_contents policy_information_contents_lawful
