-- PolicyQualifierInfo: policy_qualifier_id: OBJECT IDENTIFIER, qualifier: ANY? (RFC 5280 4.2.1.4)
use Rattle.std.specs.Prelude.{ℕ, List, Option}
use Rattle.x509_der.specs.declared.error.ErrorKind.{ErrorKind}
use Rattle.x509_der.specs.declared.tag.Tag.TheVariants.{Sequence}
use Rattle.x509_der.specs.Form.{Form, IsForm, Contents, IsContents, universal}
use Rattle.x509_der.specs.FormLaws.{universal_lawful}
use Rattle.x509_der.specs.Any.{any, any_lawful}
use Rattle.x509_der.specs.declared.any.Any.{Any}
use Rattle.x509_der.specs.Frames.{Part, required, optional, ◌⊗◌, fields}
use Rattle.x509_der.specs.PartRules.{part_rules}
use Rattle.x509_der.specs.ObjectIdentifierForm.{object_identifier, object_identifier_lawful}
use Rattle.x509_ext.specs.declared.pkix.policy_information.PolicyQualifierInfo.{PolicyQualifierInfo}

unfoldable pub policy_qualifier_info_fields : Part (List ℕ × Option Any)
policy_qualifier_info_fields = required object_identifier ⊗ optional any

abbrev pub policy_qualifier_info_contents : Contents PolicyQualifierInfo
policy_qualifier_info_contents = fields (λ q. (q.policy_qualifier_id, q.qualifier)) (λ (policy_qualifier_id, qualifier). record { policy_qualifier_id = policy_qualifier_id; qualifier = qualifier }) policy_qualifier_info_fields

abbrev pub policy_qualifier_info : Form PolicyQualifierInfo
policy_qualifier_info = universal Sequence policy_qualifier_info_contents

pub policy_qualifier_info_contents_lawful : {R : ErrorKind → Type 0} → IsContents R policy_qualifier_info_contents
unfolding policy_qualifier_info_fields
policy_qualifier_info_contents_lawful = search (part_rules, object_identifier_lawful, any_lawful) depth 20

pub policy_qualifier_info_lawful : {R : ErrorKind → Type 0} → IsForm R policy_qualifier_info
policy_qualifier_info_lawful = universal_lawful Sequence policy_qualifier_info_contents policy_qualifier_info_contents_lawful
