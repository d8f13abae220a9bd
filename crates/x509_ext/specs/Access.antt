-- AccessDescription: access_method: OBJECT IDENTIFIER, access_location: GeneralName (RFC 5280 4.2.2.1)
-- AuthorityInfoAccessSyntax and SubjectInfoAccessSyntax: list AccessDescription (RFC 5280 4.2.2.1, 4.2.2.2)
use Rattle.std.specs.Prelude.{ℕ, List, refl}
use Rattle.x509_der.specs.declared.error.ErrorKind.{ErrorKind}
use Rattle.x509_der.specs.Form.{Form, Contents, IsContents, universal}
use Rattle.x509_der.specs.Frames.{Part, required, ◌⊗◌, fields}
use Rattle.x509_der.specs.PartRules.{part_rules}
use Rattle.x509_der.specs.ObjectIdentifierForm.{object_identifier, object_identifier_lawful}
use Rattle.x509_ext.specs.GeneralName.{general_name, general_name_lawful}
use Rattle.x509_ext.specs.declared.pkix.name.general_name.GeneralName.{GeneralName}
use Rattle.x509_ext.specs.declared.pkix.access.AccessDescription.{AccessDescription}
use Rattle.x509_der.specs.declared.tag.Tag.TheVariants.{Sequence}
use Rattle.x509_der.specs.List.{list_of}
use Rattle.x509_der.specs.Round.{Round, rounded}
use Rattle.x509_ext.specs.declared.pkix.access.AuthorityInfoAccessSyntax.{AuthorityInfoAccessSyntax}
use Rattle.x509_ext.specs.declared.pkix.access.SubjectInfoAccessSyntax.{SubjectInfoAccessSyntax}

unfoldable pub access_description_fields : Part (List ℕ × GeneralName)
access_description_fields = required object_identifier ⊗ required general_name

abbrev pub access_description_contents : Contents AccessDescription
access_description_contents = fields (λ a. (a.access_method, a.access_location)) (λ (access_method, access_location). record { access_method = access_method; access_location = access_location }) access_description_fields

abbrev pub access_description : Form AccessDescription
access_description = universal Sequence access_description_contents

abbrev descriptions : Form (List AccessDescription)
descriptions = universal Sequence (list_of access_description)

abbrev pub authority_info_access_syntax_round : Round AuthorityInfoAccessSyntax (List AccessDescription)
authority_info_access_syntax_round = record { to = λ access. access.0; from = λ descriptions. record { 0 = descriptions }; back = λ access. refl; there = λ descriptions. refl }

abbrev pub authority_info_access_syntax : Form AuthorityInfoAccessSyntax
authority_info_access_syntax = rounded authority_info_access_syntax_round Sequence descriptions

abbrev pub subject_info_access_syntax_round : Round SubjectInfoAccessSyntax (List AccessDescription)
subject_info_access_syntax_round = record { to = λ access. access.0; from = λ descriptions. record { 0 = descriptions }; back = λ access. refl; there = λ descriptions. refl }

abbrev pub subject_info_access_syntax : Form SubjectInfoAccessSyntax
subject_info_access_syntax = rounded subject_info_access_syntax_round Sequence descriptions

pub access_description_contents_lawful : {R : ErrorKind → Type 0} → IsContents R access_description_contents
unfolding access_description_fields
access_description_contents_lawful = search (part_rules, object_identifier_lawful, general_name_lawful) depth 20
