-- EdiPartyName: name_assigner: {0}DirectoryString?, party_name: {1}DirectoryString (RFC 5280 4.2.1.6)
use Rattle.std.specs.Prelude.{Option}
use Rattle.x509_der.specs.declared.error.ErrorKind.{ErrorKind}
use Rattle.x509_der.specs.declared.tag.Tag.TheVariants.{Sequence}
use Rattle.x509_der.specs.Form.{Form, IsForm, Contents, IsContents, universal}
use Rattle.x509_der.specs.FormLaws.{universal_lawful}
use Rattle.x509_der.specs.Frames.{Part, required, optional, explicit, ◌⊗◌, fields}
use Rattle.x509_der.specs.PartRules.{part_rules}
use Rattle.x509_name.specs.DirectoryString.{directory_string, directory_string_lawful}
use Rattle.x509_name.specs.declared.name.directory_string.DirectoryString.{DirectoryString}
use Rattle.x509_ext.specs.declared.pkix.name.edi_party_name.EdiPartyName.{EdiPartyName}

unfoldable pub edi_party_name_fields : Part (Option DirectoryString × DirectoryString)
edi_party_name_fields = optional (explicit 0 directory_string) ⊗ required (explicit 1 directory_string)

abbrev pub edi_party_name_contents : Contents EdiPartyName
edi_party_name_contents = fields (λ e. (e.name_assigner, e.party_name)) (λ (name_assigner, party_name). record { name_assigner = name_assigner; party_name = party_name }) edi_party_name_fields

abbrev pub edi_party_name : Form EdiPartyName
edi_party_name = universal Sequence edi_party_name_contents

pub edi_party_name_contents_lawful : {R : ErrorKind → Type 0} → IsContents R edi_party_name_contents
unfolding edi_party_name_fields
edi_party_name_contents_lawful = search (part_rules, directory_string_lawful) depth 20

pub edi_party_name_lawful : {R : ErrorKind → Type 0} → IsForm R edi_party_name
edi_party_name_lawful = universal_lawful Sequence edi_party_name_contents edi_party_name_contents_lawful
