-- NoticeReference: organization: DisplayText, notice_numbers: (list Uint)? (RFC 5280 4.2.1.4)
use Rattle.std.specs.Prelude.{ℕ, List, Option}
use Rattle.x509_der.specs.declared.error.ErrorKind.{ErrorKind}
use Rattle.x509_der.specs.declared.tag.Tag.TheVariants.{Sequence}
use Rattle.x509_der.specs.Form.{Form, IsForm, Contents, IsContents, universal}
use Rattle.x509_der.specs.FormLaws.{universal_lawful}
use Rattle.x509_der.specs.Frames.{Part, required, optional, ◌⊗◌, fields}
use Rattle.x509_der.specs.List.{list_of}
use Rattle.x509_der.specs.PartRules.{part_rules}
use Rattle.x509_prim.specs.Integer.{unsigned_integer}
use Rattle.x509_prim.specs.IntegerLaws.{unsigned_integer_lawful}
use Rattle.x509_ext.specs.DisplayText.{display_text, display_text_lawful}
use Rattle.x509_ext.specs.declared.pkix.display_text.DisplayText.{DisplayText}
use Rattle.x509_ext.specs.declared.pkix.user_notice.NoticeReference.{NoticeReference}

unfoldable pub notice_reference_fields : Part (DisplayText × Option (List (List ℕ)))
notice_reference_fields = required display_text ⊗ optional (universal Sequence (list_of unsigned_integer))

abbrev pub notice_reference_contents : Contents NoticeReference
notice_reference_contents = fields (λ n. (n.organization, n.notice_numbers)) (λ (organization, notice_numbers). record { organization = organization; notice_numbers = notice_numbers }) notice_reference_fields

abbrev pub notice_reference : Form NoticeReference
notice_reference = universal Sequence notice_reference_contents

pub notice_reference_contents_lawful : {R : ErrorKind → Type 0} → IsContents R notice_reference_contents
unfolding notice_reference_fields
notice_reference_contents_lawful = search (part_rules, display_text_lawful, unsigned_integer_lawful) depth 20

pub notice_reference_lawful : {R : ErrorKind → Type 0} → IsForm R notice_reference
notice_reference_lawful = universal_lawful Sequence notice_reference_contents notice_reference_contents_lawful
