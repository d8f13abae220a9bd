-- UserNotice: notice_ref: NoticeReference?, explicit_text: DisplayText? (RFC 5280 4.2.1.4)
use Rattle.std.specs.Prelude.{Option}
use Rattle.x509_der.specs.declared.error.ErrorKind.{ErrorKind}
use Rattle.x509_der.specs.Form.{Form, Contents, IsContents, universal}
use Rattle.x509_der.specs.Frames.{Part, optional, ◌⊗◌, fields}
use Rattle.x509_der.specs.PartRules.{part_rules}
use Rattle.x509_ext.specs.DisplayText.{display_text, display_text_lawful}
use Rattle.x509_ext.specs.declared.pkix.display_text.DisplayText.{DisplayText}
use Rattle.x509_ext.specs.NoticeReference.{notice_reference, notice_reference_lawful}
use Rattle.x509_ext.specs.declared.pkix.user_notice.NoticeReference.{NoticeReference}
use Rattle.x509_ext.specs.declared.pkix.user_notice.UserNotice.{UserNotice}
use Rattle.x509_der.specs.declared.tag.Tag.TheVariants.{Sequence}

unfoldable pub user_notice_fields : Part (Option NoticeReference × Option DisplayText)
user_notice_fields = optional notice_reference ⊗ optional display_text

abbrev pub user_notice_contents : Contents UserNotice
user_notice_contents = fields (λ n. (n.notice_ref, n.explicit_text)) (λ (notice_ref, explicit_text). record { notice_ref = notice_ref; explicit_text = explicit_text }) user_notice_fields

abbrev pub user_notice : Form UserNotice
user_notice = universal Sequence user_notice_contents

pub user_notice_contents_lawful : {R : ErrorKind → Type 0} → IsContents R user_notice_contents
unfolding user_notice_fields
user_notice_contents_lawful = search (part_rules, notice_reference_lawful, display_text_lawful) depth 20
