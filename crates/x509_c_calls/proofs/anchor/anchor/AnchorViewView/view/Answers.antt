use Rattle.std.proofs.Common.{◌++◌, ◌∙◌, ap}
use Rattle.x509_c_calls.proofs.AnchorFields.{certificate_is, info_is, part_is}
use Rattle.x509_c_calls.proofs.anchor.anchor.AnchorViewView.view.Goals as goal

pub returns-in-Certificate : goal.returns-in-Certificate
returns-in-Certificate c = λ behind e. rw c.in-Certificate.is (c.of_certificate.ensures behind (rw c.in-Certificate.is at e ∙ ap (λ x. x ++ behind) (certificate_is c.in-Certificate.value)))

pub returns-in-TbsCertificate : goal.returns-in-TbsCertificate
returns-in-TbsCertificate c = λ behind e. rw c.in-TbsCertificate.is (c.of_part.ensures behind (rw c.in-TbsCertificate.is at e ∙ ap (λ x. x ++ behind) (part_is c.in-TbsCertificate.value)))

pub returns-in-TaInfo : goal.returns-in-TaInfo
returns-in-TaInfo c = λ behind e. rw c.in-TaInfo.is (c.of_info.ensures behind (rw c.in-TaInfo.is at e ∙ ap (λ x. x ++ behind) (info_is c.in-TaInfo.value)))
