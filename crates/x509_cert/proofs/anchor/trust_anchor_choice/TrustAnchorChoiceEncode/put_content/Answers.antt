use Rattle.x509_der.specs.Cases.{choice_content}
use Rattle.x509_cert.proofs.anchor.trust_anchor_choice.TrustAnchorChoiceEncode.put_content.Goals as goal

pub returns-in-TbsCertificate : goal.returns-in-TbsCertificate
unfolding choice_content
returns-in-TbsCertificate g c = rw c.in-TbsCertificate.is c.put_element.ensures

pub returns-in-TaInfo : goal.returns-in-TaInfo
unfolding choice_content
returns-in-TaInfo g c = rw c.in-TaInfo.is c.put_element-in-TaInfo.ensures
