-- The fields of trust anchors and of what they hold, one after the other.
use Rattle.std.proofs.Common.{◌≡◌, ℕ, true, [], List, ◌++◌, refl, append_assoc}
use Rattle.x509_base.specs.Profiles.{rfc5280_serial_number}
use Rattle.x509_base.specs.declared.profile.Rfc5280.{Rfc5280}
use Rattle.x509_cert.specs.TrustAnchorChoice.{trust_anchor_choice}
use Rattle.x509_cert.specs.TrustAnchorInfo.{trust_anchor_info}
use Rattle.x509_cert.specs.AnchorVersion.{version, version_default}
use Rattle.x509_cert.specs.declared.anchor.trust_anchor_choice.TrustAnchorChoice.TheVariants.{Certificate, TbsCertificate, TaInfo}
use Rattle.x509_cert.specs.declared.anchor.trust_anchor_info.TrustAnchorInfo.{TrustAnchorInfo}
use Rattle.x509_cert.specs.declared.anchor.version.Version.{Version}
use Rattle.x509_cert.specs.Certificate.{certificate}
use Rattle.x509_cert.specs.TbsCertificate.{tbs_certificate}
use Rattle.x509_cert.specs.declared.certificate.certificate.CertificateInner.{CertificateInner}
use Rattle.x509_cert.specs.declared.certificate.tbs_certificate.TbsCertificateInner.{TbsCertificateInner}
use Rattle.x509_der.specs.Element.{is_identifier, is_universal}
use Rattle.x509_der.specs.Cases.{choice_tag, choice_content}
use Rattle.x509_der.specs.Frames.{default_octets, explicit}
use Rattle.x509_der.specs.Form.{spelling}

pub is_utf8 : is_identifier 12 ≡ true
unfolding is_identifier is_universal
is_utf8 = refl

pub is_explicit_3 : is_identifier 163 ≡ true
unfolding is_identifier is_universal
is_explicit_3 = refl

-- the version of a description is never written
pub no_version : (v : Version) → default_octets version_default (spelling version) v ≡ []
unfolding default_octets
no_version v = refl

-- ---- the cases of an anchor

pub certificate_is : (it : CertificateInner Rfc5280) → spelling (trust_anchor_choice rfc5280_serial_number) (Certificate it) ≡ spelling (certificate rfc5280_serial_number) it
unfolding choice_tag choice_content
certificate_is it = refl

pub part_is : (it : TbsCertificateInner Rfc5280) → spelling (trust_anchor_choice rfc5280_serial_number) (TbsCertificate it) ≡ spelling (explicit 1 (tbs_certificate rfc5280_serial_number)) it
unfolding choice_tag choice_content
part_is it = refl

pub info_is : (it : TrustAnchorInfo Rfc5280) → spelling (trust_anchor_choice rfc5280_serial_number) (TaInfo it) ≡ spelling (explicit 2 (trust_anchor_info rfc5280_serial_number)) it
unfolding choice_tag choice_content
info_is it = refl

-- ---- parts in two groups stand one behind the other

pub three : (a b c more : List ℕ) → (a ++ (b ++ c)) ++ more ≡ a ++ (b ++ (c ++ more))
three a b c more = simp append_assoc refl

pub six : (a b c d e f more : List ℕ) → ((a ++ (b ++ c)) ++ (d ++ (e ++ f))) ++ more ≡ a ++ (b ++ (c ++ (d ++ (e ++ (f ++ more)))))
six a b c d e f more = simp append_assoc refl

pub seven : (a b c d e f g more : List ℕ) → ((a ++ (b ++ (c ++ d))) ++ (e ++ (f ++ g))) ++ more ≡ a ++ (b ++ (c ++ (d ++ (e ++ (f ++ (g ++ more))))))
seven a b c d e f g more = simp append_assoc refl

pub ten : (a b c d e f g h i j more : List ℕ) → ((a ++ (b ++ (c ++ (d ++ e)))) ++ (f ++ (g ++ (h ++ (i ++ j))))) ++ more ≡ a ++ (b ++ (c ++ (d ++ (e ++ (f ++ (g ++ (h ++ (i ++ (j ++ more)))))))))
ten a b c d e f g h i j more = simp append_assoc refl
