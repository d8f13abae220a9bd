-- The name, the key and the extensions of a TBSCertificate, by their places (RFC 5280 4.1.2).
use Rattle.std.specs.Prelude.{ℕ, List, ◌++◌}
use Rattle.x509_base.specs.SubjectPublicKeyInfo.{subject_public_key_info}
use Rattle.x509_base.specs.declared.profile.Rfc5280.{Rfc5280}
use Rattle.x509_c_calls.specs.declared.anchor.part.PartView.{PartView}
use Rattle.x509_c_calls.specs.Optional.{IsPerhapsAt}
use Rattle.x509_c_calls.specs.Place.{IsAt}
use Rattle.x509_cert.specs.declared.certificate.tbs_certificate.TbsCertificateInner.{TbsCertificateInner}
use Rattle.x509_der.specs.Frames.{explicit, implicit, optional_octets}
use Rattle.x509_der.specs.Form.{spelling}
use Rattle.x509_ext.specs.Extension.{extensions}
use Rattle.x509_name.specs.Names.{name}
use Rattle.x509_prim.specs.BitString.{bit_string}

-- what stands behind the key, and behind the name, where those octets stand behind the whole
abbrev pub behind_key : TbsCertificateInner Rfc5280 → List ℕ → List ℕ
behind_key part behind =
    optional_octets (spelling (implicit 1 bit_string)) part.issuer_unique_id
    ++ (optional_octets (spelling (implicit 2 bit_string)) part.subject_unique_id ++ (optional_octets (spelling (explicit 3 extensions)) part.extensions ++ behind))

abbrev pub behind_subject : TbsCertificateInner Rfc5280 → List ℕ → List ℕ
behind_subject part behind = spelling subject_public_key_info part.subject_public_key_info ++ behind_key part behind

-- what the view says of a TBSCertificate in these bytes, behind which those others stand
pub record IsPart (bytes : List ℕ) (part : TbsCertificateInner Rfc5280) (behind : List ℕ) (view : PartView) : Type 0 where
  pub subject : IsAt (spelling name part.subject) (behind_subject part behind) bytes view.subject
  pub subject_public_key_info : IsAt (spelling subject_public_key_info part.subject_public_key_info) (behind_key part behind) bytes view.subject_public_key_info
  pub extensions : IsPerhapsAt (spelling extensions) part.extensions behind bytes view.extensions
