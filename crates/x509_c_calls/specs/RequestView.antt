-- What a CSR says, and where its parts stand in its bytes (RFC 2986 4).
use Rattle.std.specs.Prelude.{◌≡◌, ℕ, List, ◌++◌}
use Rattle.x509_base.specs.AlgorithmIdentifier.{algorithm_identifier}
use Rattle.x509_base.specs.SubjectPublicKeyInfo.{subject_public_key_info}
use Rattle.x509_c_calls.specs.KeySigned.{IsSigned}
use Rattle.x509_c_calls.specs.Place.{IsAt}
use Rattle.x509_c_calls.specs.declared.request.view.RequestView.{RequestView}
use Rattle.x509_cert.specs.CertReq.{attributes, cert_req_info}
use Rattle.x509_cert.specs.declared.request.cert_req.CertReq.{CertReq}
use Rattle.x509_cert.specs.declared.request.version.Version.{Version}
use Rattle.x509_cert.specs.declared.request.version.Version.TheVariants.{V1}
use Rattle.x509_der.specs.Frames.{implicit}
use Rattle.x509_der.specs.Form.{spelling}
use Rattle.x509_name.specs.Names.{name}
use Rattle.x509_prim.specs.BitString.{bit_string}

abbrev pub version_of : Version → ℕ
version_of V1 = 1

-- ---- what stands behind the fields of the signed part, where those octets stand behind the CSR

abbrev pub behind_part : CertReq → List ℕ → List ℕ
behind_part request behind = spelling algorithm_identifier request.algorithm ++ (spelling bit_string request.signature ++ behind)

abbrev pub behind_key : CertReq → List ℕ → List ℕ
behind_key request behind = spelling (implicit 0 attributes) request.info.attributes ++ behind_part request behind

abbrev pub behind_subject : CertReq → List ℕ → List ℕ
behind_subject request behind = spelling subject_public_key_info request.info.public_key ++ behind_key request behind

-- what the view says of a CSR in these bytes, behind which those others stand
pub record IsRequest (bytes : List ℕ) (request : CertReq) (behind : List ℕ) (view : RequestView) : Type 0 where
  pub version : view.version ≡ version_of request.info.version
  pub subject : IsAt (spelling name request.info.subject) (behind_subject request behind) bytes view.subject
  pub subject_public_key_info : IsAt (spelling subject_public_key_info request.info.public_key) (behind_key request behind) bytes view.subject_public_key_info
  pub attributes : IsAt (spelling (implicit 0 attributes) request.info.attributes) (behind_part request behind) bytes view.attributes
  pub signature : IsSigned bytes (spelling cert_req_info request.info) request.algorithm request.signature behind view.signature
