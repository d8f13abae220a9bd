-- What is built where no two extensions have one OID.
use Rattle.std.proofs.Common.{◌≡◌, ◌∙◌, ℕ, List, Option, Result, Ok, Err, ap, inr}
use Rattle.x509_base.specs.Profiles.{rfc5280_serial_number}
use Rattle.x509_base.specs.declared.profile.Rfc5280.{Rfc5280}
use Rattle.x509_c_calls.specs.Assembly.{certificate_part}
use Rattle.x509_c_calls.specs.BuildMembers.{EncodesEntry, IsEntryOf}
use Rattle.x509_build.specs.RequestParts.{next_part}
use Rattle.x509_c_calls.proofs.Filled.{unrepeated_as}
use Rattle.x509_c_calls.specs.Built.{FillsUnrepeated, but_repeated}
use Rattle.x509_c_calls.specs.Calls.{Encodes}
use Rattle.x509_c_calls.specs.Certificates.{BuildsCertificate, IsPartOf}
use Rattle.x509_c_calls.specs.Refusals.{Finalizes}
use Rattle.x509_c_calls.specs.Requests.{AreRequestInputs, BuildsRequest}
use Rattle.x509_c_calls.specs.Status.{Fills}
use Rattle.x509_c_calls.specs.declared.build.request.RequestInputs.{RequestInputs}
use Rattle.x509_c_calls.specs.declared.status.status.Status.{Status}
use Rattle.x509_cert.specs.CertReq.{cert_req_info}
use Rattle.x509_cert.specs.RevokedCert.{revoked_cert}
use Rattle.x509_cert.specs.declared.certificate.tbs_certificate.TbsCertificateInner.{TbsCertificateInner}
use Rattle.x509_cert.specs.declared.crl.revoked_cert.RevokedCert.{RevokedCert}
use Rattle.x509_der.specs.Writing.{Writing, plain, writes}
use Rattle.x509_der.specs.declared.error.ErrorKind.{ErrorKind}
use Rattle.x509_ext.specs.LookUp.{IsRepeated, members}
use Rattle.x509_ext.specs.declared.extension.Extension.{Extension}

-- extensions that are lent are those of the list
pub lent_members : (lent : List Extension) (given list : Option (List Extension)) → lent ≡ members given → given ≡ list → lent ≡ members list
lent_members lent given list is same = is ∙ ap members same

module _ (writing : Writing (TbsCertificateInner Rfc5280)) (number algorithm issuer : List ℕ) (not_before not_after : ℕ) (subject key extensions : List ℕ) (part : TbsCertificateInner Rfc5280) where
  certificate_built : IsPartOf number algorithm issuer not_before not_after subject key extensions part → (¬ IsRepeated (members part.extensions)) → (answer : Result (List ℕ) ErrorKind)
      → Encodes certificate_part (writes writing part) answer → but_repeated (BuildsCertificate writing number algorithm issuer not_before not_after subject key extensions) answer
  certificate_built is distinct (Ok bytes) encodes = (part, is, distinct, encodes)
  certificate_built is distinct (Err e) encodes = inr (part, is, distinct, encodes)

  pub certificate_fills : IsPartOf number algorithm issuer not_before not_after subject key extensions part → (¬ IsRepeated (members part.extensions)) → (room filled : List ℕ) (was written : ℕ) (status : Status)
      → Fills (Encodes certificate_part (writes writing part)) room filled was written status → FillsUnrepeated (BuildsCertificate writing number algorithm issuer not_before not_after subject key extensions) room filled was written status
  certificate_fills is distinct room filled was written status left =
      unrepeated_as (Encodes certificate_part (writes writing part)) (BuildsCertificate writing number algorithm issuer not_before not_after subject key extensions) (certificate_built is distinct) room filled was written status left

module _ (number : List ℕ) (date : ℕ) (extensions : List ℕ) (entry : RevokedCert Rfc5280) where
  pub entry_built : IsEntryOf number date extensions entry → (¬ IsRepeated (members entry.crl_entry_extensions)) → (answer : Result (List ℕ) ErrorKind)
      → Encodes (revoked_cert rfc5280_serial_number) (writes plain entry) answer → but_repeated (EncodesEntry number date extensions) answer
  entry_built is distinct (Ok bytes) encodes = (entry, is, distinct, encodes)
  entry_built is distinct (Err e) encodes = inr (entry, is, distinct, encodes)

module _ (subject key attributes extensions : List ℕ) (inputs : RequestInputs) where
  pub request_built : AreRequestInputs subject key attributes extensions inputs → (¬ IsRepeated inputs.extensions.items) → (answer : Result (List ℕ) ErrorKind)
      → Finalizes cert_req_info plain (next_part inputs.subject inputs.attributes inputs.extensions.items inputs.key) answer → but_repeated (BuildsRequest subject key attributes extensions) answer
  request_built are distinct (Ok bytes) finalizes = (inputs, are, distinct, finalizes)
  request_built are distinct (Err e) finalizes = inr (inputs, are, distinct, finalizes)
