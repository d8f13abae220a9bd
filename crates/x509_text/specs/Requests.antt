-- Lines of PKCS #10 requests, CSRs (RFC 2986 4).
use Rattle.std.specs.Prelude.{ℕ, List, ◌++◌, bytes_eq, codes, if◌then◌else◌}
use Rattle.std.specs.List.{flat_map}
use Rattle.x509_cert.specs.ChallengePassword.{challenge_password}
use Rattle.x509_cert.specs.Identifiers.{pkcs_9}
use Rattle.x509_cert.specs.declared.request.attributes.ChallengePassword.{ChallengePassword}
use Rattle.x509_cert.specs.declared.request.cert_req.CertReq.{CertReq}
use Rattle.x509_cert.specs.declared.request.cert_req.CertReqInfo.{CertReqInfo}
use Rattle.x509_cert.specs.declared.request.version.Version.{Version}
use Rattle.x509_cert.specs.declared.request.version.Version.TheVariants.{V1}
use Rattle.x509_der.specs.declared.any.Any.{Any}
use Rattle.x509_ext.specs.Extension.{extensions}
use Rattle.x509_name.specs.declared.attr.attribute.Attribute.{Attribute}
use Rattle.x509_text.specs.declared.line.Place.{Place}
use Rattle.x509_text.specs.Algorithms.{algorithm_lines, key_lines}
use Rattle.x509_text.specs.Extensions.{extensions_lines}
use Rattle.x509_text.specs.GeneralNames.{string_line}
use Rattle.x509_text.specs.Lines.{line, below}
use Rattle.x509_text.specs.Payloads.{any_lines}
use Rattle.x509_text.specs.Usages.{value_line}
use Rattle.x509_text.specs.Values.{bits_lines, name_line, oid_line}

abbrev pub version_text : Version → List ℕ
version_text V1 = codes "v1"

-- ChallengePassword (RFC 2985 5.4.1)
abbrev pub password_line : Place → ChallengePassword → List ℕ
password_line at password = string_line at (codes "challenge password") password.0

-- the values of an attribute with this type: the extensions asked for (RFC 2985 5.4.2) and challenge passwords as such, others as elements
unfoldable pub values_lines : Place → List ℕ → List Any → List ℕ
values_lines at oid values =
    if bytes_eq oid (pkcs_9 14) then flat_map (any_lines extensions extensions_lines at) values
    else if bytes_eq oid (pkcs_9 7) then flat_map (any_lines challenge_password password_line at) values
    else flat_map (value_line at) values

-- an attribute (RFC 2986 4.1)
unfoldable pub attribute_lines : Place → Attribute → List ℕ
attribute_lines at a = oid_line at (codes "attribute") a.oid ++ values_lines (below at) a.oid a.values

-- a CertificationRequestInfo (RFC 2986 4.1)
unfoldable pub part_lines : Place → CertReqInfo → List ℕ
part_lines at part =
    line at (codes "version") (version_text part.version)
    ++ (name_line at (codes "subject") part.subject
    ++ (key_lines at part.public_key
    ++ flat_map (attribute_lines at) part.attributes))

-- a CSR (RFC 2986 4.2)
unfoldable pub request_lines : Place → CertReq → List ℕ
request_lines at request =
    part_lines at request.info
    ++ (algorithm_lines at (codes "signature algorithm") request.algorithm ++ bits_lines at (codes "signature") request.signature)
