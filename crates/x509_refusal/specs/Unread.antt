-- The first field that can't be read, where those before it are read one behind the other.
use Rattle.std.specs.Prelude.{◌≡◌, ℕ, zero, suc, ◌-◌, true, false, List, [], ◌∷◌, length, drop, nat_eq, Option, Some, None, Result, Ok, Err, if◌then◌else◌}
use Rattle.x509_base.specs.AlgorithmIdentifier.{algorithm_identifier}
use Rattle.x509_base.specs.Serial.{serial_number}
use Rattle.x509_base.specs.SubjectPublicKeyInfo.{subject_public_key_info}
use Rattle.x509_base.specs.Time.{time}
use Rattle.x509_base.specs.Validity.{validity}
use Rattle.x509_base.specs.declared.profile.Raw.{Raw}
use Rattle.x509_cert.specs.CertReq.{attributes, cert_req, cert_req_info}
use Rattle.x509_cert.specs.Certificate.{certificate}
use Rattle.x509_cert.specs.CertificateList.{certificate_list, tbs_cert_list}
use Rattle.x509_cert.specs.RequestVersion as requests
use Rattle.x509_cert.specs.Respelling.{no_check}
use Rattle.x509_cert.specs.RevokedCert.{revoked_cert}
use Rattle.x509_cert.specs.TbsCertificate.{tbs_certificate}
use Rattle.x509_cert.specs.Version.{version, version_default}
use Rattle.x509_der.specs.ElementReading.{Piece, piece_at}
use Rattle.x509_der.specs.Form.{is_empty, universal}
use Rattle.x509_der.specs.Frames.{defaulted, explicit, implicit, optional, required}
use Rattle.x509_der.specs.List.{list_of}
use Rattle.x509_der.specs.declared.error.Error.{Error}
use Rattle.x509_der.specs.declared.error.ErrorKind.{ErrorKind}
use Rattle.x509_der.specs.declared.tag.Tag.TheVariants.{Sequence}
use Rattle.x509_ext.specs.Extension.{extension, extensions}
use Rattle.x509_name.specs.Names.{name}
use Rattle.x509_prim.specs.BitString.{bit_string}
use Rattle.x509_refusal.specs.Fields.{fields_of, member_of, octet_of}
use Rattle.x509_refusal.specs.declared.field.Field.{Field}
use Rattle.x509_refusal.specs.declared.field.Field.TheVariants as fields
use Rattle.x509_refusal.specs.declared.place.Place.{Place}

-- ---- one field

-- what stands behind a part that is read; None where it can't be
abbrev pub left_by : {X : Type 0} → Result (X × List ℕ) ErrorKind → Option (List ℕ)
left_by (Ok found) = Some found.1
left_by (Err e) = None

-- What stands behind a field at the front, by its grammar line; None where it can't be read there (RFC 5280 4.1, 5.1; RFC 2986 4.1, 4.2).
unfoldable pub behind : Field → List ℕ → Option (List ℕ)
behind fields.Certificate bytes = left_by ((required (certificate {P = Raw} no_check)).reading bytes)
behind fields.TbsCertificate bytes = left_by ((required (tbs_certificate {P = Raw} no_check)).reading bytes)
behind fields.Version bytes = left_by ((defaulted version_default (explicit 0 version)).reading bytes)
behind fields.SerialNumber bytes = left_by ((required (serial_number no_check)).reading bytes)
behind fields.Signature bytes = left_by ((required algorithm_identifier).reading bytes)
behind fields.Issuer bytes = left_by ((required name).reading bytes)
behind fields.Validity bytes = left_by ((required (validity {P = Raw})).reading bytes)
behind fields.NotBefore bytes = left_by ((required time).reading bytes)
behind fields.NotAfter bytes = left_by ((required time).reading bytes)
behind fields.Subject bytes = left_by ((required name).reading bytes)
behind fields.SubjectPublicKeyInfo bytes = left_by ((required subject_public_key_info).reading bytes)
behind fields.IssuerUniqueId bytes = left_by ((optional (implicit 1 bit_string)).reading bytes)
behind fields.SubjectUniqueId bytes = left_by ((optional (implicit 2 bit_string)).reading bytes)
behind fields.Extensions bytes = left_by ((optional (explicit 3 extensions)).reading bytes)
behind fields.ExtensionList bytes = left_by ((required extensions).reading bytes)
behind fields.Extension bytes = left_by ((required extension).reading bytes)
behind fields.SignatureAlgorithm bytes = left_by ((required algorithm_identifier).reading bytes)
behind fields.SignatureValue bytes = left_by ((required bit_string).reading bytes)
behind fields.CertificateList bytes = left_by ((required (certificate_list {P = Raw} no_check)).reading bytes)
behind fields.TbsCertList bytes = left_by ((required (tbs_cert_list {P = Raw} no_check)).reading bytes)
behind fields.CrlVersion bytes = left_by ((optional version).reading bytes)
behind fields.CrlSignature bytes = left_by ((required algorithm_identifier).reading bytes)
behind fields.CrlIssuer bytes = left_by ((required name).reading bytes)
behind fields.ThisUpdate bytes = left_by ((required time).reading bytes)
behind fields.NextUpdate bytes = left_by ((optional time).reading bytes)
behind fields.RevokedCertificates bytes = left_by ((optional (universal Sequence (list_of (revoked_cert {P = Raw} no_check)))).reading bytes)
behind fields.RevokedCertificate bytes = left_by ((required (revoked_cert {P = Raw} no_check)).reading bytes)
behind fields.CrlExtensions bytes = left_by ((optional (explicit 0 extensions)).reading bytes)
behind fields.CrlExtensionList bytes = left_by ((required extensions).reading bytes)
behind fields.CrlExtension bytes = left_by ((required extension).reading bytes)
behind fields.CertificationRequest bytes = left_by ((required cert_req).reading bytes)
behind fields.CertificationRequestInfo bytes = left_by ((required cert_req_info).reading bytes)
behind fields.RequestVersion bytes = left_by ((required requests.version).reading bytes)
behind fields.RequestSubject bytes = left_by ((required name).reading bytes)
behind fields.SubjectPkInfo bytes = left_by ((required subject_public_key_info).reading bytes)
behind fields.Attributes bytes = left_by ((required (implicit 0 attributes)).reading bytes)
behind fields.RequestSignature bytes = left_by ((required bit_string).reading bytes)

-- a call passes over what has this behind it, or is refused where it can't be read
abbrev pub Leaves : Result Unit Error → List ℕ → Option (List ℕ) → Type 0
Leaves (Ok done) rest left = left ≡ Some rest
Leaves (Err e) rest left = left ≡ None

-- ---- one sequence

abbrev pub unread_place : Field → ℕ → Place
unread_place field offset = record { field = field; offset = offset; is_behind = false }

abbrev pub behind_place : Field → ℕ → Place
behind_place field offset = record { field = field; offset = offset; is_behind = true }

-- behind the last field: octets that don't belong to it, or none
abbrev pub unread_behind : Field → ℕ → List ℕ → Option Place
unread_behind whole end rest = if is_empty rest then None else Some (behind_place whole (end - length rest))

-- a field, and those behind it where it is read
abbrev pub unread_at : Field → ℕ → (List ℕ → Option Place) → Option (List ℕ) → Option Place
unread_at field offset others None = Some (unread_place field offset)
unread_at field offset others (Some rest) = others rest

-- The first of the fields that can't be read, one behind the other, in octets that end at an offset; else what stands behind them.
abbrev pub unread_from : Field → ℕ → List Field → List ℕ → Option Place
unread_from whole end [] octets = unread_behind whole end octets
unread_from whole end (field ∷ others) octets = unread_at field (end - length octets) (unread_from whole end others) (behind field octets)

-- all fields of a field are read, one behind the other, and nothing stands behind them
abbrev pub AreRead : Field → List ℕ → Type 0
AreRead field octets = (end : ℕ) → unread_from field end (fields_of field) octets ≡ None

-- the first of the members that can't be read, up to the end of the octets, at most n
unfoldable pub unread_members_at : ℕ → Field → ℕ → List ℕ → Option Place
unread_members_at n member end [] = None
unread_members_at zero member end (octet ∷ octets) = None
unread_members_at (suc n) member end (octet ∷ octets) =
    unread_at member (end - length (octet ∷ octets)) (unread_members_at n member end) (behind member (octet ∷ octets))

abbrev pub unread_members : Field → ℕ → List ℕ → Option Place
unread_members member end octets = unread_members_at (length octets) member end octets

-- ---- from a place to one within it

-- the first of the fields of a field that can't be read; None where it has none
abbrev pub unread_among : Field → ℕ → List Field → List ℕ → Option Place
unread_among whole end [] content = None
unread_among whole end (field ∷ others) content = unread_from whole end (field ∷ others) content

abbrev pub unread_part : Field → ℕ → Option Field → List ℕ → Option Place
unread_part field end None content = unread_among field end (fields_of field) content
unread_part field end (Some member) content = unread_members member end content

-- the first of the members of a field, or of its fields, in its content, which ends at an offset
abbrev pub unread_in : Field → ℕ → List ℕ → Option Place
unread_in field end content = unread_part field end (member_of field) content

-- in the element that is read at the field's place, where its identifier octet is the field's
abbrev pub unread_piece : Field → ℕ → Result Piece ErrorKind → Option Place
unread_piece field count (Err e) = None
unread_piece field count (Ok piece) = if nat_eq piece.tag (octet_of field) then unread_in field (count - length piece.rest) piece.content else None

abbrev pub or_place : Place → Option Place → Place
or_place place None = place
or_place place (Some inner) = inner

-- The place within the field at a place that can't be read; the place itself where there is none, and of octets behind the last field.
abbrev pub closer : List ℕ → Place → Place
closer bytes place =
    if place.is_behind then place
    else or_place place (unread_piece place.field (length bytes) (piece_at (drop place.offset bytes)))

-- the innermost: from a certificate to its signed part, the extensions, their list, and one of them
abbrev pub closest : List ℕ → Place → Place
closest bytes place = closer bytes (closer bytes (closer bytes (closer bytes place)))
