-- Where bytes stop being a certificate, a CRL or a CSR.
use Rattle.std.specs.Prelude.{ℕ, List, [], ◌∷◌, length, nat_lt, Option, Some, None, if◌then◌else◌}
use Rattle.std.specs.Option.{option_map}
use Rattle.x509_base.specs.declared.profile.Raw.{Raw}
use Rattle.x509_cert.specs.CertReq.{cert_req}
use Rattle.x509_cert.specs.Certificate.{certificate}
use Rattle.x509_cert.specs.CertificateList.{certificate_list}
use Rattle.x509_cert.specs.Respelling.{no_check}
use Rattle.x509_cert.specs.declared.certificate.certificate.CertificateInner.{CertificateInner}
use Rattle.x509_cert.specs.declared.crl.certificate_list.CertificateList.{CertificateList}
use Rattle.x509_cert.specs.declared.request.cert_req.CertReq.{CertReq}
use Rattle.x509_der.specs.Element.{limit}
use Rattle.x509_der.specs.Form.{Spells}
use Rattle.x509_refusal.specs.Unread.{closest, unread_from, unread_place}
use Rattle.x509_refusal.specs.declared.field.Field.{Field}
use Rattle.x509_refusal.specs.declared.field.Field.TheVariants as fields
use Rattle.x509_refusal.specs.declared.place.Kind.{Kind}
use Rattle.x509_refusal.specs.declared.place.Kind.TheVariants as kinds
use Rattle.x509_refusal.specs.declared.place.Place.{Place}
use Rattle.x509_refusal.specs.declared.place.Refusal.{Refusal}

-- the bytes are the encoding of an object of this kind (RFC 5280 4.1, 5.1; RFC 2986 4.2), with any serial number
abbrev pub IsObject : Kind → List ℕ → Type 0
IsObject kinds.Certificate bytes = (c : CertificateInner Raw) × Spells (certificate no_check) c bytes
IsObject kinds.Crl bytes = (c : CertificateList Raw) × Spells (certificate_list no_check) c bytes
IsObject kinds.Csr bytes = (c : CertReq) × Spells cert_req c bytes

abbrev pub whole_of : Kind → Field
whole_of kinds.Certificate = fields.Certificate
whole_of kinds.Crl = fields.CertificateList
whole_of kinds.Csr = fields.CertificationRequest

-- the place of the first field that can't be read: the object as a whole, then what is within it
abbrev pub unread_whole : Field → List ℕ → Option Place
unread_whole whole bytes = option_map (closest bytes) (unread_from whole (length bytes) (whole ∷ []) bytes)

-- where bytes stop being an object of this kind; of more than an element has, at its front
abbrev pub unread : Kind → List ℕ → Option Place
unread kind bytes = if nat_lt limit (length bytes) then Some (unread_place (whole_of kind) 0) else unread_whole (whole_of kind) bytes

abbrev pub refusal_of : Kind → Place → Refusal
refusal_of kind place = record { kind = kind; place = place }

abbrev pub refusal_as : Kind → List ℕ → Option Refusal
refusal_as kind bytes = option_map (refusal_of kind) (unread kind bytes)

-- of two that with the greater offset; of equals the first
abbrev pub farther : Refusal → Refusal → Refusal
farther first second = if nat_lt first.place.offset second.place.offset then second else first

abbrev pub farthest_of : Option Place → Option Place → Option Place → Option Refusal
farthest_of None crl csr = None
farthest_of (Some certificate) None csr = None
farthest_of (Some certificate) (Some crl) None = None
farthest_of (Some certificate) (Some crl) (Some csr) =
    Some (farther (farther (refusal_of kinds.Certificate certificate) (refusal_of kinds.Crl crl)) (refusal_of kinds.Csr csr))

-- where bytes stop being what they are most like, where they are neither a certificate nor a CRL nor a CSR
abbrev pub farthest : List ℕ → Option Refusal
farthest bytes = farthest_of (unread kinds.Certificate bytes) (unread kinds.Crl bytes) (unread kinds.Csr bytes)
