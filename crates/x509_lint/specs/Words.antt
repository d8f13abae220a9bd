-- Words that several rules use.
use Rattle.std.specs.Prelude.{◌≡◌, ◌↔◌, ◌&&◌, ◌==◌, ℕ, Bool, false, not, nat_lt, List, [], ◌∷◌, length, map, Option, Some, None, bytes_eq}
use Rattle.std.specs.Char.{to_ascii_lowercase}
use Rattle.std.specs.List.{list_any}
use Rattle.x509_base.specs.CivilTime.{unix_seconds}
use Rattle.x509_base.specs.Time.{date_time_of}
use Rattle.x509_base.specs.declared.profile.Raw.{Raw}
use Rattle.x509_base.specs.declared.time.Time.{Time}
use Rattle.x509_base.specs.declared.time.Time.TheVariants.{UtcTime, GeneralTime}
use Rattle.x509_cert.specs.declared.certificate.certificate.CertificateInner.{CertificateInner}
use Rattle.x509_cert.specs.declared.crl.certificate_list.CertificateList.{CertificateList}
use Rattle.x509_der.specs.Form.{Form, Spells}
use Rattle.x509_ext.specs.LookUp.{members, with_oid}
use Rattle.x509_ext.specs.declared.extension.Extension.{Extension}

-- a certificate, and a CRL, whose serial numbers may have any number of octets
abbrev pub Certificate : Type 0
Certificate = CertificateInner Raw

abbrev pub Crl : Type 0
Crl = CertificateList Raw

abbrev pub extensions_of : Certificate → List Extension
extensions_of c = members c.tbs_certificate.extensions

abbrev pub crl_extensions_of : Crl → List Extension
crl_extensions_of l = members l.tbs_cert_list.crl_extensions

-- ---- texts, what may be absent, and lists

-- without regard to ASCII case
abbrev pub is_same : List ℕ → List ℕ → Bool
is_same text other = bytes_eq (map to_ascii_lowercase text) (map to_ascii_lowercase other)

abbrev pub is_empty : {X : Type 0} → List X → Bool
is_empty xs = length xs == 0

-- it is there, and passes the test
abbrev pub passes : {X : Type 0} → (X → Bool) → Option X → Bool
passes test None = false
passes test (Some x) = test x

-- ---- extensions (RFC 5280 4.2)

abbrev pub is_of : List ℕ → Extension → Bool
is_of oid extension = bytes_eq extension.extn_id oid

-- some extension has the OID
abbrev pub has : List ℕ → List Extension → Bool
has oid extensions = list_any (λ e. is_of oid e) extensions

-- some extension has the OID, and is critical
abbrev pub has_critical : List ℕ → List Extension → Bool
has_critical oid extensions = list_any (λ e. is_of oid e && e.critical) extensions

-- some extension has the OID, and isn't critical
abbrev pub has_uncritical : List ℕ → List Extension → Bool
has_uncritical oid extensions = list_any (λ e. is_of oid e && not e.critical) extensions

-- one has the OID, and its octets spell the value
abbrev pub HasPayload : {T : Type 0} → Form T → List ℕ → List Extension → T → Type 0
HasPayload form oid extensions value = (e : Extension) × (with_oid oid extensions ≡ e ∷ []) × Spells form value e.extn_value

-- the value of the one extension that has the OID; None where none has it, several have it, or its octets spell no value
abbrev pub IsValue : {T : Type 0} → Form T → List ℕ → List Extension → Option T → Type 0
IsValue {T} form oid extensions found = (value : T) → HasPayload form oid extensions value ↔ (found ≡ Some value)

-- the value that the octets spell; None where they spell none
abbrev pub IsSpelled : {T : Type 0} → Form T → List ℕ → Option T → Type 0
IsSpelled {T} form octets found = (value : T) → Spells form value octets ↔ (found ≡ Some value)

-- ---- times (RFC 5280 4.1.2.5)

-- a date through 2049, which has to be a UTCTime, as GeneralizedTime
abbrev pub is_early_general : Time → Bool
is_early_general (UtcTime c) = false
is_early_general (GeneralTime c) = nat_lt c.year 2050

abbrev pub is_before : Time → Time → Bool
is_before time other = nat_lt (unix_seconds (date_time_of time)) (unix_seconds (date_time_of other))
